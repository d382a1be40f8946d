pub mod NameTable
pub mod Words
