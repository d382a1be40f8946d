pub mod Rows
pub mod Duplicated
