pub mod Digest
pub mod Ops
pub mod Words
