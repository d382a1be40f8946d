pub mod Copied
pub mod Abandoned
