mod NoTable
mod Copied
mod FreeTable
pub mod Referring
pub mod TableCounts
pub mod Lowering
pub mod NameCounts
pub mod TransitCounts
mod Carried
pub mod Bounds
pub mod Handing
pub mod Telling
