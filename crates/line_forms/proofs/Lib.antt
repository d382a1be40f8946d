pub mod FlagSearch
pub mod Numbering
pub mod PathSearch
pub mod FlagsOfSet
