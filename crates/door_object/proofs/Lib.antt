pub mod AsMade
pub mod OwnerLists
