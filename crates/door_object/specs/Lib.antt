pub mod OwnerLists
