pub mod Lists
pub mod Entries
pub mod Rules
pub mod Calls
pub mod TurnCalls
