pub mod NameTables
pub mod Sys
pub mod Schedules
pub mod TurnRequests
pub mod Turns
pub mod Playing
pub mod Threads
pub mod Words
