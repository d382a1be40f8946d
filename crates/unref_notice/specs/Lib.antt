pub mod Counted
pub mod Counting
pub mod DoorCounts
pub mod Left
pub mod Value
pub mod Words
