pub mod LoadLength
pub mod LoadLines
pub mod LoadSpelled
pub mod Writing
pub mod LoadRead
pub mod LoadAll
pub mod Unscheduled
