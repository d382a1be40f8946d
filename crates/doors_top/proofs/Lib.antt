pub mod Checks
pub mod Frames
pub mod LineCounts
pub mod Loads
pub mod LoadWords
pub mod Plays
pub mod Replays
pub mod Runs
