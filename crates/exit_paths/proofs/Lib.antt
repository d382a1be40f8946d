pub mod Alike
mod Fated
pub mod LeftThreads
pub mod MadeRoom
mod ItemsLeft
mod Transit
mod QueuesLeft
mod CallersLeft
mod Exited
mod CallsSoFar
mod DoorsLost
mod ForkLeft
mod Untaken
mod Unmoved
mod Alone
mod RoomLeft
mod OneLeaves
mod KeptTogether
pub mod Together
pub mod First
pub mod Owned
pub mod Walked
