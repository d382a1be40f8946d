pub mod Lists
pub mod NumberedLists
pub mod KeptLists
pub mod DoorNumbers
pub mod Places
pub mod ChangedNumbers
pub mod Passing
pub mod Moments
