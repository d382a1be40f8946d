pub mod Outcomes
pub mod Input
pub mod Status
pub mod Top
