pub mod Fronts
pub mod Moved
pub mod NumbersWhere
pub mod ThreadBits
pub mod ThreadMembers
