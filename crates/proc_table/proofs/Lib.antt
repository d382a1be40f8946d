pub mod Members
pub mod Noting
pub mod Others
pub mod Places
pub mod Walking
pub mod Begun
