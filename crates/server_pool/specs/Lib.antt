pub mod Ordered
pub mod Stack
pub mod Pool
pub mod Pools
pub mod Words
