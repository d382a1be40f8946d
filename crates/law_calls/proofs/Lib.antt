pub mod Alls
pub mod Free
pub mod Backing
pub mod Leaving
pub mod Beginning
