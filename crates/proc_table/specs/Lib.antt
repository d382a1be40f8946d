pub mod Begins
pub mod Ends
pub mod Words
pub mod Standing
pub mod Crews
pub mod Walk
