pub mod Growing
pub mod Opens
pub mod Shaping
pub mod Standing
pub mod Woken
