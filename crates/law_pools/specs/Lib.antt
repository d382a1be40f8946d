pub mod Agreement
pub mod Touched
pub mod Leaving
pub mod Words
