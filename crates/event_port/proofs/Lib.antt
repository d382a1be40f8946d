mod Changed
mod Named
mod Taken
mod Timers
