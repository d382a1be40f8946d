mod Acts
mod Alike
mod AnyOrder
mod There
mod Failed
mod FailedHere
mod FailingParts
mod Giving
mod GivingServed
mod ItemRoom
mod LeftOut
mod LeftStore
mod Made
mod MadeNotice
mod EventRoom
mod Naming
pub mod Others
pub mod Short
mod Spares
mod PortsTold
mod Threads
mod Parking
mod Lost
pub mod Turns
mod Unended
mod HeldNotices
pub mod Knowing
pub mod Waits
pub mod PortWaits
mod Forking
mod Copied
mod LostDoor
