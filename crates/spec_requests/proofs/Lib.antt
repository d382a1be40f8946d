pub mod WrittenOut
pub mod Elements
pub mod Children
pub mod SoundFrames
pub mod SoundScripts
