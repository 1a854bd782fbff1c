pub mod Spares
pub mod Frames
pub mod Calls
pub mod Quiet
