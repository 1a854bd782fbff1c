pub mod Laid
pub mod Wrapping
