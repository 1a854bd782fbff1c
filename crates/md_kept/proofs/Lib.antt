pub mod Keys
pub mod Directories
pub mod Coming
