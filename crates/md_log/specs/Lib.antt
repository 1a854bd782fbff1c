pub mod Texts
pub mod Words
pub mod Names
pub mod Folders
pub mod Lines
