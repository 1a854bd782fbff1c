pub mod Bind
pub mod Words
pub mod Escapes
pub mod Places
pub mod Flags
pub mod Folders
