pub mod Create
pub mod Append
pub mod Link
pub mod Unlink
pub mod Rename
pub mod Remove
