pub mod Replies
pub mod Bytes
pub mod Does
pub mod Turns
