pub mod Tables
pub mod Few
pub mod Directories
pub mod Changes
pub mod Files
pub mod Messages
pub mod Drafts
pub mod Replies
