pub mod Causes
pub mod Changes
pub mod Drafts
pub mod Errands
pub mod Folders
pub mod Keys
pub mod Mailbox
pub mod Rows
