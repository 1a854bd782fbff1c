pub mod Ongoing
pub mod Rules
pub mod Pages
pub mod Publishing
pub mod Locks
pub mod Listing
pub mod Calling
