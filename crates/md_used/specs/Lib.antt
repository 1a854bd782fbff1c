pub mod Loading
pub mod Paths
pub mod Seen
pub mod Used
