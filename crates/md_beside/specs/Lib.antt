pub mod Story
pub mod Beside
pub mod Jobs
pub mod Runs
pub mod OnDisk
pub mod Relied
