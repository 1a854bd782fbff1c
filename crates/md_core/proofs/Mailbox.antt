pub mod Shown
pub mod Changes
pub mod Naming
pub mod Renamed
pub mod Paths
pub mod WholeName
pub mod Allowed
pub mod Wholeness
