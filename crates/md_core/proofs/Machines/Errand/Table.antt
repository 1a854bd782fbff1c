pub mod Calls
pub mod Rows
pub mod Alone
pub mod Checks
pub mod Deeds
pub mod Does
pub mod Says
pub mod Loads
