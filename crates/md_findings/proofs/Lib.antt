pub mod Tallying
pub mod Alike
pub mod ClearLogs
