pub mod OneMessage
pub mod Refusals
pub mod OfDeliver
pub mod OfErrand
pub mod OfClean
pub mod EachSays
pub mod Told
