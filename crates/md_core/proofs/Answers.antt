pub mod LastStep
pub mod OfFault
pub mod Moments
pub mod AllSay
pub mod Turns
pub mod Touches
pub mod Files
