pub mod Counted
pub mod Paths
pub mod Tries
pub mod StaysInCur
pub mod OfSpan
pub mod OfMailbox
