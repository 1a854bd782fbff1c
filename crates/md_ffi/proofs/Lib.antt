pub mod Filed
pub mod Listed
pub mod Records
pub mod Refused
pub mod Steps
pub mod Values
