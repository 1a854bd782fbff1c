pub mod Answers
pub mod Growing
pub mod Notes
pub mod Rows
pub mod Steps
