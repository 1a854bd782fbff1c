pub mod Values
pub mod History
pub mod Messages
pub mod Files
pub mod Readings
pub mod Answers
pub mod Clauses
pub mod Law
