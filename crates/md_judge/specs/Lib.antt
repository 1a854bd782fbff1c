pub mod Logs
pub mod Clauses
pub mod Grades
pub mod Verdict
pub mod Orders
pub mod Placed
pub mod Taken
