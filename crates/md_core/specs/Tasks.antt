pub mod Task
pub mod Views
