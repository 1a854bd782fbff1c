pub mod Deal
pub mod Index
