pub mod Deed
pub mod Errand
pub mod Delivery
pub mod Cleaning
pub mod Views
