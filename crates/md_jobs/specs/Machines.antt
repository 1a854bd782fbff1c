pub mod Refusals
pub mod Deliver
pub mod Clean
pub mod Purposes
pub mod Errand
