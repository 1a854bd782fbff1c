pub mod Stays
pub mod Deliver
pub mod Errand
pub mod Clean
pub mod EachTurn
pub mod Wrapping
