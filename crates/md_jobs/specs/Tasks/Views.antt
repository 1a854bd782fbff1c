pub mod Stages
pub mod Errands
pub mod Bodies
