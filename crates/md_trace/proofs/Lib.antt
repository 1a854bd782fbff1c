pub mod Grown
pub mod Lined
