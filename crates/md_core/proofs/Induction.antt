pub mod Good
pub mod Knowing
pub mod Going
pub mod Keeping
pub mod GoodRuns
