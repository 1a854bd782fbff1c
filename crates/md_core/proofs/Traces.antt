-- Traces of runs.
pub mod Same
pub mod Stands
pub mod Few
pub mod Headline
pub mod Clock
pub mod Plain
pub mod Begun
pub mod OneClock
pub mod Files
pub mod Old
pub mod All
pub mod Grown
pub mod Shown
pub mod Kept
