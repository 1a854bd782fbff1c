pub mod Loadable
pub mod Leaving
pub mod Names
pub mod Asks
pub mod EachRun
pub mod OfWorld
