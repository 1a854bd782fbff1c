pub mod Driving
pub mod Laying
pub mod Numbers
pub mod Requested
pub mod Shown
pub mod Tasks
