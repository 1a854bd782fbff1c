pub mod Booleans
pub mod Orders
pub mod Options
pub mod Pushed
pub mod Maps
pub mod Members
