pub mod Deals
pub mod Gathering
