pub mod Checks
pub mod Exchanges
pub mod Flaws
pub mod Gathering
pub mod Hints
pub mod Listings
pub mod Shown
pub mod Steps
