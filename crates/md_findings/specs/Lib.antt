pub mod Asked
pub mod Faults
pub mod Json
pub mod Judged
pub mod Probes
pub mod Showing
pub mod Tallies
pub mod Walks
