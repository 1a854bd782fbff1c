pub mod LookUps
pub mod Reading
