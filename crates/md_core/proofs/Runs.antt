pub mod Events
pub mod ByEvent
pub mod Extended
pub mod Going
