pub mod Going
pub mod Begun
pub mod AloneAnswers
