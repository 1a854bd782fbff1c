-- What the interface of C says: its numbers, what a handle owns, and what each call does to the world behind it.
pub mod Asking
pub mod Beginning
pub mod Calling
pub mod Doing
pub mod Files
pub mod Handled
pub mod Judging
pub mod Keeping
pub mod Loads
pub mod Naming
pub mod Reading
pub mod Records
pub mod Slots
