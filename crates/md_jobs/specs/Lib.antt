pub mod Pieces
pub mod Asked
pub mod Turn
pub mod Tasks
pub mod Machines
pub mod Requests
pub mod Made
pub mod Laws
