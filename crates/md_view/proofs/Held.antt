-- Names of a store, held folder by folder.
pub mod Fitting
pub mod Placing
pub mod Trees
pub mod Holding
pub mod Changing
pub mod Applying
pub mod Renaming
pub mod Opening
