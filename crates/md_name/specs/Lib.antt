pub mod Letters
pub mod Names
pub mod Made
pub mod Words
pub mod FileNames
pub mod WordSets
