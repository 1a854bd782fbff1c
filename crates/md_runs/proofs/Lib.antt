pub mod WordLists
pub mod Submitting
pub mod Reporting
pub mod MadeTexts
pub mod FirstLines
pub mod Stops
