pub mod Firsts
pub mod Cuts
pub mod Marks
pub mod Growing
pub mod Printing
pub mod Escaping
pub mod Digits
pub mod Numbered
