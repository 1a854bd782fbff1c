pub mod NoFolder
