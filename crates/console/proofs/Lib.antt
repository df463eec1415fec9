pub mod Characters
pub mod Spelling
