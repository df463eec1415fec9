pub mod Lawful
pub mod Texts
pub mod Kept
pub mod Standing
