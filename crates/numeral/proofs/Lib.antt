pub mod Numerals
pub mod Places
