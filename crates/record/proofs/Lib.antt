pub mod Places
pub mod Texts
pub mod Lying
pub mod Backs
pub mod Rounds
