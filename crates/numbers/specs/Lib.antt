-- The rules of answers to BROWSE, the codec of the link, and the ten numbers.
pub mod Browse
pub mod Ours
pub mod Meanings
pub mod Addresses
pub mod Slots
pub mod Ten
