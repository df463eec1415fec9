-- A link's whole life, to be read in this order.
pub mod Codec
pub mod Calls
pub mod Answers
pub mod Player
pub mod Promises
pub mod Link
pub mod Kept
pub mod Possible
