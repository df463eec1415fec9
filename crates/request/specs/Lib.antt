-- Requests: an address and a body with its escapes, taken as one command line with the right check.
pub mod Requests
pub mod Laws
pub mod Preparing
