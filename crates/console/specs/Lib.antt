-- What is shown of values, as bytes.
pub mod Shown
