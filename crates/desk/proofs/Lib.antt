pub mod Ends
pub mod Parts
pub mod Others
