mod Kept
mod Marks
mod RightKinds
mod Pumping
pub mod Submits
