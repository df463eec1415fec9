pub mod Cutting
mod Steps
