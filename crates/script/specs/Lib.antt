-- Scripts: what a line of a script asks for.
pub mod Script
pub mod Meanings
