-- The lines of the input, and the row that each gets.
pub mod Lines
pub mod Rows
pub mod Meanings
pub mod Shown
