-- Scripts by their lines, what a desk makes of a call, and the row that is shown of it.
pub mod Lines
pub mod Desks
pub mod Shown
