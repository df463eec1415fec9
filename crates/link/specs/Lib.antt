-- What the values of a link mean in the words of its whole life, and what its calls answer. To be read in this order.
pub mod Meanings
pub mod Steps
pub mod Submitting
pub mod Shown
