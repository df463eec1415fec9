-- How a stream of bytes is cut into lines, and how much of a line is held until it ends.
pub mod Stream
pub mod Cutting
pub mod Unfinished
