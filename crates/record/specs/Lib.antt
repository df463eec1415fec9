-- Records: what the fields of a status message mean, and how they are written.
pub mod Records
pub mod Reads
pub mod Writes
pub mod Spans
pub mod Laws
pub mod Shown
