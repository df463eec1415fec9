-- Lines: what one line of bytes means, or why it is turned away and where.
pub mod Forms
pub mod Lines
pub mod Meanings
pub mod Reads
pub mod Cuts
pub mod Fields
pub mod Shown
