pub mod Queues
pub mod Serials
pub mod Sizes
