pub mod Loops
pub mod Devices
pub mod Bodies
pub mod Cutting
pub mod Tests
pub mod Indices
