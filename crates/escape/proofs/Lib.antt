pub mod Opening
pub mod ByTokens
pub mod Walking
pub mod Chunks
pub mod Fronting
