-- Writing: the canonical line of a message, and a writer that puts it into a caller's buffer.
pub mod Canonical
pub mod Laws
pub mod Writing
pub mod Rewriting
