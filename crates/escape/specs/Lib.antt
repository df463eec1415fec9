-- Escapes: how a list of bytes falls into tokens, what it means with its escapes resolved, and how bytes are spelled.
pub mod Tokens
pub mod Fronts
pub mod Spelling
pub mod Resolving
pub mod Texts
