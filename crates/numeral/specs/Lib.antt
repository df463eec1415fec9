-- Numbers in decimal digits: what they mean, and how they are written.
pub mod Numbers
