pub mod Separation
pub mod Memory
pub mod Smallest
