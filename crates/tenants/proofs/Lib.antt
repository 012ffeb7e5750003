pub mod Separation
pub mod Smallest
pub mod Memory
mod Carried
pub mod Revoking
pub mod Reusing
