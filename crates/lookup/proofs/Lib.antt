mod Levels
pub mod WellFormed
pub mod InTable
pub mod Finding
