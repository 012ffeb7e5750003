mod Requested
mod Gone
mod Performed
mod Carried
mod BootRows
mod BootAnswers
pub mod Determined
