pub mod Booting
pub mod Asking
pub mod Serving
