pub mod Window
pub mod Laid
pub mod Allotting
