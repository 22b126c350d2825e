pub mod Told
pub mod Compared
pub mod Fresh
pub mod Steps
