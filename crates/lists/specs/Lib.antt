pub mod Ring
pub mod Pool
pub mod Lists
pub mod Check
pub mod Fresh
pub mod Kinds
