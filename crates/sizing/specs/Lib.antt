pub mod Answers
pub mod Cut
pub mod NearestBits
