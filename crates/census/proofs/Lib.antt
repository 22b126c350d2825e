pub mod CountLaws
pub mod WalkedLaws
pub mod VouchLaws
pub mod ArrowLaws
pub mod CheckLaws
pub mod StandLaws
