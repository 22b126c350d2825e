pub mod OutputLaws
pub mod WrittenLaws
