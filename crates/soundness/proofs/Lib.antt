pub mod CheckLaws
pub mod AnswerLaws
