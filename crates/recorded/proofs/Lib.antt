pub mod ComparedLaws
pub mod FreshLaws
pub mod StepsLaws
