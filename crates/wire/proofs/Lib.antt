pub mod SpotLaws
pub mod SurveyLaws
pub mod SpliceLaws
pub mod ProgressLaws
