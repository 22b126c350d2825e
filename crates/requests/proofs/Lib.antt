pub mod KeyLaws
pub mod InsertLaws
pub mod EvictOneLaws
pub mod ClearLaws
