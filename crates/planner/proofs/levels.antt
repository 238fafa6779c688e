-- Laws of the levels of a list.
pub mod LevelLaws
