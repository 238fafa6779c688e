-- Laws of the table of differences.
pub mod TableLaws
