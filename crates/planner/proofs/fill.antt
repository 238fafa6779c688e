-- Laws of filling the table of differences.
pub mod FillLaws
