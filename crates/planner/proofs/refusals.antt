-- Laws of the refusals: what a call that is not refused was handed.
pub mod HandedLaws
