-- Laws that the proofs of the writing functions cite.
pub mod WroteLaws
