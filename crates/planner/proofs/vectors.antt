-- Laws that the proofs of the vectors share.
pub mod LargestLaws
