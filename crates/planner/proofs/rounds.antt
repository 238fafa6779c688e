-- Laws that the proofs of the rounds share.
pub mod RoundLaws
