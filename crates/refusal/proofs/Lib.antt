-- Laws that the proofs of the refusals share.
pub mod InputLaws
pub mod ChunkLaws
