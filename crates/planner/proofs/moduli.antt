-- Laws that the proofs of the moduli share.
pub mod ModuliLaws
