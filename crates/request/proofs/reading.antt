-- Laws that the proofs of the reading functions cite.
pub mod DigitLaws
pub mod UnsignedLaws
pub mod ByteLaws
pub mod SignedLaws
pub mod LineLaws
pub mod HeadLaws
pub mod RowLaws
pub mod AskedLaws
