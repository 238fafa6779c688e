-- Theorems of the calls, for readers.
pub mod CallTheorems
pub mod SearchTheorems
pub mod NoRowsTheorems
pub mod BoundTheorems
pub mod LowerTheorems
-- Laws that the proofs of the calls, and of more than one module, share; those of one module stand in its folder.
pub mod CallLaws
pub mod SearchCalls
pub mod Writing
pub mod RowLaws
