-- Laws of the sieve.
pub mod Parts
pub mod SieveLaws
pub mod SolutionLaws
pub mod FirstSieve
