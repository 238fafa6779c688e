-- Laws of map, spread and gather: counts, sums, quotients.
pub mod SumSteps
pub mod SignedSteps
