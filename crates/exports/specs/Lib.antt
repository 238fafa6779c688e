-- What the contracts of the exports cite beside the planner's and rank1's definitions.
pub mod Numbers
