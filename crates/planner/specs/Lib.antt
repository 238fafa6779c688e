-- What the planner's contracts cite beside rank1: the answers, the sizes of the tables, and what the private functions say of them.
pub mod Answer
pub mod Sizes
pub mod ValidOnce
pub mod Lists
pub mod Inner
pub mod Levels
pub mod Exchange
pub mod Members
pub mod Table
pub mod Runs
pub mod Sieve
pub mod Stage
