-- What a reader has to believe: the terms of document 01, a file for each of its sections, in its order, and of document 02 (Tally: b,
-- Corners: c, Tent: e, Winner: f); Tests has what they compute with, and Named the numbers of the refusals and the plans, which the code has as
-- enums. Valid is cited by private functions and by Corners; Tent, Below, Axes and Differences by private functions alone. The laws of these
-- definitions stand in proofs/.
pub mod Tests
pub mod Residue
pub mod Index
pub mod Rule
pub mod RuleTest
pub mod Search
pub mod Sums
pub mod Points
pub mod Tent
pub mod Tally
pub mod Named
pub mod Refusal
pub mod Valid
pub mod Corners
pub mod Winner
pub mod Below
pub mod Axes
pub mod Differences
