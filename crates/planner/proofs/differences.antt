-- Laws of the difference of two rows.
pub mod MinusLaws
-- Laws of the pairs whose differences the table collects: how a table grows by them, and which pairs a plan asks for.
pub mod PairLaws
pub mod PlanLaws
