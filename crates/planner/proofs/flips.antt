-- Laws of the axes whose sign change a table does not see.
pub mod ClosedLaws
-- Laws of a row that is turned so that it ends above 0.
pub mod UprightLaws
