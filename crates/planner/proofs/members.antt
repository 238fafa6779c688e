-- Laws of the members that pairs of rows are made of.
pub mod MemberLaws
