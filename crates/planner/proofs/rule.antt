-- Laws of the check: tables of owners and of taken residues, and the rules by the numbers of rows and mirrors.
pub mod OwnerLaws
pub mod TakenLaws
pub mod RuleIndex
