-- Laws of the rows up to some corner.
pub mod SignLaws
pub mod NextLaws
pub mod PlaceLaws
pub mod FillLaws
