-- Laws of the product tables.
pub mod ProductLaws
