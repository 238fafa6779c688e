-- Laws of the lines of the point list.
pub mod PointSteps
