-- Laws of axes that can change places.
pub mod AxisLaws
