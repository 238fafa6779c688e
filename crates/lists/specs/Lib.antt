-- What the calls about lists answer (Answer), which components of a row count (Rows), and what private functions say (Inner).
pub mod Rows
pub mod Answer
pub mod Inner
