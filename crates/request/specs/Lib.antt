-- The text form (document 01, "The ticket program"): how a request is read and written, and what the answer's text is.
pub mod Text
pub mod Reading
pub mod Printing
pub mod Answer
pub mod Reply
pub mod Inner
