-- Laws of the text form. For readers: the form is exact, one answer follows, one outcome of a call, and examples.
pub mod RequestForm
pub mod AnswerLaws
pub mod NoTerms
pub mod ReplyLaws
pub mod ReadingExamples
pub mod AnswerExamples
pub mod WritingExamples
-- What these rest on.
pub mod CondLaws
pub mod NumberLaws
pub mod FieldLaws
pub mod PrintingLaws
pub mod RequestLaws
pub mod AnswerTextLaws
pub mod Quoted
-- Laws that the proofs of the public functions cite; those of the reading and writing functions stand beside them.
pub mod ClampLaws
pub mod SearchedLaws
pub mod CallerLaws
