-- Laws of the calls about lists, and theorems of them for readers.
pub mod MaskLaws
pub mod RecountLaws
pub mod CallLaws
pub mod CornerCalls
pub mod AnswerLaws
pub mod TallyTheorems
pub mod CornerTheorems
