-- Laws that the proofs of the search share.
pub mod PrefixLaws
pub mod ValueLaws
pub mod ForbidLaws
pub mod StageLaws
pub mod EndLaws
pub mod SiftLaws
pub mod SearchSteps
