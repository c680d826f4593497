mod DraftLemmas
mod LookLemmas
mod PartLemmas
mod WritingLemmas
pub mod OnceLemmas
pub mod AgreementDecoding
pub mod AgreementRoutine
pub mod AgreementReading
pub mod AgreementNumbers
pub mod AgreementProducts
pub mod AgreementLaws
pub mod SoundFirst
pub mod SoundPlans
pub mod SoundRequests
pub mod SoundSteps
pub mod AnswerLemmas
mod OneLook
pub mod CommitLemmas
pub mod FoundLemmas
pub mod HeardLemmas
pub mod MakingLemmas
pub mod UpdateLemmas
mod DraftChanges
pub mod BrokenLemmas
pub mod ReadingLemmas
pub mod ReadyLemmas
pub mod PreparedLemmas
