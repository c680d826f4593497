pub mod Drying
pub mod OneAnswer
pub mod TrainingLemmas
