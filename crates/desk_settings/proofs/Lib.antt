pub mod Reading
pub mod ZoneCodes
pub mod ZoneOrder
pub mod Accepted
pub mod TrainingForms
pub mod LookUps
