pub mod OpenLemmas
pub mod AsBox
pub mod Taking
pub mod Fitting
pub mod Telling
