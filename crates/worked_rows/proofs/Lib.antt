pub mod DayLemmas
pub mod Expiries
pub mod SegmentLemmas
