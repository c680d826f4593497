pub mod CountLemmas
pub mod DrawLemmas
pub mod PlaceLemmas
