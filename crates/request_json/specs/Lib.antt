pub mod Canonical
pub mod Fields
pub mod Form
pub mod Formed
pub mod Keys
pub mod Pieces
pub mod Replies
