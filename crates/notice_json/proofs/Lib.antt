pub mod CommandForms
pub mod Floats
pub mod KeysKnown
