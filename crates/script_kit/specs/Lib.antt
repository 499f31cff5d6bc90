-- The grammar of a script.
pub mod Words
pub mod Faults
pub mod Bytes
pub mod Numbers
pub mod Forms
pub mod Pieces
pub mod Attributes
pub mod Shapes
pub mod Reading
pub mod Lines
pub mod Reasons
