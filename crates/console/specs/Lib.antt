pub mod Lines
pub mod Texts
pub mod Answers
pub mod Words
pub mod Typed
pub mod Commands
