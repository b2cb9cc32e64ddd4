pub mod Failing
pub mod Typing
pub mod Placing
pub mod Signs
pub mod Refusing
