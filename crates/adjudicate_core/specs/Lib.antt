pub mod Misusing
pub mod Serving
pub mod Program
