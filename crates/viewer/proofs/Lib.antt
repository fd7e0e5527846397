-- What is proved of what a viewer is given (Results), and examples computed from its definitions.
pub mod Exact
pub mod Viewing
pub mod Results
pub mod Examples
