-- Laws of walks and their rings.
pub mod Walk
pub mod Buffer
