-- What the proofs of reading notes share.
pub mod SlotsBack
pub mod NoteTests
pub mod SameMeshes
