-- Taking a refine back by its note: what a refine notes restores the mesh before it, and of whatever a note that is
-- accepted restores, the refine makes the present mesh.
pub mod Tests
pub mod Reading
pub mod Restoring
pub mod BeforeTheRefine
pub mod Accepting
pub mod TakenBack
