-- Laws of the children of all triangles that several proofs of functions cite.
pub mod ChildRows
