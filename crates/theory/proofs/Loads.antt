-- A cage that passes its tests is loaded as sound tables, whose edges are the pairs of vertices of the cage; a vertex off
-- the boundary with two triangles has them back to back.
pub mod CageTests
pub mod Load
pub mod LoadTests
pub mod Alike
pub mod CageEdges
pub mod InnerOfTwo
