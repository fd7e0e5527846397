-- The walk round a vertex meets each of its triangles once, and the ring lists its neighbours.
pub mod Turning
pub mod Fans
pub mod FanTest
pub mod FanTotal
pub mod RingTheory
pub mod RingVertices
pub mod RingSums
