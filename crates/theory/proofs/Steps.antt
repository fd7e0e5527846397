-- The whole step splits every triangle once, flips every edge and moves every vertex by the old mesh; limit positions.
pub mod StepTopology
pub mod StepPositions
pub mod WholeStep
pub mod Children
pub mod Stage
pub mod StageSplit
pub mod Closed
pub mod Limits
pub mod StepRefusals
