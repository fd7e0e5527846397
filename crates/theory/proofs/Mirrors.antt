-- Every call of a mirrored mesh gives the mirrored outcome; one that rounds does so under rule 2.
pub mod Opposites
pub mod MirrorTables
pub mod MirrorWork
pub mod MirrorRefusals
pub mod MirrorLists
pub mod MirrorBoxes
pub mod MirrorNotes
pub mod MirrorCalls
