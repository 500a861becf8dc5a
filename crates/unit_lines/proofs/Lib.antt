-- The proofs of the unit's lines.
pub mod Parts
pub mod OneLine
pub mod Theorem
pub mod LineCourse
