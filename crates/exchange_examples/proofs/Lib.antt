-- The session as it stands, lists whose premises are tests, and the computed examples of demand 3.
pub mod Standing
pub mod Checked
pub mod Quick
pub mod Unfolded
pub mod Examples
