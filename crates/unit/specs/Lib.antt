-- The definitions of the unit: its state with the memory lent to it, its calls.
pub mod State
pub mod Call
