-- The proof that lines meet demand 3's premises on requests and replies.
pub mod Kept
pub mod Theorem
pub mod Whole
pub mod InOrder
pub mod LineCalls
pub mod Guards
