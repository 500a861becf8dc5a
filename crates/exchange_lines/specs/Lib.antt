-- The definitions of both ends with lines between them.
pub mod Lines
pub mod Claims
pub mod InOrder
pub mod LineCalls
