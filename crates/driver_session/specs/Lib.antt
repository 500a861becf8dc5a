-- The definitions of the driver's session.
pub mod Session
