-- The definitions of putting a session away and taking it up.
pub mod Calls
