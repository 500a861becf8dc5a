-- The laws of a client run that the rules, the calls and the history rest on.
pub mod Apart
pub mod Names
