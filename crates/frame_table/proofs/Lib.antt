-- The laws of sets of tags, of forms and of their numbers, of 128-bit values.
pub mod Tags
pub mod Forms
pub mod Bits
pub mod Values
