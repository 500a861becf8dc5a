-- The laws of frames, read and written: the results are in Theorems.
pub mod RoundTrip
pub mod Lengths
pub mod Build
pub mod Parsed
pub mod Theorems
