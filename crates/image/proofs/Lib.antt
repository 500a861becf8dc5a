-- The laws of the image: of its walk, of what the loops keep, of both round trips, and the theorems.
pub mod Bytes
pub mod Walking
pub mod Lengths
pub mod Loops
pub mod Reading
pub mod RoundTrip
pub mod Calls
pub mod Theorems
pub mod FormNumber
pub mod Forms
