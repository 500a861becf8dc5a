-- The laws of reading: the number of a content, the walk over the tags with the place of the data.
pub mod Values
pub mod Walk
