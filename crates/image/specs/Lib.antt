-- The definitions of an image: its table of fields, what they stand for, and what is written and read.
pub mod Table
pub mod Items
pub mod Walk
pub mod Image
