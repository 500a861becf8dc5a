-- The definitions of the steps of one download.
pub mod Downloads
