-- Document 01, "The frame": reading.
pub mod Reader
