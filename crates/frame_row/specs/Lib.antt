-- Document 01, "The frame": a frame as a row of contents.
pub mod Row
