-- Document 01, "The frame": writing.
pub mod Writer
