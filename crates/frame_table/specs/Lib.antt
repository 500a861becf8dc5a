-- Document 01, "The frame": its tables, and the fields by name.
pub mod Table
pub mod Forms
pub mod Names
