-- The laws of a content and of the field at the front.
pub mod Contents
