-- The definitions of the steps of one upload.
pub mod Uploads
