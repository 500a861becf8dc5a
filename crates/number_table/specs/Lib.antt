-- The numbers of documents 01 and 02, in one table.
pub mod Table
pub mod Numbers
