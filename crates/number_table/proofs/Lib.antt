-- What the table says as a whole.
pub mod InOrder
