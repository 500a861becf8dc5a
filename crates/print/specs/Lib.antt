-- The definitions of the programs' print: texts, a day, an order's name, closing words, the book, the seven counts.
pub mod Text
pub mod Day
pub mod Name
pub mod Closing
pub mod Book
pub mod Seven
