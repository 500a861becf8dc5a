-- The definitions of the bank's verdicts: the refusals of document 01, how a request is judged, and what is replied.
pub mod Refusals
pub mod Judgement
pub mod Replies
