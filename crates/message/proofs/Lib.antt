-- The laws of the return codes and of verdicts, and what the writer makes of each message.
pub mod CodeFields
pub mod OrderNumbers
pub mod Verdicts
pub mod Writable
pub mod SegmentNumbers
