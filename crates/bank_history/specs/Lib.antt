-- The definitions of the bank's history, of its invariant, and of what holds after every list of calls.
pub mod History
pub mod Opened
pub mod Signatures
pub mod Timely
pub mod Sound
pub mod Invariant
pub mod Transactions
pub mod Answers
pub mod FalseEconomies
pub mod Status
pub mod ByReplies
pub mod Series
pub mod Journal
pub mod JournalOrders
pub mod Signers
pub mod OnRows
pub mod OnSessions
