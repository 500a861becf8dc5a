-- The proof that sessions of the unit are lists of demand 3's calls, and demand 3 of them.
pub mod Rooms
pub mod ClientCalls
pub mod MemoryBytes
pub mod Standing
pub mod BankSteps
pub mod RunSteps
pub mod JournalStep
pub mod ImageSteps
pub mod LineSteps
pub mod Theorem
pub mod ClosingWords
pub mod LodgedName
pub mod Book
