-- The laws of the two calls: their tests, what they answer and leave case by case, the theorems, and
-- what follows for a session put away and taken up again.
pub mod Tests
pub mod Putting
pub mod Taking
pub mod Theorems
pub mod Again
