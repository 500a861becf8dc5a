-- The laws of the tests' shapes, and what the conditions of one record say.
pub mod Shapes
pub mod General
pub mod OneRecord
