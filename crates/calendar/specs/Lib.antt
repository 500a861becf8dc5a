-- The definitions of card 7: the calendar, Easter, business days, and the value day of a booking.
pub mod Dates
pub mod Easter
pub mod BusinessDays
pub mod ValueDay
