pub mod InsertingLaws
pub mod ScreenLaws
pub mod TicketLaws
pub mod AddingLaws
pub mod Claims
