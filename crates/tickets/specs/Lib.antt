pub mod Ticket
pub mod Claims
pub mod Asked
pub mod code
