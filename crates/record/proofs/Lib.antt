pub mod Reading
pub mod Tests
pub mod Dispatch
pub mod TwosComplement
pub mod Within
pub mod Padding
pub mod Sound
