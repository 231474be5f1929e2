pub mod Alone
pub mod Found
pub mod Lines
pub mod Printed
