pub mod KnownHeaderDeps
pub mod KnownOrders
