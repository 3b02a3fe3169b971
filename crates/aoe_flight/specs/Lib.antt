pub mod Outstanding
pub mod FlightTable
pub mod Order
pub mod Table
