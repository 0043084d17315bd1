-- Steps of one goroutine, lifted to the rule of the table.
pub mod Attending
pub mod Lift
pub mod Local
pub mod Operands
pub mod Performing
pub mod Staying
