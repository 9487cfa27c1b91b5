pub mod Accesses
pub mod Atomics
pub mod Reservations
