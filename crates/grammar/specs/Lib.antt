-- What a reader must believe: Words, Tree, Grammar, Limits, Demand, Refusals; and Scan, which the specifications of the crates above cite.
pub mod Words
pub mod Tree
pub mod Grammar
pub mod Limits
pub mod Demand
pub mod Refusals
pub mod Scan
