pub mod Recaption
