-- What the crates above cite: Theorem. The others are its proof (by a reader on lists: Reader, Counted), and the worked cases.
pub mod Reader
pub mod Counted
pub mod Tests
pub mod Scans
pub mod Complete
pub mod Sound
pub mod Simulation
pub mod Ends
pub mod Rounds
pub mod CountedEnds
pub mod CountedRounds
pub mod Refusing
pub mod Inside
pub mod First
pub mod Theorem
pub mod Examples
