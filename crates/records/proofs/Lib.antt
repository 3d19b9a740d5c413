-- What the proofs of several functions use.
pub mod Parts
pub mod Storing
pub mod Zeros
pub mod Overwrites
pub mod Moves
pub mod RowMoves
pub mod Finding
pub mod FoundRows
pub mod SegmentRows
pub mod RowLaws
pub mod Beside
pub mod Standing
pub mod Dropping
