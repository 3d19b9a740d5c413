-- What the proofs of several functions use.
pub mod Numbered
pub mod Owning
pub mod Regions
pub mod Handed
pub mod OwnNumbers
pub mod Reaching
pub mod Promising
pub mod Asking
pub mod Determined
pub mod PlaceExamples
