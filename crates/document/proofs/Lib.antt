-- What the proofs of several functions use.
pub mod IttsLaws
pub mod SomeRows
pub mod RegionLaws
pub mod StyleLaws
pub mod RootLaws
pub mod Ready
pub mod Whole
