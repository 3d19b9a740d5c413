-- What the proofs of several functions use.
pub mod AttrLaws
pub mod PrologLaws
pub mod Tags
pub mod Forests
pub mod NodeLaws
pub mod Comments
pub mod Going
pub mod Whole
pub mod Places
pub mod Walks
pub mod Examples
