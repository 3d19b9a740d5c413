-- A law of mathlib by a short name, which the crates above cite. Assumes nothing.
use Rattle.std.proofs.Common.{◌≡◌, true, false, true≢false}

-- no test is both true and false
pub no : {X : Type 0} → true ≡ false → X
no e = absurd (true≢false e)
