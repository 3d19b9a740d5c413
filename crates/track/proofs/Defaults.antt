-- What stands within a list, whatever stands for what is past its end. Assumes nothing.
--     within-any    two such values give the same
--     size-cell     a size, as the code reads it
use Prim.Native.Nat.{ℕ, zero, suc, ◌<◌}
use mathlib.Core.Path.{◌≡◌, refl}
use mathlib.Core.Bool.{false}
use mathlib.Core.List.{List, [], ◌∷◌}
use native.Mathlib.Omega.{arith}
use lib.IntN.{pos}
use lib.Ieee.{Float, nan, fin}
use lib.ListN.{length, get_or}
use Rattle.track.specs.Tables.{size_cell}

pub within-any : {A : Type 0} (l : List A) (i : ℕ) (a b : A) → i < length l → get_or l i a ≡ get_or l i b
within-any [] i a b h = absurd (omega arith)
within-any (x ∷ l) zero a b h = refl
within-any (x ∷ l) (suc i) a b h = within-any l i a b (omega arith)

pub size-cell : (l : List Float) (i : ℕ) → i < length l → get_or l i nan ≡ size_cell l i
size-cell l i h = within-any l i nan (fin false 0 (pos 0)) h
