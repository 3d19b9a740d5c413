-- A row that is written over another of the same place. Assumes nothing.
use Prim.Native.Nat.{ℕ, suc, ◌+◌}
use mathlib.Core.Path.{◌≡◌, refl, ◌∙◌}
use mathlib.Core.List.{List, [], ◌∷◌, ◌++◌}
use native.Mathlib.Omega.{arith}
use native.Mathlib.Numerals.{add-two, add-three}
use lib.ListN.{length, set}
use lib.Seq.{sets, set-set}
use Rattle.scan.proofs.Stores.{set_sets}

-- a run over the beginning of another
pub sets_over : (b d c t : List ℕ) (i : ℕ) → length b ≡ length d → sets (sets t i (b ++ c)) i d ≡ sets t i (d ++ c)
sets_over [] [] c t i h = refl
sets_over [] (y ∷ d) c t i h = absurd (omega arith)
sets_over (x ∷ b) [] c t i h = absurd (omega arith)
sets_over (x ∷ b) (y ∷ d) c t i h =
    rw (set_sets (b ++ c) (set t i x) i (suc i) y (omega arith), set-set t i x y) (sets_over b d c (set t i y) (suc i) (omega arith))

-- two cells after a kind and a number of rows
pub two_stored : (t : List ℕ) (i : ℕ) {x y x' y' : ℕ} → x ≡ y → x' ≡ y' → set (set t (i + 2) x) (i + 3) x' ≡ sets t (i + 2) (y ∷ y' ∷ [])
two_stored t i e e' = rw (e, e', add-two, add-three)

-- cells over those that follow a kind and a number of rows
pub kind_over : (b d c t t' t'' : List ℕ) (i k n : ℕ) → t' ≡ sets t i (k ∷ n ∷ (b ++ c)) → t'' ≡ sets t' (i + 2) d → length b ≡ length d
    → t'' ≡ sets t i (k ∷ n ∷ (d ++ c))
kind_over b d c t t' t'' i k n e f h = f ∙ rw (e, add-two) (sets_over b d c (set (set t i k) (suc i) n) (suc (suc i)) h)
