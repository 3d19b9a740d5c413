-- What is read of the parts of a row: the cells of a colour that is there are bytes, a cell within its table has one value, and a time is
-- what its bits say. Assumes nothing.
use Prim.Native.Nat.{ℕ, zero, suc, ◌+◌, ◌<◌, ◌^◌}
use mathlib.Core.Bool.{true}
use mathlib.Core.List.{List, [], ◌∷◌}
use mathlib.Core.Path.{◌≡◌, refl}
use native.Mathlib.Omega.{arith}
use borrow.Author.Tests.{ltb-true}
use lib.ListN.{length, get_or}
use lib.IntN.{ℤ}
use lib.Signed.{mag}
use mir.Facts.{to_z-of_z}
use mir.Syntax.{w64}
use mir.Val.{hbits, to_z, of_z}
use Rattle.scan.proofs.Every.{both}
use Rattle.track.specs.Meaning.{is_color, are_three, is_byte}

pub color-bytes : (t : List ℕ) (i : ℕ) → is_color t i ≡ true → get_or t i 0 ≡ 1
    → (get_or t (i + 1) 0 < 256) × (get_or t (i + 2) 0 < 256) × (get_or t (i + 3) 0 < 256) × (get_or t (i + 4) 0 < 256)
unfolding is_color are_three is_byte
color-bytes t i h e =
    let two : i + 1 + 1 ≡ i + 2 = omega arith in
    let three : i + 1 + 2 ≡ i + 3 = omega arith in
    let a = both (rw e at h) in
    let b = both a.0 in
    let d = both b.0 in
    (ltb-true _ _ d.0, ltb-true _ _ (rw two at d.1), ltb-true _ _ (rw three at b.1), ltb-true _ _ a.1)

-- whatever is said of cells past the end
pub within-any : {A : Type 0} (a b : A) (l : List A) (i : ℕ) → i < length l → get_or l i a ≡ get_or l i b
within-any a b [] i h = absurd (omega arith)
within-any a b (x ∷ l) zero h = refl
within-any a b (x ∷ l) (suc i) h = within-any a b l i (omega arith)

-- a number of 64 bits with a sign
pub same_time : (z : ℤ) → mag z < 2 ^ hbits w64 → to_z w64 (of_z w64 z) ≡ z
same_time z h = to_z-of_z {w = w64} (record { sfits = h })
