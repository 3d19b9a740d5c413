-- Laws of the searches by name: each is the first row that passes a test. Assumes nothing.
use Rattle.std.specs.Prelude.{Option, Some, None}
use Prim.Native.Nat.{ℕ, zero, suc, ◌+◌, ◌-◌, ◌*◌, ◌≤◌, ◌<◌}
use mathlib.Core.Path.{◌≡◌, refl}
use mathlib.Core.Bool.{Bool, true, false, cond, not, ◌&&◌}
use mathlib.Core.List.{List}
use native.Mathlib.Omega.{arith}
use borrow.Author.Tests.{ne_eqb}
use native.Mathlib.Nat.{suc-mul, mul-le-mul_right}
use lib.ListN.{get_or}
use lib.Dec.{eqb}
use Rattle.records.specs.Find.{is_named, first_row, first_with}

-- the first row, of n from row i on, that passes the test
unfoldable pub first_of : (ℕ → Bool) → (n i : ℕ) → Option ℕ
first_of p zero i = None
first_of p (suc n) i = cond (p i) (Some i) (first_of p n (i + 1))

module _ (t z name : List ℕ) (w : ℕ) where
  -- row i has this name
  abbrev pub named : ℕ → Bool
  named i = is_named t z name (i * w)

  -- and its cell `needed` is not zero
  abbrev pub named_with : ℕ → ℕ → Bool
  named_with needed i = not (eqb (get_or t (i * w + needed) 0) 0) && is_named t z name (i * w)

  module _ (needed i : ℕ) where
    pub with_both : (get_or t (i * w + needed) 0 ≡ 0 → ⊥) → is_named t z name (i * w) ≡ true → named_with needed i ≡ true
    with_both h e = rw (ne_eqb (get_or t (i * w + needed) 0) 0 h) e

    pub with_other : (get_or t (i * w + needed) 0 ≡ 0 → ⊥) → is_named t z name (i * w) ≡ false → named_with needed i ≡ false
    with_other h e = rw (ne_eqb (get_or t (i * w + needed) 0) 0 h) e

    pub with_none : get_or t (i * w + needed) 0 ≡ 0 → named_with needed i ≡ false
    with_none h = rw h

  pub first_row-of : (n i : ℕ) → first_row t z name w n i ≡ first_of named n i
  unfolding first_row first_of
  first_row-of zero i = refl
  first_row-of (suc n) i = rw (first_row-of n (i + 1))

  pub first_with-of : (needed n i : ℕ) → first_with t z name w needed n i ≡ first_of (named_with needed) n i
  unfolding first_with first_of
  first_with-of needed zero i = refl
  first_with-of needed (suc n) i = rw (first_with-of needed n (i + 1))

-- ---- a loop over rows, at row i
module _ (p : ℕ → Bool) (n i : ℕ) where
  pub first_out : n ≤ i → first_of p (n - i) i ≡ None
  unfolding first_of
  first_out h = let e : n - i ≡ 0 = omega arith in rw e

  pub first-hit : i < n → p i ≡ true → first_of p (n - i) i ≡ Some i
  unfolding first_of
  first-hit h g = let e : n - i ≡ suc (n - (i + 1)) = omega arith in rw (e, g)

  pub first-miss : i < n → p i ≡ false → first_of p (n - i) i ≡ first_of p (n - (i + 1)) (i + 1)
  unfolding first_of
  first-miss h g = let e : n - i ≡ suc (n - (i + 1)) = omega arith in rw (e, g)

-- row i stands within the table
pub row_within : (i n w l : ℕ) → i < n → n * w ≤ l → i * w + w ≤ l
row_within i n w l h g =
    let m : suc i * w ≤ n * w = mul-le-mul_right w h in
    omega (arith, rw (suc-mul i w) at m)
