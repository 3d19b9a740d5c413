-- Laws of rows that are tested one after the other, as a loop over i does it. Assumes nothing.
--     rows_all, rows-stop, rows_next, rows-done    the n - i rows from row i on, where i is 0, and by what row i shows
--     has_far, has_near                            extras, by whether their rows are within the table
--     extras_stop, extras_next, extras_done        extras up to row `end`, by what row i shows
--     size-read                                    a size within its table, as the code reads it
use Prim.Native.Nat.{ℕ, zero, suc, ◌+◌, ◌-◌, ◌*◌, ◌≤◌, ◌<◌}
use mathlib.Core.Path.{◌≡◌, refl}
use mathlib.Core.Bool.{Bool, true, false}
use mathlib.Core.List.{List, [], ◌∷◌}
use native.Mathlib.Omega.{arith}
use native.Mathlib.Nat.{add-zero, sub-zero}
use lib.ListN.{length, get_or}
use lib.Ieee.{Float, nan}
use borrow.Author.Tests.{le-leb, lt-leb}
use Rattle.track.specs.Tables.{cell, size_cell}
use Rattle.track.specs.Meaning.{is_extra, are_extras, has_extras, all_rows}

module _ {n i : ℕ} where
  more : i < n → n - i ≡ suc (n - (i + 1))
  more h = omega arith

  none : n ≤ i → n - i ≡ 0
  none h = omega arith

pub rows_all : (p : ℕ → Bool) (n : ℕ) → all_rows p n 0 ≡ all_rows p (n - 0) 0
rows_all p n = rw (sub-zero n)

module _ (p : ℕ → Bool) {n i : ℕ} where
  pub rows-stop : i < n → p i ≡ false → all_rows p (n - i) i ≡ false
  unfolding all_rows
  rows-stop h e = rw (more h, e)

  pub rows_next : i < n → p i ≡ true → all_rows p (n - i) i ≡ all_rows p (n - (i + 1)) (i + 1)
  unfolding all_rows
  rows_next h e = rw (more h, e)

  pub rows-done : n ≤ i → all_rows p (n - i) i ≡ true
  unfolding all_rows
  rows-done h = rw (none h)

module _ (t z : List ℕ) (most : ℕ) where
  pub has_far : (first n : ℕ) → 8192 < first + n → has_extras t z most first n ≡ false
  unfolding has_extras
  has_far first n h = rw (lt-leb (first + n) 8192 h)

  pub has_near : (first n : ℕ) → first + n ≤ 8192 → has_extras t z most first n ≡ are_extras t z most 0 n first
  unfolding has_extras
  has_near first n h = rw (le-leb (first + n) 8192 h)

  module _ (least : ℕ) {end i : ℕ} where
    pub extras_stop : i < end → is_extra t z most least i ≡ false → are_extras t z most least (end - i) i ≡ false
    unfolding are_extras
    extras_stop h e = rw (more h, e)

    pub extras_next : i < end → is_extra t z most least i ≡ true
        → are_extras t z most least (end - i) i ≡ are_extras t z most (get_or t (i * 3) 0 + 1) (end - (i + 1)) (i + 1)
    unfolding are_extras cell
    extras_next h e = rw (more h, e, add-zero (i * 3))

    pub extras_done : end ≤ i → are_extras t z most least (end - i) i ≡ true
    unfolding are_extras
    extras_done h = rw (none h)

pub size-read : (f : List Float) (i : ℕ) → i < length f → size_cell f i ≡ get_or f i nan
size-read [] i h = absurd (omega arith)
size-read (x ∷ f) zero h = refl
size-read (x ∷ f) (suc i) h = size-read f i (omega arith)
