-- A search over rows. Assumes nothing.
--     Searching                                                          the loop's invariant
--     searching_start, searching_step, searching_found, searching_done   how it begins, goes on and ends
--     some_rows, some_same                                               of what stands in the rows; of equal tests
use Prim.Native.Nat.{ℕ, zero, suc, ◌+◌, ◌-◌, ◌≤◌, ◌<◌}
use mathlib.Core.Path.{◌≡◌, refl, ap, ap₂, ◌∙◌}
use mathlib.Core.Bool.{Bool, true, false, ◌||◌}
use native.Mathlib.Omega.{arith}
use Rattle.track.specs.Tables.{rows_from}
use Rattle.written.specs.Attributes.{some_of}
use Rattle.document.specs.Roots.{some_row}

-- none of the rows before row i passes the test
pub record Searching (p : ℕ → Bool) (from n i : ℕ) : Type 0 where
  pub after : from ≤ i
  pub before : i ≤ from + n
  pub same : some_row p n from ≡ some_row p (from + n - i) i

some_none : (p : ℕ → Bool) (n i : ℕ) → n ≡ 0 → some_row p n i ≡ false
unfolding some_row
some_none p n i e = rw e refl

some_more : (p : ℕ → Bool) (n k i : ℕ) → n ≡ suc k → some_row p n i ≡ p i || some_row p k (i + 1)
unfolding some_row
some_more p n k i e = rw e refl

module _ (p : ℕ → Bool) (from n : ℕ) where
  pub searching_start : Searching p from n from
  searching_start =
      let e : from + n - from ≡ n = omega arith in
      record { after = omega arith; before = omega arith; same = rw e refl }

  module _ (i : ℕ) (s : Searching p from n i) where
    pub searching_done : from + n ≤ i → some_row p n from ≡ false
    searching_done h = s.same ∙ some_none p (from + n - i) i (omega arith)

    next : i < from + n → some_row p (from + n - i) i ≡ p i || some_row p (from + n - (i + 1)) (i + 1)
    next h = some_more p (from + n - i) (from + n - (i + 1)) i (omega arith)

    pub searching_found : i < from + n → p i ≡ true → some_row p n from ≡ true
    searching_found h e = s.same ∙ (next h ∙ rw e refl)

    pub searching_step : i < from + n → p i ≡ false → Searching p from n (i + 1)
    searching_step h e = record { after = omega (arith, s.after); before = omega arith; same = s.same ∙ (next h ∙ rw e refl) }

pub some_rows : {A : Type 0} (q : A → Bool) (f : ℕ → A) (n i : ℕ) → some_of q (rows_from f n i) ≡ some_row (λ (j : ℕ). q (f j)) n i
unfolding some_of rows_from some_row
some_rows q f zero i = refl
some_rows q f (suc n) i = ap (λ (t : Bool). q (f i) || t) (some_rows q f n (i + 1))

pub some_same : (p q : ℕ → Bool) → ((i : ℕ) → p i ≡ q i) → (n i : ℕ) → some_row p n i ≡ some_row q n i
unfolding some_row
some_same p q h zero i = refl
some_same p q h (suc n) i = ap₂ ◌||◌ (h i) (some_same p q h n (i + 1))
