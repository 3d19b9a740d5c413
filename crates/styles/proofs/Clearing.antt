-- Links cleared: the ids stay. Assumes nothing.
use Prim.Native.Nat.{ℕ, ◌+◌, ◌*◌, ◌≤◌, ◌<◌}
use mathlib.Core.Path.{◌≡◌, refl, ◌∙◌}
use mathlib.Core.List.{List}
use native.Mathlib.Omega.{arith}
use native.Mathlib.Nat.{add-zero}
use lib.ListN.{length, get_or, set, length-set}
use lib.Seq.{get_or-set_same, get_or-set_other}
use lib.Dec.{eqb, ltb}
use borrow.Author.Tests.{eqb-true, eqb-false, ltb-true, ltb-false}
use Rattle.scan.proofs.Every.{by-test}
use Rattle.styles.specs.Ids.{row_at, rows_in, RowWithin, Unlinked}
use Rattle.styles.proofs.Search.{rows_same}

pub unlinked_none : (t : List ℕ) → Unlinked t t 0
unlinked_none t = record { kept = refl; zeros = λ i l. absurd (omega arith); others = λ i j l. refl; behind = λ k l. refl }

-- no cell but a link stands where a link does
apart : (i k j : ℕ) → j < 3 → k * 4 + j ≡ i * 4 + 3 → ⊥
apart i k j l e = by-test (ltb i k) (λ h. omega (arith, ltb-true i k h)) (λ h. omega (arith, ltb-false i k h))

pub unlinked_more : (t t' : List ℕ) (i : ℕ) → Unlinked t t' i → i * 4 + 4 ≤ length t → Unlinked t (set t' (i * 4 + 3) 0) (i + 1)
unlinked_more t t' i u room = record {
  kept = length-set t' (i * 4 + 3) 0 ∙ u.kept;
  zeros = λ k l.
      by-test (eqb k i) (λ e. rw (eqb-true k i e) (get_or-set_same t' (i * 4 + 3) 0 0 (omega (arith, u.kept))))
      (λ e. get_or-set_other t' (i * 4 + 3) (k * 4 + 3) 0 0 (λ q. eqb-false k i e (omega arith)) ∙ u.zeros k (omega (arith, eqb-false k i e)));
  others = λ k j l. get_or-set_other t' (i * 4 + 3) (k * 4 + j) 0 0 (apart i k j l) ∙ u.others k j l;
  behind = λ k l. get_or-set_other t' (i * 4 + 3) k 0 0 (λ q. omega arith) ∙ u.behind k (omega arith);
}

module _ (x z t t' : List ℕ) (n : ℕ) (u : Unlinked t t' n) where
  first_cell : (i : ℕ) → get_or t' (i * 4) 0 ≡ get_or t (i * 4) 0
  first_cell i = rw (add-zero (i * 4)) at (u.others i 0 (omega arith))

  same_row : (i : ℕ) → row_at t' i ≡ row_at t i
  unfolding row_at
  same_row i = rw (first_cell i, u.others i 1 (omega arith), u.others i 2 (omega arith))

  pub unlinked_rows : (m : ℕ) → rows_in t' m ≡ rows_in t m
  unfolding rows_in
  unlinked_rows m = rows_same (row_at t') (row_at t) m 0 (λ k l. same_row k)

  pub unlinked_within : (i : ℕ) → RowWithin x z t i → RowWithin x z t' i
  unlinked_within i w = record {
    known = rw (first_cell i) w.known;
    bytes = rw (
      first_cell i,
      u.others i 1 (omega arith),
      u.others i 2 (omega
          arith),
    ) w.bytes;
  }
