-- Cues, one after the other. Assumes nothing.
--     cue_is                             a cue, by its tests
--     cues_stop, cues_next, cues_done    a row more of them
--     cue_within                         the segments of a cue are among all
--     cue-row                            each row is a cue whose segments begin where its cell 7 says
use Prim.Native.Nat.{ℕ, zero, suc, ◌+◌, ◌-◌, ◌≤◌, ◌<◌}
use mathlib.Core.Path.{◌≡◌}
use mathlib.Core.Bool.{true, false}
use mathlib.Core.List.{List}
use native.Mathlib.Omega.{arith}
use native.Mathlib.Nat.{add-zero}
use lib.Dec.{eqb}
use borrow.Author.Tests.{eq-eqb, le-leb}
use Rattle.scan.proofs.Every.{both}
use Rattle.track.specs.Tables.{cell}
use Rattle.track.specs.Meaning.{cue_values, are_segments, is_cue, are_cues}
use Rattle.track.proofs.RowParts.{cue_parts}

module _ (t e g z y : List ℕ) (most from i : ℕ) where
  pub cue_is : cue_values t e z i ≡ true → cell 11 t i 7 ≡ from → from + cell 11 t i 8 ≤ most
      → is_cue t e g z y most from i ≡ are_segments g z y 512 (cell 11 t i 8) from
  unfolding is_cue
  cue_is v w h = rw (v, eq-eqb (cell 11 t i 7) from w, le-leb (from + cell 11 t i 8) most h)

  pub cue_within : is_cue t e g z y most from i ≡ true → from + cell 11 t i 8 ≤ most
  cue_within h = (cue_parts t e g z y most from i h).within

  cue_here : is_cue t e g z y most from i ≡ true → (is_cue t e g z y most (cell 11 t i 7) i ≡ true) × (cell 11 t i 7 + cell 11 t i 8 ≤ most)
  cue_here h =
      let a = cue_parts t e g z y most from i h in
      rw a.begins (h, a.within)

  -- as a loop over i does it: the n - i rows from row i on
  module _ (n : ℕ) where
    pub cues_stop : i < n → is_cue t e g z y most from i ≡ false → are_cues t e g z y most from (n - i) i ≡ false
    unfolding are_cues
    cues_stop l h =
        let w : n - i ≡ suc (n - (i + 1)) = omega arith in
        rw (w, h)

    pub cues_next : i < n → is_cue t e g z y most from i ≡ true
        → are_cues t e g z y most from (n - i) i ≡ are_cues t e g z y most (from + cell 11 t i 8) (n - (i + 1)) (i + 1)
    unfolding are_cues
    cues_next l h =
        let w : n - i ≡ suc (n - (i + 1)) = omega arith in
        rw (w, h)

    pub cues_done : n ≤ i → are_cues t e g z y most from (n - i) i ≡ eqb from most
    unfolding are_cues
    cues_done l =
        let w : n - i ≡ 0 = omega arith in
        rw w

module _ (t e g z y : List ℕ) (most : ℕ) where
  pub cue-row : (from n i j : ℕ) → are_cues t e g z y most from n i ≡ true → j < n
      → (is_cue t e g z y most (cell 11 t (i + j) 7) (i + j) ≡ true) × (cell 11 t (i + j) 7 + cell 11 t (i + j) 8 ≤ most)
  unfolding are_cues
  cue-row from zero i j h l = absurd (omega arith)
  cue-row from (suc n) i zero h l =
      rw (add-zero i) (cue_here t e g z y most from i (both {a = is_cue t e g z y most from i}
      {b = are_cues t e g z y most (from + cell 11 t i 8) n (i + 1)} h).0)
  cue-row from (suc n) i (suc j) h l =
      let q : i + suc j ≡ i + 1 + j = omega arith in
      rw q (cue-row (from + cell 11 t i 8) n (i + 1) j (both {a = is_cue t e g z y most from i}
      {b = are_cues t e g z y most (from + cell 11 t i 8) n (i + 1)} h).1 (omega arith))
