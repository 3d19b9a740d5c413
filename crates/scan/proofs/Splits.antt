-- Laws of a text taken apart at a byte: its parts by the place where the run of other bytes ends. Assumes nothing.
--     split_more, split_last     the parts, where the byte occurs and where it does not
--     once_more, once-none       the two halves at its first place, or none
--     whole_part                 a text that is handed on as a part of its own
use Prim.Native.Nat.{ℕ, suc, ◌+◌, ◌≤◌, ◌<◌}
use mathlib.Core.Path.{◌≡◌, refl, ◌∙◌}
use mathlib.Core.Bool.{Bool, true, false}
use mathlib.Core.List.{List, [], ◌∷◌}
use native.Mathlib.Omega.{arith}
use native.Mathlib.Numerals.{add-one}
use native.Mathlib.Nat.{sub-zero}
use lib.Dec.{eqb}
use lib.ListN.{length, take, drop}
use lib.Seq.{take-length}
use Rattle.scan.specs.Part.{part}
use Rattle.scan.specs.Split.{split_at, halves, no_half, split_once}
use Rattle.scan.specs.Bytes.{other, run_end_of, run_length_of}
use Rattle.scan.proofs.Runs.{run_length}

module _ (b : ℕ) where
  -- the same by the length of the run, over the text itself
  more : (s : List ℕ) → run_length_of (other b) s < length s
      → split_at b s ≡ take (run_length_of (other b) s) s ∷ split_at b (drop (suc (run_length_of (other b) s)) s)
  unfolding split_at run_length_of
  more [] h = absurd (omega arith)
  more (a ∷ s) h = by (eqb a b) refl (more s)
    where
      by : (t : Bool) → eqb a b ≡ t
          → (run_length_of (other b) s < length s → split_at b s ≡ take (run_length_of (other b) s) s ∷ split_at b (drop (suc (run_length_of (other b) s)) s))
          → split_at b (a ∷ s) ≡ take (run_length_of (other b) (a ∷ s)) (a ∷ s) ∷ split_at b (drop (suc (run_length_of (other b) (a ∷ s))) (a ∷ s))
      by true e r = rw e
      by false e r = rw (e, r (omega (arith, rw e at h)))

  last : (s : List ℕ) → length s ≤ run_length_of (other b) s → split_at b s ≡ s ∷ []
  unfolding split_at run_length_of
  last [] h = refl
  last (a ∷ s) h = by (eqb a b) refl (last s)
    where
      by : (t : Bool) → eqb a b ≡ t → (length s ≤ run_length_of (other b) s → split_at b s ≡ s ∷ []) → split_at b (a ∷ s) ≡ (a ∷ s) ∷ []
      by true e r = absurd (omega (arith, rw e at h))
      by false e r = rw (e, r (omega (arith, rw e at h)))

  half : (s : List ℕ) → run_length_of (other b) s < length s
      → split_once b s ≡ halves (take (run_length_of (other b) s) s) (drop (suc (run_length_of (other b) s)) s)
  unfolding split_once run_length_of
  half [] h = absurd (omega arith)
  half (a ∷ s) h = by (eqb a b) refl (half s)
    where
      by : (t : Bool) → eqb a b ≡ t
          → (run_length_of (other b) s < length s → split_once b s ≡ halves (take (run_length_of (other b) s) s) (drop (suc (run_length_of (other b) s)) s))
          → split_once b (a ∷ s) ≡ halves (take (run_length_of (other b) (a ∷ s)) (a ∷ s)) (drop (suc (run_length_of (other b) (a ∷ s))) (a ∷ s))
      by true e r = rw e
      by false e r = rw (e, r (omega (arith, rw e at h)))

  whole : (s : List ℕ) → length s ≤ run_length_of (other b) s → split_once b s ≡ no_half
  unfolding split_once run_length_of
  whole [] h = refl
  whole (a ∷ s) h = by (eqb a b) refl (whole s)
    where
      by : (t : Bool) → eqb a b ≡ t → (length s ≤ run_length_of (other b) s → split_once b s ≡ no_half) → split_once b (a ∷ s) ≡ no_half
      by true e r = absurd (omega (arith, rw e at h))
      by false e r = rw (e, r (omega (arith, rw e at h)))

  module _ (s : List ℕ) where
    run : run_end_of (other b) s 0 ≡ run_length_of (other b) s
    run = run_length (other b) s 0 (omega arith) ∙ omega arith

    pub split_more : run_end_of (other b) s 0 < length s → split_at b s ≡ take (run_end_of (other b) s 0) s ∷ split_at b (drop (run_end_of (other b) s 0 + 1) s)
    split_more h = rw (add-one, run) (more s (omega (arith, run)))

    pub split_last : length s ≤ run_end_of (other b) s 0 → split_at b s ≡ s ∷ []
    split_last h = last s (omega (arith, run))

    pub once_more : run_end_of (other b) s 0 < length s → split_once b s ≡ halves (take (run_end_of (other b) s 0) s) (drop (run_end_of (other b) s 0 + 1) s)
    once_more h = rw (add-one, run) (half s (omega (arith, run)))

    pub once-none : length s ≤ run_end_of (other b) s 0 → split_once b s ≡ no_half
    once-none h = whole s (omega (arith, run))

-- what `&s[0..]` has
pub whole_part : (s : List ℕ) → part 0 (length s) s ≡ s
whole_part s = rw (sub-zero (length s)) (take-length s)
