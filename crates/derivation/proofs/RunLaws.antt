-- Runs by places and on lists: the run of bytes of a class from a place i on is the run at the front of `drop i s`. Assumes nothing.
--     run-from                     where it ends, by the length of the run at the front
--     past-drop                    what follows it
--     run-part, run-string         its bytes, as a part of the text and as a string of it
--     run-stops_at                 no byte of the class stands after it
--     string_is                    a string of the text
--     byte_at, left_at             the byte at a place, and what follows it; how many bytes are left there
-- (where a run ends lies within bounds by scan's `run-low` and `run-high`)
use mathlib.Core.Path.{◌≡◌, refl, sym, ap, subst, ◌∙◌}
use Prim.Native.Nat.{ℕ, suc, ◌+◌, ◌-◌, ◌≤◌, ◌<◌}
use native.Mathlib.Omega.{arith}
use native.Mathlib.Numerals.{add-one}
use mathlib.Core.Bool.{Bool}
use mathlib.Core.List.{List, [], ◌∷◌}
use lib.ListN.{length, take, drop, get_or, length-drop, drop_of_length-le}
use lib.Seq.{drop-drop, drop-cons}
use lib.Dec.{leb}
use borrow.Author.Tests.{leb-true, leb-false}
use Rattle.scan.specs.Bytes.{run_end_of, run_length_of}
use Rattle.scan.specs.Part.{part, string_at}
use Rattle.scan.proofs.Runs.{run_length, run_out}
use Rattle.grammar.specs.Words.{Bytes, Stops}
use Rattle.grammar.specs.Scan.{run, past}
use Rattle.scan.proofs.Every.{by-test}
use Rattle.grammar.proofs.Scans.{past-stops}

-- ---- the run at the front
run_take : (t : ℕ → Bool) (z : Bytes) → run t z ≡ take (run_length_of t z) z
unfolding run run_length_of
run_take t [] = refl
run_take t (a ∷ z) = let ih = run_take t z in by-test (t a) (λ e. rw e (ap (a ∷◌) ih)) (λ e. rw e)

past-take : (t : ℕ → Bool) (z : Bytes) → past t z ≡ drop (run_length_of t z) z
unfolding past run_length_of
past-take t [] = refl
past-take t (a ∷ z) = let ih = past-take t z in by-test (t a) (λ e. rw e ih) (λ e. rw e)

-- ---- a string of the text
pub string_is : (s : List ℕ) (p n : ℕ) → string_at s p n ≡ take n (drop p s)
unfolding string_at
string_is s p n = let m : p + n - p ≡ n = omega arith in rw m

pub byte_at : (s : List ℕ) (p : ℕ) → p < length s → drop p s ≡ get_or s p 0 ∷ drop (p + 1) s
byte_at s p h = drop-cons s p 0 h ∙ rw (add-one p)

pub left_at : (s : List ℕ) (p : ℕ) → p < length s → suc (length (drop (p + 1) s)) ≡ length s - p
left_at s p h = simp length-drop (omega arith)

-- ---- the run from a place on
module _ (t : ℕ → Bool) (s : List ℕ) (i : ℕ) where
  pub run-from : run_end_of t s i ≡ i + run_length_of t (drop i s)
  unfolding run_length_of
  run-from = by-test (leb i (length s)) (λ e. run_length t s i (leb-true i (length s) e))
      (λ e. let h : length s ≤ i = omega (arith, leb-false i (length s) e) in rw (drop_of_length-le s h, run_out t s i h) (omega arith))

  pub past-drop : past t (drop i s) ≡ drop (run_end_of t s i) s
  past-drop = past-take t (drop i s) ∙ (drop-drop (run_length_of t (drop i s)) i s ∙ ap (λ n. drop n s) (sym run-from))

  pub run-part : run t (drop i s) ≡ part i (run_end_of t s i) s
  run-part =
      let m : run_length_of t (drop i s) ≡ run_end_of t s i - i = omega (arith, run-from) in
      run_take t (drop i s) ∙ ap (λ n. take n (drop i s)) m

  pub run-string : run t (drop i s) ≡ string_at s i (run_end_of t s i - i)
  run-string = run-part ∙ sym (string_is s i (run_end_of t s i - i))

  pub run-stops_at : Stops t (drop (run_end_of t s i) s)
  run-stops_at = subst (Stops t) past-drop (past-stops t (drop i s))
