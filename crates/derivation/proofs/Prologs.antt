-- The prolog: by places its pieces are passed one by one, with the blanks after each; on lists a blank is a piece. Assumes nothing.
--     prolog-agrees      what follows the prolog, and that its end lies in the text
use mathlib.Core.Path.{◌≡◌, refl, sym, ap, ◌∙◌}
use Prim.Native.Nat.{ℕ, zero, suc, ◌+◌, ◌≤◌, ◌<◌}
use native.Mathlib.Omega.{arith}
use mathlib.Core.Bool.{false, cond}
use mathlib.Core.List.{List, [], ◌∷◌}
use lib.ListN.{length, get_or, drop, drop_of_length-le}
use lib.Seq.{drop-drop}
use lib.Dec.{ltb}
use borrow.Author.Tests.{ltb-true, ltb-false}
use Rattle.scan.specs.Bytes.{blank}
use Rattle.scan.specs.Marks as places
use Rattle.scan.specs.Marks.{starts_at}
use Rattle.scan.specs.Posts.{Ends, Passed}
use Rattle.scan.proofs.Runs.{run-low, run-high, run-stops, run-here, run_on, run_out}
use Rattle.tree.specs.Read.{pi_mark, comment_mark, decl_mark, skip, prolog_from, prolog_end}
use Rattle.tree.proofs.PrologLaws.{begin, pi, comment, decl, stop, out}
use Rattle.grammar.specs.Words.{Bytes}
use Rattle.grammar.specs.Scan.{beyond}
use Rattle.grammar.proofs.Reader.{blank-byte, to_mark, no_more, piece_kind, prolog_as, past_prolog}
use Rattle.scan.proofs.Every.{by-test}
use Rattle.derivation.proofs.RunLaws.{byte_at}
use Rattle.derivation.proofs.SearchLaws.{prefix-at, beyond-at, passed}

-- ---- where the runs of blanks end
blanks_end : (s : List ℕ) (q : ℕ) → q ≤ length s → Ends blank s q (skip s q)
blanks_end s q h = record { is = refl; after = run-low blank s q; within = run-high blank s q h; stops = run-stops blank s q }

-- ---- the reader's ways on lists
module _ (n : ℕ) (z : Bytes) where
  stays : piece_kind z ≡ no_more → past_prolog (suc n) z ≡ z
  unfolding past_prolog prolog_as
  stays e = rw e

  passes-blank : piece_kind z ≡ blank-byte → past_prolog (suc n) z ≡ past_prolog n (drop 1 z)
  unfolding past_prolog prolog_as
  passes-blank e = rw e

  passes-mark : (c : ℕ) (m : Bytes) → piece_kind z ≡ to_mark c m → past_prolog (suc n) z ≡ past_prolog n (beyond (c ∷ m) z)
  unfolding past_prolog prolog_as
  passes-mark c m e = rw e

-- the piece at a place
piece-at : (s : List ℕ) (i : ℕ) → i < length s → piece_kind (drop i s)
    ≡ cond (blank (get_or s i 0)) blank-byte
    (cond (starts_at s i pi_mark) (to_mark 63 (62 ∷ []))
    (cond (starts_at s i comment_mark) (to_mark 45 (45 ∷ 62 ∷ []))
    (cond (starts_at s i decl_mark) (to_mark 62 []) no_more)))
piece-at s i h = rw (← (prefix-at pi_mark s i), ← (prefix-at comment_mark s i), ← (prefix-at decl_mark s i), byte_at s i h)

-- what stands at a place that is not blank, and how the loop by places goes on there
data Piece (s : List ℕ) (i : ℕ) : Type 0 where
  last : piece_kind (drop i s) ≡ no_more → prolog_from s i ≡ i → Piece s i
  one : (c : ℕ) (m : Bytes) → piece_kind (drop i s) ≡ to_mark c m
      → ((q r : ℕ) → Passed (c ∷ m) s i q → Ends blank s q r → prolog_from s i ≡ prolog_from s r) → Piece s i

piece : (s : List ℕ) (i : ℕ) → i < length s → blank (get_or s i 0) ≡ false → Piece s i
piece s i h b =
    by-test (starts_at s i pi_mark) (λ e. one 63 (62 ∷ []) (piece-at s i h ∙ rw (b, e)) (λ q r x y. pi s i h q r e x y))
    (λ e. by-test (starts_at s i comment_mark) (λ f. one 45 (45 ∷ 62 ∷ []) (piece-at s i h ∙ rw (b, e, f)) (λ q r x y. comment s i h q r e f x y))
    (λ f. by-test (starts_at s i decl_mark) (λ g. one 62 [] (piece-at s i h ∙ rw (b, e, f, g)) (λ q r x y. decl s i h q r e f g x y))
    (λ g. last (piece-at s i h ∙ rw (b, e, f, g)) (stop s i h e f g))))

-- ---- the two together
module _ (s : List ℕ) where
  -- what is left after the prolog from a place on, where n rounds are allowed, and that it lies in the text
  abbrev Agrees : ℕ → ℕ → ℕ → Type 0
  Agrees n i e = (past_prolog n (drop i s) ≡ drop e s) × (e ≤ length s)

  module _ (n i : ℕ) (h : i < length s) (later : (j : ℕ) → i < j → j ≤ length s → Agrees n j (prolog_from s (skip s j))) where
    solid_agrees : Piece s i → Agrees (suc n) i (prolog_from s i)
    solid_agrees (last e w) = rw w (stays n (drop i s) e, omega arith)
    solid_agrees (one c m e law) =
        let q : ℕ = places.past (c ∷ m) s i in
        let w : Passed (c ∷ m) s i q = passed (c ∷ m) s i (omega arith) in
        let l = later q (w.beyond h (omega arith)) w.within in
        rw (law q (skip s q) w (blanks_end s q w.within)) (passes-mark n (drop i s) c m e ∙ ap (past_prolog n) (beyond-at (c ∷ m) s i) ∙ l.0, l.1)

    step_agrees : Agrees (suc n) i (prolog_from s (skip s i))
    step_agrees =
        by-test (blank (get_or s i 0))
        (λ b. let l = later (i + 1) (omega arith) (omega arith) in
        rw (run_on blank s i h b) (passes-blank n (drop i s) (piece-at s i h ∙ rw b) ∙ ap (past_prolog n) (drop-drop 1 i s) ∙ l.0, l.1))
        (λ b. rw (run-here blank s i h b) (solid_agrees (piece s i h b)))

  from_place : (n i : ℕ) → i ≤ length s → length s < i + n → Agrees n i (prolog_from s (skip s i))
  from_place zero i h g = absurd (omega arith)
  from_place (suc n) i h g =
      let later : (j : ℕ) → i < j → j ≤ length s → Agrees n j (prolog_from s (skip s j)) = λ j l m. from_place n j m (omega arith) in
      by-test (ltb i (length s)) (λ e. step_agrees n i (ltb-true i (length s) e) later)
      (λ e. let l : length s ≤ i = ltb-false i (length s) e in
      rw (run_out blank s i l, out s i l) (ap (past_prolog (suc n)) (drop_of_length-le s l) ∙ stays n [] refl ∙ sym (drop_of_length-le s l), h))

  pub prolog-agrees : (past_prolog (suc (length s)) s ≡ drop (prolog_end s) s) × (prolog_end s ≤ length s)
  prolog-agrees = rw (begin s (skip s 0) (blanks_end s 0 (omega arith))) (from_place (suc (length s)) 0 (omega arith) (omega arith))
