-- Marks: the searches by places find what the scans on lists find. Assumes nothing.
--     from_end                        induction from the text's end towards its front
--     prefix-at                       a mark at a place
--     from_at, beyond-at, before_at   the first mark from a place on: from there, what follows it, what stands before it
--     starts_whole, sought, passed    the bounds of what is found
use mathlib.Core.Path.{◌≡◌, refl, sym, ap, ◌∙◌}
use Prim.Native.Nat.{ℕ, zero, suc, ◌+◌, ◌-◌, ◌≤◌, ◌<◌}
use native.Mathlib.Omega.{arith}
use mathlib.Core.Bool.{true}
use mathlib.Core.List.{List, [], ◌∷◌}
use lib.ListN.{length, get_or, take, drop, length-append, length-drop, drop_of_length-le}
use lib.Seq.{take-nil, drop-drop, drop-length}
use lib.Dec.{eqb, ltb}
use borrow.Author.Tests.{ltb-true, ltb-false}
use Rattle.scan.specs.Marks.{starts_at, seek, past}
use Rattle.scan.specs.Posts.{Found, Passed}
use Rattle.scan.proofs.Searches.{seek-here, seek-on, seek-out, past-got, past-none, found_here, found-out, passed_got, passed_none}
use Rattle.grammar.specs.Scan.{prefix, from, before, beyond}
use Rattle.scan.proofs.Every.{by-test}
use Rattle.grammar.proofs.Tests.{eqb_eq, test_sym}
use Rattle.grammar.proofs.Scans.{prefix-begins}
use Rattle.scan.specs.Part.{string_at}
use Rattle.derivation.proofs.RunLaws.{string_is, byte_at}

-- what holds from the end on, and at a place if it holds at all later ones, holds everywhere
module _ (len : ℕ) (P : ℕ → Type 0) (out : (i : ℕ) → len ≤ i → P i) (on : (i : ℕ) → i < len → ((j : ℕ) → i < j → P j) → P i) where
  bounded : (n i : ℕ) → len ≤ i + n → P i
  bounded zero i h = out i (omega arith)
  bounded (suc n) i h =
      let later : (j : ℕ) → i < j → P j = λ j l. bounded n j (omega arith) in
      by-test (ltb i len) (λ e. on i (ltb-true i len e) later) (λ e. out i (ltb-false i len e))

  pub from_end : (i : ℕ) → P i
  from_end i = bounded len i (omega arith)

-- ---- a mark at a place
eqb_sym : (a b : ℕ) → eqb a b ≡ eqb b a
eqb_sym a b = by-test (eqb b a) (λ e. rw (eqb_eq b a e)) (λ e. test_sym b a e ∙ sym e)

pub prefix-at : (m s : List ℕ) (i : ℕ) → prefix m (drop i s) ≡ starts_at s i m
unfolding starts_at
prefix-at [] s i = refl
prefix-at (b ∷ m) s i =
    let later : prefix m (drop (i + 1) s) ≡ starts_at s (i + 1) m = prefix-at m s (i + 1) in
    by-test (ltb i (length s))
    (λ h. rw (byte_at s i (ltb-true i (length s) h), h, eqb_sym b (get_or s i 0))
    (by-test (eqb (get_or s i 0) b) (λ e. rw e later) (λ e. rw e)))
    (λ h. rw (drop_of_length-le s (ltb-false i (length s) h), h))

pub starts_whole : (m s : List ℕ) (i : ℕ) → i ≤ length s → starts_at s i m ≡ true → i + length m ≤ length s
starts_whole m s i h e =
    let b = prefix-begins m (drop i s) (prefix-at m s i ∙ e) in
    omega (arith, sym (length-drop i s) ∙ ap length b.1, length-append m b.0)

-- ---- the first mark from a place on
module _ (m s : List ℕ) where
  pub sought : (i : ℕ) → i ≤ length s → Found m s i (seek m s i)
  sought = from_end (length s) (λ i. i ≤ length s → Found m s i (seek m s i)) out on
    where
      out : (i : ℕ) → length s ≤ i → i ≤ length s → Found m s i (seek m s i)
      out i h g = rw (seek-out m s i h) (found-out m s i i (omega arith) refl g h)

      on : (i : ℕ) → i < length s → ((j : ℕ) → i < j → j ≤ length s → Found m s j (seek m s j)) → i ≤ length s → Found m s i (seek m s i)
      on i h k g =
          by-test (starts_at s i m) (λ e. rw (seek-here m s i h e) (found_here m s i i (omega arith) refl h e (starts_whole m s i g e)))
          (λ e. let f : Found m s (i + 1) (seek m s (i + 1)) = k (i + 1) (omega arith) (omega arith) in
          rw (seek-on m s i h e) (record { is = sym (seek-on m s i h e); after = omega (arith, f.after); within = f.within; whole = f.whole }))

  pub passed : (i : ℕ) → i ≤ length s → Passed m s i (past m s i)
  passed i h =
      by-test (ltb (seek m s i) (length s))
      (λ e. let l : seek m s i < length s = ltb-true (seek m s i) (length s) e in
      rw (past-got m s i (seek m s i) refl l) (passed_got m s i (seek m s i) (sought i h) l))
      (λ e. let l : length s ≤ seek m s i = ltb-false (seek m s i) (length s) e in
      rw (past-none m s i (seek m s i) refl l) (passed_none m s i (seek m s i) (sought i h) l))

  pub from_at : (i : ℕ) → from m (drop i s) ≡ drop (seek m s i) s
  unfolding from
  from_at = from_end (length s) (λ i. from m (drop i s) ≡ drop (seek m s i) s)
      (λ i h. rw (seek-out m s i h, drop_of_length-le s h))
      (λ i h k. by-test (starts_at s i m)
      (λ e. rw (seek-here m s i h e, byte_at s i h, ← (byte_at s i h), prefix-at m s i, e))
      (λ e. rw (seek-on m s i h e, byte_at s i h, ← (byte_at s i h), prefix-at m s i, e) (k (i + 1) (omega arith))))

  pub beyond-at : (i : ℕ) → beyond m (drop i s) ≡ drop (past m s i) s
  unfolding beyond
  beyond-at i =
      ap (drop (length m)) (from_at i) ∙ drop-drop (length m) (seek m s i) s
      ∙ by-test (ltb (seek m s i) (length s))
      (λ e. rw (past-got m s i (seek m s i) refl (ltb-true (seek m s i) (length s) e)))
      (λ e. let l : length s ≤ seek m s i = ltb-false (seek m s i) (length s) e in
      rw (past-none m s i (seek m s i) refl l, drop-length s) (drop_of_length-le s {i = seek m s i + length m} (omega arith)))

  before-take : (i : ℕ) → i ≤ length s → before m (drop i s) ≡ take (seek m s i - i) (drop i s)
  unfolding before
  before-take = from_end (length s) (λ i. i ≤ length s → before m (drop i s) ≡ take (seek m s i - i) (drop i s)) out on
    where
      out : (i : ℕ) → length s ≤ i → i ≤ length s → before m (drop i s) ≡ take (seek m s i - i) (drop i s)
      out i h g = rw (drop_of_length-le s h) (sym (take-nil (seek m s i - i)))

      on : (i : ℕ) → i < length s → ((j : ℕ) → i < j → j ≤ length s → before m (drop j s) ≡ take (seek m s j - j) (drop j s)) → i ≤ length s
          → before m (drop i s) ≡ take (seek m s i - i) (drop i s)
      on i h k g =
          by-test (starts_at s i m)
          (λ e. let z : i - i ≡ 0 = omega arith in
          rw (seek-here m s i h e, z, byte_at s i h, ← (byte_at s i h), prefix-at m s i, e))
          (λ e. let z : seek m s (i + 1) - i ≡ suc (seek m s (i + 1) - (i + 1)) = omega (arith, (sought (i + 1) (omega arith)).after) in
          rw (
            seek-on m s i h e,
            z,
            byte_at s i h,
            ← (byte_at s i h),
            prefix-at m s i,
            e,
          ) (ap (get_or s i 0 ∷◌) (k (i + 1) (omega arith) (omega arith))))

  pub before_at : (i : ℕ) → i ≤ length s → before m (drop i s) ≡ string_at s i (seek m s i - i)
  before_at i h = before-take i h ∙ sym (string_is s i (seek m s i - i))
