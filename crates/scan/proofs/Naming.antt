-- Laws of names. Assumes nothing.
--     agree                   two strings agree once f is applied to each byte: same_bytes_of and same_folded are two cases of it
--     agree_lengths           two of unlike lengths do not
--     same_pointwise          what std's test of two strings tells
--     same_eq, same_refl, folded_map, map_folded, same_folded-refl, same_folded-sym
--     lower-capital, lower-below, lower-above   the fold of one byte
--     folded_told             what std's test of two folded strings tells
--     after_last, after_first   the part after the last colon, and after the first, by a search
--     first-colon                     the part after the first
use Prim.Native.Nat.{ℕ, zero, suc, ◌+◌, ◌≤◌, ◌<◌}
use mathlib.Core.Path.{◌≡◌, refl, sym, ap, ◌∙◌}
use mathlib.Core.Bool.{Bool, true, false, cond, ◌&&◌, and-false, false≢true, true≢false}
use mathlib.Core.List.{List, [], ◌∷◌, map, map-id}
use mathlib.Core.Logic.{◌↔◌}
use native.Mathlib.Omega.{arith}
use native.Mathlib.Numerals.{add-one}
use lib.ListN.{length, get_or, drop, length-drop, drop_of_length-le}
use lib.Seq.{drop-cons, get_or-drop}
use lib.Dec.{eqb}
use lib.Pointwise.{pointwise}
use borrow.Author.Tests.{eq-eqb, ne_eqb, eqb-true, le-leb, lt-leb, not-true, not-false}
use Rattle.std.specs.Prelude.{Option, Some, None, nat_eq, IsTrue, MatchOption}
use Rattle.std.specs.Char.{to_ascii_lowercase}
use Rattle.std.proofs.lemmas.Bool.Decides.{nat_tests, same_from_decides}
use Rattle.std.proofs.lemmas.Str.Ascii.{lowercase_is}
use Rattle.scan.specs.Bytes.{other, run_end_of}
use Rattle.scan.specs.Names.{lower, same_bytes_of, same_folded, has_colon, after_last_colon, past_colon, after_first_colon, PartFrom}
use Rattle.scan.proofs.Runs.{run-ind}

unfoldable pub agree : (ℕ → ℕ) → List ℕ → List ℕ → Bool
agree f [] [] = true
agree f [] (y ∷ b) = false
agree f (x ∷ a) [] = false
agree f (x ∷ a) (y ∷ b) = eqb (f x) (f y) && agree f a b

abbrev pub itself : ℕ → ℕ
itself x = x

pub same_agree : (a b : List ℕ) → same_bytes_of a b ≡ agree itself a b
unfolding same_bytes_of agree
same_agree [] [] = refl
same_agree [] (y ∷ b) = refl
same_agree (x ∷ a) [] = refl
same_agree (x ∷ a) (y ∷ b) = rw (same_agree a b)

pub folded_agree : (a b : List ℕ) → same_folded a b ≡ agree lower a b
unfolding same_folded agree
folded_agree [] [] = refl
folded_agree [] (y ∷ b) = refl
folded_agree (x ∷ a) [] = refl
folded_agree (x ∷ a) (y ∷ b) = rw (folded_agree a b)

module _ (f : ℕ → ℕ) where
  pub agree_lengths : (a b : List ℕ) → (length a ≡ length b → ⊥) → agree f a b ≡ false
  unfolding agree
  agree_lengths [] [] h = absurd (h refl)
  agree_lengths [] (y ∷ b) h = refl
  agree_lengths (x ∷ a) [] h = refl
  agree_lengths (x ∷ a) (y ∷ b) h = rw (agree_lengths a b (λ e. h (ap suc e)), and-false)

  pub agree_map : (a b : List ℕ) → agree f a b ≡ true → map f a ≡ map f b
  unfolding agree
  agree_map [] [] h = refl
  agree_map [] (y ∷ b) h = absurd (false≢true h)
  agree_map (x ∷ a) [] h = absurd (false≢true h)
  agree_map (x ∷ a) (y ∷ b) h = by (eqb (f x) (f y)) refl (agree_map a b)
    where
      by : (t : Bool) → eqb (f x) (f y) ≡ t → (agree f a b ≡ true → map f a ≡ map f b) → map f (x ∷ a) ≡ map f (y ∷ b)
      by true e k = rw (eqb-true (f x) (f y) e, k (rw e at h))
      by false e k = absurd (false≢true (rw e at h))

  pub map_agree : (a b : List ℕ) → map f a ≡ map f b → agree f a b ≡ true
  unfolding agree
  map_agree [] [] h = refl
  map_agree [] (y ∷ b) h = absurd (let z : ◌≡◌ {A = ℕ} 0 1 = cc in omega arith)
  map_agree (x ∷ a) [] h = absurd (let z : ◌≡◌ {A = ℕ} 0 1 = cc in omega arith)
  map_agree (x ∷ a) (y ∷ b) h =
      let e : f x ≡ f y = cc in
      let g : map f a ≡ map f b = cc in
      rw (eq-eqb (f x) (f y) e) (map_agree a b g)

  -- the bytes of both from a place on
  module _ (a b : List ℕ) (i : ℕ) where
    pub agree_out : length a ≤ i → length b ≤ i → agree f (drop i a) (drop i b) ≡ true
    unfolding agree
    agree_out h g = rw (drop_of_length-le a h, drop_of_length-le b g)

    pub agree_off : i < length a → i < length b → (f (get_or a i 0) ≡ f (get_or b i 0) → ⊥) → agree f (drop i a) (drop i b) ≡ false
    unfolding agree
    agree_off h g e = rw (drop-cons a i 0 h, drop-cons b i 0 g, ne_eqb (f (get_or a i 0)) (f (get_or b i 0)) e)

    pub agree_on : i < length a → i < length b → f (get_or a i 0) ≡ f (get_or b i 0)
        → agree f (drop i a) (drop i b) ≡ agree f (drop (i + 1) a) (drop (i + 1) b)
    unfolding agree
    agree_on h g e = rw (add-one i, drop-cons a i 0 h, drop-cons b i 0 g, eq-eqb (f (get_or a i 0)) (f (get_or b i 0)) e)

pub same_eq : (a b : List ℕ) → same_bytes_of a b ≡ true → a ≡ b
same_eq a b h = sym (map-id a) ∙ agree_map itself a b (sym (same_agree a b) ∙ h) ∙ map-id b

pub same_refl : (a : List ℕ) → same_bytes_of a a ≡ true
same_refl a = same_agree a a ∙ map_agree itself a a refl

pub folded_map : (a b : List ℕ) → same_folded a b ≡ true → map lower a ≡ map lower b
folded_map a b h = agree_map lower a b (sym (folded_agree a b) ∙ h)

pub map_folded : (a b : List ℕ) → map lower a ≡ map lower b → same_folded a b ≡ true
map_folded a b h = folded_agree a b ∙ map_agree lower a b h

pub same_folded-refl : (a : List ℕ) → same_folded a a ≡ true
same_folded-refl a = map_folded a a refl

pub same_folded-sym : (a b : List ℕ) → same_folded a b ≡ true → same_folded b a ≡ true
same_folded-sym a b h = map_folded b a (sym (folded_map a b h))

-- ---- the fold of one byte
module _ (b : ℕ) where
  pub lower-capital : 65 ≤ b → b ≤ 90 → lower b ≡ b + 32
  unfolding lower
  lower-capital h l = rw (le-leb 65 b h, le-leb b 90 l)

  pub lower-below : b < 65 → lower b ≡ b
  unfolding lower
  lower-below h = rw (lt-leb 65 b h)

  pub lower-above : 90 < b → lower b ≡ b
  unfolding lower
  lower-above h = rw (lt-leb b 90 h, and-false)

-- ---- colons
has-none : (s : List ℕ) → ((k : ℕ) → k < length s → get_or s k 0 ≡ 58 → ⊥) → has_colon s ≡ false
unfolding has_colon
has-none [] n = refl
has-none (b ∷ s) n = rw (ne_eqb b 58 (n 0 (omega arith))) (has-none s (λ k h. n (suc k) (omega arith)))

colon_at : (s : List ℕ) (i : ℕ) → i < length s → get_or s i 0 ≡ 58 → has_colon s ≡ true
unfolding has_colon
colon_at [] i h e = absurd (omega arith)
colon_at (b ∷ s) zero h e = rw (eq-eqb b 58 e)
colon_at (b ∷ s) (suc i) h e = rw (colon_at s i (omega arith) e) (by (eqb b 58))
  where
    by : (t : Bool) → cond t true true ≡ true
    by true = refl
    by false = refl

-- a name's last colon is the byte before i
after-colon : (s : List ℕ) (i : ℕ) → i < length s → get_or s i 0 ≡ 58 → has_colon (drop (suc i) s) ≡ false → after_last_colon s ≡ drop (suc i) s
unfolding after_last_colon
after-colon [] i h e n = absurd (omega arith)
after-colon (b ∷ s) zero h e n = rw (n, eq-eqb b 58 e)
after-colon (b ∷ s) (suc i) h e n = rw (colon_at s i (omega arith) e) (after-colon s i (omega arith) e n)

no_colon : (s : List ℕ) → has_colon s ≡ false → after_last_colon s ≡ s
unfolding after_last_colon has_colon
no_colon [] n = refl
no_colon (b ∷ s) n = by (eqb b 58) refl
  where
    by : (t : Bool) → eqb b 58 ≡ t → after_last_colon (b ∷ s) ≡ b ∷ s
    by true e = absurd (true≢false (rw e at n))
    by false e = let m : has_colon s ≡ false = rw e at n in rw (m, e)

-- what stands after the last colon: after the place that a search from the right finds, if it finds one
pub after_last : (s : List ℕ) (found : Option ℕ) → (found ≡ None → (k : ℕ) → k < length s → get_or s k 0 ≡ 58 → ⊥)
    → ((i : ℕ) → found ≡ Some i → (i < length s) × (get_or s i 0 ≡ 58) × ((k : ℕ) → i < k → k < length s → get_or s k 0 ≡ 58 → ⊥))
    → MatchOption found (PartFrom s 0 (after_last_colon s)) (λ i. PartFrom s (i + 1) (after_last_colon s))
after_last s None n h = record { within = omega arith; is = sym (no_colon s (has-none s (n refl))) }
after_last s (Some i) n h =
    let here = h i refl in
    let none : has_colon (drop (suc i) s) ≡ false =
    has-none (drop (suc i) s)
    (λ k l w. here.2 (suc i + k) (omega arith) (omega (arith, length-drop (suc i) s)) (sym (get_or-drop (suc i) s k 0) ∙ w)) in
    record { within = omega (arith, here.0); is = rw (add-one i) (sym (after-colon s i here.0 here.1 none)) }

-- and after the first: the same by a search from the left
pub after_first : (s : List ℕ) (found : Option ℕ) → (found ≡ None → (k : ℕ) → k < length s → get_or s k 0 ≡ 58 → ⊥)
    → ((i : ℕ) → found ≡ Some i → (i < length s) × (get_or s i 0 ≡ 58) × ((k : ℕ) → k < i → get_or s k 0 ≡ 58 → ⊥))
    → MatchOption found (PartFrom s 0 (after_first_colon s)) (λ i. PartFrom s (i + 1) (after_first_colon s))
unfolding after_first_colon past_colon
after_first s None n h = record { within = omega arith; is = rw (has-none s (n refl)) }
after_first s (Some i) n h =
    let here = h i refl in
    let past : past_colon s ≡ drop (suc i) s = past-first s i here.0 here.1 here.2 in
    record { within = omega (arith, here.0); is = rw (colon_at s i here.0 here.1, add-one i) (sym past) }
  where
    past-first : (s : List ℕ) (i : ℕ) → i < length s → get_or s i 0 ≡ 58 → ((k : ℕ) → k < i → get_or s k 0 ≡ 58 → ⊥) → past_colon s ≡ drop (suc i) s
    past-first [] i l e n = absurd (omega arith)
    past-first (b ∷ s) zero l e n = rw (eq-eqb b 58 e)
    past-first (b ∷ s) (suc i) l e n = rw (ne_eqb b 58 (n 0 (omega arith))) (past-first s i (omega arith) e (λ k h. n (suc k) (omega arith)))

-- where the bytes other than a colon end, and the first colon stands
pub record FirstColon (s : List ℕ) (r : ℕ) : Type 0 where
  pub got : r < length s → PartFrom s (r + 1) (after_first_colon s)
  pub none : length s ≤ r → PartFrom s 0 (after_first_colon s)

record Passing (s : List ℕ) (i : ℕ) : Type 0 where
  has : has_colon s ≡ has_colon (drop i s)
  past : past_colon s ≡ past_colon (drop i s)

module _ (s : List ℕ) where
  goes : (i : ℕ) → i < length s → other 58 (get_or s i 0) ≡ true → Passing s i → Passing s (i + 1)
  unfolding has_colon past_colon
  goes i h e j =
      let n : eqb (get_or s i 0) 58 ≡ false = not-true _ e in
      record {
        has = j.has ∙ rw (add-one i, drop-cons s i 0 h, n);
        past = j.past ∙ rw (add-one i, drop-cons s i 0 h, n);
      }

  stops : (i : ℕ) → i < length s → other 58 (get_or s i 0) ≡ false → Passing s i → FirstColon s i
  unfolding has_colon past_colon after_first_colon
  stops i h e j =
      let n : eqb (get_or s i 0) 58 ≡ true = not-false _ e in
      let b : has_colon s ≡ true = j.has ∙ rw (drop-cons s i 0 h, n) in
      let p : past_colon s ≡ drop (i + 1) s = j.past ∙ rw (add-one i, drop-cons s i 0 h, n) in
      record {
        got = λ l. record { within = omega arith; is = rw (b, p) };
        none = λ l. absurd (omega arith);
      }

  ends : (i : ℕ) → length s ≤ i → Passing s i → FirstColon s i
  unfolding has_colon after_first_colon
  ends i h j =
      let b : has_colon s ≡ false = j.has ∙ rw (drop_of_length-le s h) in
      record {
        got = λ l. absurd (omega arith);
        none = λ l. record { within = omega arith; is = rw b };
      }

  pub first-colon : (r : ℕ) → r ≡ run_end_of (other 58) s 0 → FirstColon s r
  first-colon r e = rw e (run-ind (other 58) s (Passing s) (FirstColon s) goes stops ends 0 (record { has = refl; past = refl }))
