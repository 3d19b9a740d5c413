-- Laws of classes of bytes and of runs of them. Assumes nothing.
--     blank-not, name_yes, attr-name_yes, digit_yes, digit_below, digit_above, either   what the tests of a byte show of its class
--     between, blank-space, text-high, name_high, attr-name_high, digit_within   what a range shows of it
--     length_out, length_stop, length_on, length_within   how many bytes a text begins with
--     run-here, run_on, run_out      where a run ends, by the byte at its place
--     upward                         from the places past a length down
--     run-ind                        what each byte that passes keeps holds where the run ends
--     run_turn, run-loop              a run as a loop
--     run-low, run-high, run-stops, run-all   what follows for every run
--     passes-as, passes_more, run-over, skips_one, skips_more   bytes that all pass are passed over at once
--     run_length                     a run as the length of a beginning
--     ends-here, ends-out, ends-skipped, ends_whole, ends_on   what a loop over bytes ensures where it ends
use Prim.Native.Nat.{ℕ, zero, suc, ◌+◌, ◌-◌, ◌≤◌, ◌<◌}
use mathlib.Core.Path.{◌≡◌, refl, sym, subst⁻¹, ◌∙◌}
use mathlib.Core.Bool.{Bool, true, false, cond, ◌&&◌, true≢false}
use mathlib.Core.List.{List, [], ◌∷◌}
use mathlib.Core.Logic.{◌⊎◌, inl, inr}
use native.Mathlib.Omega.{arith}
use native.Mathlib.Numerals.{add-one}
use lib.ListN.{length, get_or, drop, drop_of_length-le}
use lib.Seq.{drop-cons}
use lib.Dec.{eqb, ltb, leb}
use borrow.Author.Tests.{eqb-true, eqb-false, ne_eqb, le-leb, lt-leb, leb-true, ltb-true, ltb-false}
use Rattle.scan.specs.Loop.{Next, halt, more, loop}
use Rattle.scan.specs.Bytes.{blank, text_byte, name_byte, attr_name_byte, digit_byte, run_end_of, run_length_of}
use Rattle.scan.specs.Posts.{Ends, Passes, Skips}
use Rattle.scan.proofs.Every.{by-test}
use Rattle.scan.proofs.Loop.{loop-out, loop-halt, loop-more}

-- ---- a byte's class
pub blank-not : (b : ℕ) → (b ≡ 9 → ⊥) → (b ≡ 10 → ⊥) → (b ≡ 13 → ⊥) → (b ≡ 32 → ⊥) → blank b ≡ false
unfolding blank
blank-not b e f g h = rw (ne_eqb b 9 e, ne_eqb b 10 f, ne_eqb b 13 g, ne_eqb b 32 h)

pub name_yes : (b : ℕ) → blank b ≡ false → (b ≡ 47 → ⊥) → (b ≡ 62 → ⊥) → name_byte b ≡ true
unfolding name_byte
name_yes b n e f = rw (n, ne_eqb b 47 e, ne_eqb b 62 f)

pub attr-name_yes : (b : ℕ) → blank b ≡ false → (b ≡ 47 → ⊥) → (b ≡ 61 → ⊥) → (b ≡ 62 → ⊥) → attr_name_byte b ≡ true
unfolding attr_name_byte
attr-name_yes b n e f g = rw (n, ne_eqb b 47 e, ne_eqb b 61 f, ne_eqb b 62 g)

pub digit_yes : (b : ℕ) → 48 ≤ b → b ≤ 57 → digit_byte b ≡ true
unfolding digit_byte
digit_yes b l h = rw (le-leb 48 b l, le-leb b 57 h)

pub digit_below : (b : ℕ) → b < 48 → digit_byte b ≡ false
unfolding digit_byte
digit_below b l = rw (lt-leb 48 b l)

pub digit_above : (b : ℕ) → 57 < b → digit_byte b ≡ false
unfolding digit_byte
digit_above b l = let h : 48 ≤ b = omega arith in rw (le-leb 48 b h, lt-leb b 57 l)

-- a range of two
pub either : (b k : ℕ) → k ≤ b → b < k + 2 → (b ≡ k) ⊎ (b ≡ k + 1)
either b k h l = by (eqb b k) refl
  where
    by : (t : Bool) → eqb b k ≡ t → (b ≡ k) ⊎ (b ≡ k + 1)
    by true e = inl (eqb-true b k e)
    by false e = let n : b ≡ k → ⊥ = eqb-false b k e in inr (omega arith)

-- what a range shows
pub between : (l h b : ℕ) → leb l b && leb b h ≡ true → (l ≤ b) × (b ≤ h)
between l h b e = by (leb l b) refl (leb b h) refl
  where
    by : (x : Bool) → leb l b ≡ x → (y : Bool) → leb b h ≡ y → (l ≤ b) × (b ≤ h)
    by true f true g = (leb-true l b f, leb-true b h g)
    by true f false g = absurd (true≢false (sym e ∙ rw (f, g)))
    by false f y g = absurd (true≢false (sym e ∙ rw f))

pub blank-space : (b : ℕ) → leb 32 b && leb b 32 ≡ true → blank b ≡ true
unfolding blank
blank-space b e = let w = between 32 32 b e in let z : b ≡ 32 = omega (arith, w.0, w.1) in rw z

module _ (b : ℕ) (e : leb 63 b && leb b 255 ≡ true) where
  high : 63 ≤ b
  high = (between 63 255 b e).0

  blank-high : blank b ≡ false
  blank-high = blank-not b (λ z. omega (arith, high)) (λ z. omega (arith, high)) (λ z. omega (arith, high)) (λ z. omega (arith, high))

  pub text-high : text_byte b ≡ true
  unfolding text_byte
  text-high = rw (ne_eqb b 60 (λ z. omega (arith, high)))

  pub name_high : name_byte b ≡ true
  name_high = name_yes b blank-high (λ z. omega (arith, high)) (λ z. omega (arith, high))

  pub attr-name_high : attr_name_byte b ≡ true
  attr-name_high = attr-name_yes b blank-high (λ z. omega (arith, high)) (λ z. omega (arith, high)) (λ z. omega (arith, high))

pub digit_within : (b : ℕ) → leb 48 b && leb b 57 ≡ true → digit_byte b ≡ true
unfolding digit_byte
digit_within b e = e

-- ---- the bytes that a text begins with
module _ (t : ℕ → Bool) (s : List ℕ) (i : ℕ) where
  pub length_out : length s ≤ i → run_length_of t (drop i s) ≡ 0
  unfolding run_length_of
  length_out h = rw (drop_of_length-le s h)

  pub length_stop : i < length s → t (get_or s i 0) ≡ false → run_length_of t (drop i s) ≡ 0
  unfolding run_length_of
  length_stop h e = rw (drop-cons s i 0 h, e)

  pub length_on : i < length s → t (get_or s i 0) ≡ true → run_length_of t (drop i s) ≡ suc (run_length_of t (drop (i + 1) s))
  unfolding run_length_of
  length_on h e = rw (add-one i, drop-cons s i 0 h, e)

pub length_within : (t : ℕ → Bool) (s : List ℕ) → run_length_of t s ≤ length s
unfolding run_length_of
length_within t [] = omega arith
length_within t (b ∷ s) = by (t b) (length_within t s)
  where
    by : (x : Bool) → run_length_of t s ≤ length s → cond x (suc (run_length_of t s)) 0 ≤ suc (length s)
    by true l = omega arith
    by false l = omega arith

-- ---- one turn of a run
module _ (t : ℕ → Bool) (s : List ℕ) (i : ℕ) where
  pub run-here : i < length s → t (get_or s i 0) ≡ false → run_end_of t s i ≡ i
  unfolding run_end_of
  run-here h e = rw (drop-cons s i 0 h, e) (omega arith)

  pub run_on : i < length s → t (get_or s i 0) ≡ true → run_end_of t s i ≡ run_end_of t s (i + 1)
  unfolding run_end_of
  run_on h e = rw (drop-cons s i 0 h, e, add-one i) (omega arith)

  pub run_out : length s ≤ i → run_end_of t s i ≡ i
  unfolding run_end_of
  run_out h = rw (drop_of_length-le s h) (omega arith)

-- ---- a whole run
-- what holds past a length, and at each place if at the next, holds everywhere
pub upward : (len : ℕ) (P : ℕ → Type 0) → ((i : ℕ) → len ≤ i → P i) → ((i : ℕ) → i < len → P (i + 1) → P i) → (p : ℕ) → P p
upward len P out on p = from len p (omega arith)
  where
    from : (n i : ℕ) → len ≤ i + n → P i
    from zero i h = out i (omega arith)
    from (suc n) i h = by (ltb i len) refl (from n (i + 1) (omega arith))
      where
        by : (b : Bool) → ltb i len ≡ b → P (i + 1) → P i
        by true e k = on i (ltb-true i len e) k
        by false e k = out i (ltb-false i len e)

module _ (t : ℕ → Bool) (s : List ℕ) (Inv Q : ℕ → Type 0)
    (goes : (i : ℕ) → i < length s → t (get_or s i 0) ≡ true → Inv i → Inv (i + 1))
    (stops : (i : ℕ) → i < length s → t (get_or s i 0) ≡ false → Inv i → Q i)
    (ends : (i : ℕ) → length s ≤ i → Inv i → Q i)
  where
    pub run-ind : (p : ℕ) → Inv p → Q (run_end_of t s p)
    run-ind = upward (length s) (λ i. Inv i → Q (run_end_of t s i)) (λ i h j. subst⁻¹ Q (run_out t s i h) (ends i h j)) on
      where
        on : (i : ℕ) → i < length s → (Inv (i + 1) → Q (run_end_of t s (i + 1))) → Inv i → Q (run_end_of t s i)
        on i h k j = by (t (get_or s i 0)) refl
          where
            by : (b : Bool) → t (get_or s i 0) ≡ b → Q (run_end_of t s i)
            by true e = subst⁻¹ Q (run_on t s i h e) (k (goes i h e j))
            by false e = subst⁻¹ Q (run-here t s i h e) (stops i h e j)

-- the same as turns of a loop
abbrev pub run_turn : (ℕ → Bool) → List ℕ → ℕ → Unit {0} → Next (Unit {0}) ℕ
run_turn t s i x = cond (t (get_or s i 0)) (more (i + 1) x) (halt i)

pub run-loop : (t : ℕ → Bool) (s : List ℕ) (p : ℕ) → run_end_of t s p ≡ loop (length s) (run_turn t s) (λ i x. i) p tt
run-loop t s p = run-ind t s (λ i. from i ≡ from p) (λ r. r ≡ from p) goes stops ends p refl
  where
    from : ℕ → ℕ
    from i = loop (length s) (run_turn t s) (λ i x. i) i tt

    goes : (i : ℕ) → i < length s → t (get_or s i 0) ≡ true → from i ≡ from p → from (i + 1) ≡ from p
    goes i h e j = sym (loop-more (length s) (run_turn t s) (λ j x. j) i tt (i + 1) tt h (rw e) (omega arith)) ∙ j

    stops : (i : ℕ) → i < length s → t (get_or s i 0) ≡ false → from i ≡ from p → i ≡ from p
    stops i h e j = sym (loop-halt (length s) (run_turn t s) (λ j x. j) i tt i h (rw e)) ∙ j

    ends : (i : ℕ) → length s ≤ i → from i ≡ from p → i ≡ from p
    ends i h j = sym (loop-out (length s) (run_turn t s) (λ j x. j) i tt h) ∙ j

-- what the definition says of itself, with no code
module _ (t : ℕ → Bool) (s : List ℕ) (p : ℕ) where
  pub run-low : p ≤ run_end_of t s p
  run-low = run-ind t s (λ i. p ≤ i) (λ r. p ≤ r) (λ i h e j. omega arith) (λ i h e j. j) (λ i h j. j) p (omega arith)

  pub run-high : p ≤ length s → run_end_of t s p ≤ length s
  run-high l = run-ind t s (λ i. i ≤ length s) (λ r. r ≤ length s) (λ i h e j. omega arith) (λ i h e j. j) (λ i h j. j) p l

  pub run-stops : run_end_of t s p < length s → t (get_or s (run_end_of t s p) 0) ≡ false
  run-stops =
      run-ind t s (λ i. Unit {0}) (λ r. r < length s → t (get_or s r 0) ≡ false) (λ i h e j. tt) (λ i h e j l. e) (λ i h j l. absurd (omega arith)) p tt

  pub run-all : (k : ℕ) → p ≤ k → k < run_end_of t s p → t (get_or s k 0) ≡ true
  run-all = run-ind t s passed passed goes (λ i h e j. j) (λ i h j. j) p (λ k l h. absurd (omega arith))
    where
      passed : ℕ → Type 0
      passed i = (k : ℕ) → p ≤ k → k < i → t (get_or s k 0) ≡ true

      goes : (i : ℕ) → i < length s → t (get_or s i 0) ≡ true → passed i → passed (i + 1)
      goes i h e j k l m = by (eqb k i) refl
        where
          by : (b : Bool) → eqb k i ≡ b → t (get_or s k 0) ≡ true
          by true w = rw (eqb-true k i w) e
          by false w = let n : k ≡ i → ⊥ = eqb-false k i w in j k l (omega arith)

-- a run from p on is the run that the text after p begins with
pub run_length : (t : ℕ → Bool) (s : List ℕ) (p : ℕ) → p ≤ length s → run_end_of t s p ≡ p + run_length_of t (drop p s)
unfolding run_end_of
run_length t s p l = refl

-- ---- blocks of bytes that pass
pub passes-as : (t u : ℕ → Bool) (s : List ℕ) (p e : ℕ) → ((b : ℕ) → t b ≡ true → u b ≡ true) → Passes t s p e → Passes u s p e
passes-as t u s p e f w k l h = f (get_or s k 0) (w k l h)

pub passes_more : (t : ℕ → Bool) (s : List ℕ) (p e e' : ℕ) → e' ≡ e + 1 → Passes t s p e → t (get_or s e 0) ≡ true → Passes t s p e'
passes_more t s p e e' w b g k l h = by (eqb k e) refl
  where
    by : (x : Bool) → eqb k e ≡ x → t (get_or s k 0) ≡ true
    by true z = rw (eqb-true k e z) g
    by false z = let n : k ≡ e → ⊥ = eqb-false k e z in b k l (omega arith)

pub run-over : (t : ℕ → Bool) (s : List ℕ) (n i e : ℕ) → e ≡ i + n → e ≤ length s → Passes t s i e → run_end_of t s i ≡ run_end_of t s e
run-over t s zero i e w h b = let z : e ≡ i = omega arith in rw z
run-over t s (suc n) i e w h b =
    run_on t s i (omega arith) (b i (omega arith) (omega arith)) ∙ run-over t s n (i + 1) e (omega arith) h (λ k l q. b k (omega arith) q)

pub skips_one : (t : ℕ → Bool) (s : List ℕ) (p i e : ℕ) → e ≡ i + 1 → i < length s → Skips t s p i → t (get_or s i 0) ≡ true → Skips t s p e
skips_one t s p i e w h k g = record { after = omega (arith, k.after); within = omega arith; same = k.same ∙ rw w (run_on t s i h g) }

pub skips_more : (t : ℕ → Bool) (s : List ℕ) (p i e : ℕ) → i ≤ e → e ≤ length s → Skips t s p i → Passes t s i e → Skips t s p e
skips_more t s p i e l h k b = record { after = omega (arith, k.after); within = h; same = k.same ∙ run-over t s (e - i) i e (omega arith) h b }

-- ---- what the loops over bytes ensure where they end
module _ (t : ℕ → Bool) (s : List ℕ) (p i : ℕ) (l : p ≤ i) (w : run_end_of t s p ≡ run_end_of t s i) where
  pub ends-here : i < length s → t (get_or s i 0) ≡ false → Ends t s p i
  ends-here h e = record { is = sym (w ∙ run-here t s i h e); after = l; within = omega arith; stops = λ g. e }

  pub ends-out : i ≤ length s → length s ≤ i → Ends t s p i
  ends-out g h = record { is = sym (w ∙ run_out t s i h); after = l; within = g; stops = λ k. absurd (omega arith) }

module _ (t : ℕ → Bool) (s : List ℕ) (p i : ℕ) (k : Skips t s p i) where
  pub ends-skipped : i < length s → t (get_or s i 0) ≡ false → Ends t s p i
  ends-skipped = ends-here t s p i k.after k.same

  pub ends_whole : (i < length s → Ends t s p i) → Ends t s p i
  ends_whole e =
      by-test (ltb i (length s)) (λ l. e (ltb-true i (length s) l)) (λ l. ends-out t s p i k.after k.same k.within (ltb-false i (length s) l))

  pub ends_on : (r : ℕ) → Ends t s i r → Ends t s p r
  ends_on r e = record { is = e.is ∙ sym k.same; after = omega (arith, k.after, e.after); within = e.within; stops = e.stops }
