-- What ends in m is no count, so that a time in ms is none in s. Assumes nothing.
use Rattle.std.specs.Prelude.{Err}
use Prim.Native.Nat.{ℕ, zero, suc, ◌-◌, ◌<◌}
use mathlib.Core.Path.{◌≡◌, refl, ap, ◌∙◌}
use mathlib.Core.Bool.{Bool, true, false, not, ◌||◌, and-false}
use mathlib.Core.List.{List, [], ◌∷◌}
use native.Mathlib.Omega.{arith}
use lib.ListN.{length, get_or, drop, length-drop, drop_of_length-le}
use lib.Seq.{take_all}
use lib.Dec.{eqb, ltb}
use borrow.Author.Tests.{ltb-true, ltb-false, ne_eqb, not-true}
use Rattle.scan.specs.Bytes.{digit_byte, run_length_of}
use Rattle.scan.specs.Every.{every}
use Rattle.scan.specs.Names.{lower, same_folded}
use Rattle.scan.proofs.Every.{by-test, both}
use Rattle.utf8.specs.White.{white_end, white_start, trimmed}
use Rattle.utf8.proofs.WhiteLaws.{white_back-here}
use Rattle.utf8.proofs.Trimming.{before-visible}
use Rattle.decimals.specs.Decimal.{is_sign, unsigned, after_digits, after_fraction, all_digits, rest_of, only_digits, is_exponent, is_word}
use Rattle.decimals.specs.Decimal.{decimal_of}
use Rattle.decimals.proofs.Reading.{decimal-none}
use Rattle.times.specs.Expressions.{time_decimal}
use Rattle.decimals.specs.declared.read.DecimalError.{DecimalError}

data EndsInM : List ℕ → Type 0 where
  last : EndsInM (109 ∷ [])
  more : (b : ℕ) {s : List ℕ} → EndsInM s → EndsInM (b ∷ s)

ends-in_m : (s : List ℕ) (k : ℕ) → length s ≡ suc k → get_or s k 0 ≡ 109 → EndsInM s
ends-in_m [] k h e = absurd (omega arith)
ends-in_m (b ∷ []) zero h e = rw e last
ends-in_m (b ∷ []) (suc k) h e = absurd (omega arith)
ends-in_m (b ∷ c ∷ s) zero h e = absurd (omega arith)
ends-in_m (b ∷ c ∷ s) (suc k) h e = more b (ends-in_m (c ∷ s) k (omega arith) e)

-- ---- what is left of it behind digits, a fraction, a sign, or any part but the whole
behind-digits : {s : List ℕ} → EndsInM s → EndsInM (after_digits s)
unfolding run_length_of digit_byte
behind-digits last = last
behind-digits (more b {s} e) = by-test (digit_byte b) (λ d. rw d (behind-digits e)) (λ d. rw d (more b e))

behind-fraction : {s : List ℕ} → EndsInM s → EndsInM (after_fraction s)
unfolding after_fraction
behind-fraction last = last
behind-fraction (more b {s} e) = by-test (eqb b 46) (λ d. rw d (behind-digits e)) (λ d. rw d (more b e))

behind-sign : {s : List ℕ} → EndsInM s → EndsInM (unsigned s)
unfolding unsigned
behind-sign last = last
behind-sign (more b {s} e) = by-test (is_sign b) (λ d. rw d e) (λ d. rw d (more b e))

behind : {s : List ℕ} (k : ℕ) → EndsInM s → k < length s → EndsInM (drop k s)
behind zero e h = e
behind (suc k) last h = absurd (omega arith)
behind (suc k) (more b e) h = behind k e (omega arith)

-- ---- it is no decimal
some : {s : List ℕ} → EndsInM s → eqb (length s) 0 ≡ false
some last = refl
some (more b {s} e) = ne_eqb (length (b ∷ s)) 0 (λ z. omega arith)

short : {s : List ℕ} → EndsInM s → run_length_of digit_byte s ≡ length s → ⊥
unfolding run_length_of digit_byte
short last w = omega arith
short (more b {s} e) w = by-test (digit_byte b) (λ d. short e (omega (arith, rw d at w))) (λ d. omega (arith, rw d at w))

not_digits : {s : List ℕ} → EndsInM s → only_digits s ≡ false
unfolding only_digits
not_digits {s} e = rw (ne_eqb (run_length_of digit_byte s) (length s) (short e)) (and-false (ltb 0 (length s)))

not_exponent : {s : List ℕ} → EndsInM s → is_exponent s ≡ false
unfolding is_exponent
not_exponent last = refl
not_exponent (more b {s} e) = rw (not_digits (behind-sign e)) (and-false (eqb b 101 || eqb b 69))

-- a word without an m
abbrev other : ℕ → Bool
other b = not (eqb 109 (lower b))

not_folded : {s : List ℕ} → EndsInM s → (w : List ℕ) → every other w ≡ true → same_folded s w ≡ false
unfolding same_folded
not_folded last [] n = refl
not_folded last (b ∷ w) n = rw (not-true (eqb 109 (lower b)) (both {a = other b} {b = every other w} n).0)
not_folded (more b e) [] n = refl
not_folded (more b e) (c ∷ w) n = rw (not_folded e w (both {a = other c} {b = every other w} n).1) (and-false (eqb (lower b) (lower c)))

not_word : {s : List ℕ} → EndsInM s → is_word s ≡ false
unfolding is_word lower
not_word e = rw (
  not_folded e (105 ∷ 110 ∷ 102 ∷ []) refl,
  not_folded e (105 ∷ 110 ∷ 102 ∷ 105 ∷ 110 ∷ 105 ∷ 116 ∷ 121 ∷ []) refl,
  not_folded e (110 ∷ 97 ∷ 110 ∷ []) refl,
)

not_decimal : {s : List ℕ} → EndsInM s → time_decimal s ≡ Err DecimalError.Invalid
unfolding decimal_of
not_decimal {s} e =
    let u : EndsInM (unsigned s) = behind-sign e in
    let r : EndsInM (rest_of (unsigned s)) = behind-fraction (behind-digits u) in
    by-test (eqb (length (all_digits (unsigned s))) 0)
    (λ d. rw (d, not_word u))
    (λ d. rw (d, some r, not_exponent r))

-- ---- nor is it with white space around it
pub no_count : (s : List ℕ) → 0 < length s → get_or s (length s - 1) 0 ≡ 109 → time_decimal (trimmed s) ≡ Err DecimalError.Invalid
unfolding trimmed white_start
no_count s h e =
    let w : white_start s ≡ length s = white_back-here s (length s) (before-visible s (length s) h (omega arith) (omega arith) (omega arith)) in
    let all : trimmed s ≡ drop (white_end s 0) s =
    rw w (take_all (length s - white_end s 0) (drop (white_end s 0) s) (simp length-drop (omega arith))) in
    ap time_decimal all ∙ by-test (ltb (white_end s 0) (length s))
    (λ t. not_decimal (behind (white_end s 0) (ends-in_m s (length s - 1) (omega arith) e) (ltb-true _ _ t)))
    (λ t. decimal-none 15 22 _ (ap length (drop_of_length-le s (ltb-false _ _ t))))
