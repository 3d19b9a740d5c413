-- The program's test of ASCII white space is enough. White space past ASCII ends a name too, but no known name has a byte past 127, so that a
-- name with such a byte stays as it is, wherever it ends. Assumes nothing.
--     taken, name_end           the bytes that the program takes; the name ends where they do, or before, at a byte past 127
--     known_ascii               the bytes of a known name are ASCII
--     reference-run, length_run what follows an `&`, and how long its name is, by the bytes that the program takes
use Rattle.std.specs.Prelude.{Option, Some, None}
use Prim.Native.Nat.{ℕ, zero, suc, ◌≤◌, ◌<◌}
use mathlib.Core.Path.{◌≡◌, refl, sym, ap, ◌∙◌}
use mathlib.Core.Bool.{Bool, true, false, cond, not, not-not, ◌&&◌, and-false, false≢true, true≢false}
use mathlib.Core.List.{List, [], ◌∷◌}
use mathlib.Core.Logic.{◌⊎◌, inl, inr}
use native.Mathlib.Omega.{arith}
use lib.ListN.{length, get_or, take}
use lib.Seq.{get_or-take, length-take-le}
use lib.Dec.{eqb, leb, ltb}
use borrow.Author.Tests.{eqb-true, eqb-false, ne_eqb, lt-leb, ltb-true, ltb-false}
use Rattle.scan.specs.Bytes.{run_length_of}
use Rattle.scan.specs.Names.{same_bytes_of}
use Rattle.scan.specs.Every.{every}
use Rattle.scan.proofs.Every.{both, every-at}
use Rattle.scan.proofs.Naming.{same_eq}
use Rattle.scan.proofs.Runs.{length_within}
use Rattle.utf8.specs.Utf8.{sequence_at, char_at}
use Rattle.utf8.specs.White.{is_white}
use Rattle.utf8.proofs.Utf8Laws.{sequence-ascii}
use Rattle.numerals.specs.declared.Whole.{Whole}
use Rattle.numerals.specs.Numerals.{numeral_of}
use Rattle.numerals.proofs.Numerals.{numeral_ascii}
use Rattle.entities.specs.Reference.{Named, ◌means◌, entity_table, named, character, character_reference, lookup, starts_white, ends_name}
use Rattle.entities.specs.Reference.{name_length, reference}
use Rattle.entities.specs.Steps.{ascii_white, taken_byte}

-- ---- ASCII
abbrev is_ascii : ℕ → Bool
is_ascii b = ltb b 128

-- the two tests of white space agree on the first n numbers
agree_below : ℕ → Bool
agree_below zero = true
agree_below (suc n) = cond (is_white n) (ascii_white n) (not (ascii_white n)) && agree_below n

agreed : agree_below 128 ≡ true
unfolding agree_below is_white
agreed = refl

as_one : (x y : Bool) → cond x y (not y) ≡ true → x ≡ y
as_one true y e = sym e
as_one false true e = absurd (false≢true e)
as_one false false e = refl

white-below : (n : ℕ) → agree_below n ≡ true → (b : ℕ) → b < n → is_white b ≡ ascii_white b
unfolding agree_below
white-below zero e b h = absurd (omega arith)
white-below (suc n) e b h = by (eqb b n) refl (white-below n (both {a = cond (is_white n) (ascii_white n) (not (ascii_white n))} e).1 b)
  where
    by : (t : Bool) → eqb b n ≡ t → (b < n → is_white b ≡ ascii_white b) → is_white b ≡ ascii_white b
    by true w k = rw (eqb-true b n w) (as_one (is_white n) (ascii_white n) (both {b = agree_below n} e).0)
    by false w k = let z : b ≡ n → ⊥ = eqb-false b n w in k (omega arith)

module _ (b : ℕ) (s : List ℕ) where
  starts_ascii : b < 128 → starts_white (b ∷ s) ≡ ascii_white b
  unfolding starts_white char_at
  starts_ascii h =
      let w : 1 ≡ sequence_at (b ∷ s) 0 = (sequence-ascii (b ∷ s) 0 (omega arith) (omega arith)).is in
      rw (← w) (white-below 128 agreed b h)

  ends-ascii : b < 128 → ends_name (b ∷ s) ≡ not (taken_byte b)
  unfolding ends_name taken_byte
  ends-ascii h = rw (starts_ascii h) (sym (not-not _))

taken-high : (b : ℕ) → taken_byte b ≡ false → b < 128
unfolding taken_byte
taken-high b e = by (ltb b 128) refl
  where
    by : (t : Bool) → ltb b 128 ≡ t → b < 128
    by true w = ltb-true b 128 w
    by false w =
        let l : 128 ≤ b = ltb-false b 128 w in
        let n : taken_byte b ≡ true =
        rw (
          ne_eqb b 59 (λ z. omega arith),
          ne_eqb b 38 (λ z. omega arith),
          ne_eqb b 60 (λ z. omega arith),
          ne_eqb b 32 (λ z. omega arith),
          lt-leb b 13
              (omega arith),
          and-false,
        ) in
        absurd (true≢false (sym n ∙ e))

-- ---- where a name ends
abbrev pub taken : List ℕ → ℕ
taken s = run_length_of taken_byte s

-- the name ends where the bytes taken end, or before, at a byte past 127
abbrev EndsBy : List ℕ → Type 0
EndsBy s = (name_length s ≡ taken s) ⊎ ((name_length s < taken s) × (128 ≤ get_or s (name_length s) 0))

name_end : (s : List ℕ) → EndsBy s
unfolding name_length run_length_of
name_end [] = inl refl
name_end (b ∷ s) = by (ends_name (b ∷ s)) refl (taken_byte b) refl (name_end s)
  where
    high : ends_name (b ∷ s) ≡ true → taken_byte b ≡ true → 128 ≤ b
    high e f = at (ltb b 128) refl
      where
        at : (t : Bool) → ltb b 128 ≡ t → 128 ≤ b
        at true w = absurd (true≢false (sym e ∙ (ends-ascii b s (ltb-true b 128 w) ∙ ap not f)))
        at false w = ltb-false b 128 w

    by : (x : Bool) → ends_name (b ∷ s) ≡ x → (y : Bool) → taken_byte b ≡ y → EndsBy s → EndsBy (b ∷ s)
    by true e true f k = inr (rw (e, f) (omega arith), rw e (high e f))
    by true e false f k = inl (rw (e, f))
    by false e true f (inl k) = inl (rw (e, f, k))
    by false e true f (inr k) = inr (rw (e, f) (omega (arith, k.0)), rw e k.1)
    by false e false f k = absurd (false≢true (sym e ∙ (ends-ascii b s (taken-high b f) ∙ ap not f)))

pub name_within : (s : List ℕ) → name_length s ≤ length s
name_within s = by (name_end s)
  where
    by : EndsBy s → name_length s ≤ length s
    by (inl e) = omega (arith, e, length_within taken_byte s)
    by (inr e) = omega (arith, e.0, length_within taken_byte s)

-- ---- a known name is ASCII
no_char : {c : ℕ} → None ≡ Some c → ⊥
no_char e = let z : ◌≡◌ {A = ℕ} 0 1 = cc in omega arith

table-ascii : every (λ (n : Named). elim n [ w means c ↦ every is_ascii w ]) entity_table ≡ true
table-ascii = refl

named-ascii : (s : List ℕ) (ns : List Named) {c : ℕ} → every (λ (n : Named). elim n [ w means c ↦ every is_ascii w ]) ns ≡ true → named s ns ≡ Some c
    → every is_ascii s ≡ true
unfolding named
named-ascii s [] t e = absurd (no_char e)
named-ascii s (n means d ∷ ns) {c} t e = by (same_bytes_of s n) refl (named-ascii s ns (both {a = every is_ascii n} t).1)
  where
    by : (x : Bool) → same_bytes_of s n ≡ x → (named s ns ≡ Some c → every is_ascii s ≡ true) → every is_ascii s ≡ true
    by true h k = rw (same_eq s n h) (both {a = every is_ascii n} t).0
    by false h k = k (rw h at e)

numeral_known : (n : Option Whole) {c : ℕ} → character n ≡ Some c → (w : Whole) × (n ≡ Some w)
numeral_known (Some w) e = (w, refl)
numeral_known None e = absurd (no_char e)

number-ascii : (s : List ℕ) {c : ℕ} → character_reference s ≡ Some c → every is_ascii s ≡ true
unfolding character_reference
number-ascii [] e = refl
number-ascii (a ∷ s) {c} e = by (eqb a 120) refl (eqb a 88) refl
  where
    of : (radix : ℕ) → radix ≤ 36 → (r : List ℕ) → character (numeral_of r radix 0xFFFF_FFFF false) ≡ Some c → every is_ascii r ≡ true
    of radix h r f = let w = numeral_known (numeral_of r radix 0xFFFF_FFFF false) f in numeral_ascii radix h r 0xFFFF_FFFF false w.1

    by : (x : Bool) → eqb a 120 ≡ x → (y : Bool) → eqb a 88 ≡ y → every is_ascii (a ∷ s) ≡ true
    by true f y g = rw (eqb-true a 120 f) (of 16 (omega arith) s (rw f at e))
    by false f true g = rw (eqb-true a 88 g) (of 16 (omega arith) s (rw (f, g) at e))
    by false f false g = of 10 (omega arith) (a ∷ s) (rw (f, g) at e)

pub known_ascii : (s : List ℕ) {c : ℕ} → lookup s ≡ Some c → every is_ascii s ≡ true
unfolding lookup
known_ascii [] e = refl
known_ascii (b ∷ s) {c} e = by (eqb b 35) refl
  where
    by : (t : Bool) → eqb b 35 ≡ t → every is_ascii (b ∷ s) ≡ true
    by true h = rw (eqb-true b 35 h) (number-ascii s (rw h at e))
    by false h = named-ascii (b ∷ s) entity_table table-ascii (rw h at e)

-- ---- what follows an `&`
abbrev pub reference_run : List ℕ → Option ℕ
reference_run s = cond (eqb (get_or s (taken s) 0) 59 && leb (taken s) 16) (lookup (take (taken s) s)) None

-- a name with a byte past 127 is not known
past_ascii : (s : List ℕ) (k n : ℕ) → k < n → n ≤ length s → 128 ≤ get_or s k 0 → lookup (take n s) ≡ None
past_ascii s k n h m l = by (lookup (take n s)) refl
  where
    by : (x : Option ℕ) → lookup (take n s) ≡ x → lookup (take n s) ≡ None
    by None e = e
    by (Some c) e =
        let i : k < length (take n s) = omega (arith, length-take-le n s m) in
        let a : get_or (take n s) k 0 < 128 = ltb-true _ 128 (every-at is_ascii (take n s) 0 (known_ascii (take n s) e) k i) in
        absurd (omega (arith, a, get_or-take n s k 0 h, l))

unknown-either : (t : Bool) (x : Option ℕ) → x ≡ None → cond t x None ≡ None
unknown-either true x e = e
unknown-either false x e = refl

pub reference-run : (s : List ℕ) → reference s ≡ reference_run s
unfolding reference
reference-run s = by (name_end s)
  where
    by : EndsBy s → reference s ≡ reference_run s
    by (inl e) = rw e
    by (inr e) =
        rw (ne_eqb (get_or s (name_length s) 0) 59 (λ z. omega (arith, e.1)))
        (sym (unknown-either (eqb (get_or s (taken s) 0) 59 && leb (taken s) 16) (lookup (take (taken s) s))
        (past_ascii s (name_length s) (taken s) e.0 (length_within taken_byte s) e.1)))

-- a name that ends at a `;` is the bytes taken
pub length_run : (s : List ℕ) → get_or s (name_length s) 0 ≡ 59 → name_length s ≡ taken s
length_run s w = by (name_end s)
  where
    by : EndsBy s → name_length s ≡ taken s
    by (inl e) = e
    by (inr e) = absurd (omega (arith, w, e.1))
