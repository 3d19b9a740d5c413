-- Laws of colours of hexadecimal digits alone: a byte that is a digit, places between digits, and a channel by its digits. Assumes nothing.
use Rattle.std.specs.Prelude.{Ok}
use Prim.Native.Nat.{ℕ, zero, suc, ◌+◌, ◌-◌, ◌*◌, ◌/◌, ◌%◌, ◌^◌, ◌≤◌, ◌<◌}
use mathlib.Core.Path.{◌≡◌, refl, sym, ap, ◌∙◌}
use mathlib.Core.Bool.{Bool, true, false, not, cond, ◌&&◌, ◌||◌, false≢true, and-eq-true_iff, and-true}
use mathlib.Core.List.{List, [], ◌∷◌}
use mathlib.Core.Logic.{inl, inr}
use native.Mathlib.Omega.{arith}
use lib.Dec.{eqb, leb, ltb}
use lib.ListN.{length, get_or, drop, drop_of_length-le}
use lib.Seq.{drop-cons}
use borrow.Author.Tests.{eqb-true, eqb-false, leb-true, leb-false, ltb-true, ltb-false, lt-ltb, le-ltb, eq-eqb, ne_eqb}
use Rattle.scan.specs.Part.{part}
use Rattle.utf8.specs.Utf8.{boundary}
use Rattle.scan.proofs.Every.{by-test, both}
use Rattle.utf8.proofs.Boundaries.{boundary_start, boundary_end, boundary-below}
use Rattle.numerals.specs.Numerals.{digit_of, digits_only, value_from, signed_by_of, numeral_of}
use Rattle.numerals.proofs.Numerals.{digit-byte, digit_capital, digit_small, digit_none, unsigned_is, numeral_bare, digits_step}
use Rattle.colors.specs.Colors.{channel_of, full, hex_color}
use Rattle.colors.specs.Steps.{Channels, copies, channel_at, hex_channels, alpha_at, hex_at, three_hex, HexLength}
use Rattle.scan.proofs.Splits.{whole_part}
use Rattle.colors.proofs.Reading.{channel_is, narrow, wide, hex-three, hex-six, hex-eight, hex-none}

-- ---- a byte that is a hexadecimal digit
pub record Hex (b : ℕ) : Type 0 where
  pub low : 48 ≤ b
  pub high : b ≤ 102
  pub value : b % 16 + b / 64 * 9 ≡ digit_of b

module _ (b : ℕ) (h : digit_of b < 16) where
  no_digit : (48 ≤ b → b ≤ 57 → ⊥) → (65 ≤ b → b ≤ 90 → ⊥) → (97 ≤ b → b ≤ 122 → ⊥) → ⊥
  no_digit x y z = omega (arith, digit_none b x y z)

  -- up to 9, up to Z, and after it
  hex-low : b ≤ 57 → Hex b
  hex-low g =
      by-test (leb 48 b)
      (λ t. let l = leb-true 48 b t in record { low = l; high = omega arith; value = omega (arith, digit-byte b l g) })
      (λ t. let l = leb-false 48 b t in absurd (no_digit (λ x y. omega arith) (λ x y. omega arith) (λ x y. omega arith)))

  hex-capital : 57 < b → b ≤ 90 → Hex b
  hex-capital k g =
      by-test (leb 65 b)
      (λ t. let l = leb-true 65 b t in let e = digit_capital b l g in record { low = omega arith; high = omega arith; value = omega arith })
      (λ t. let l = leb-false 65 b t in absurd (no_digit (λ x y. omega arith) (λ x y. omega arith) (λ x y. omega arith)))

  hex-small : 90 < b → b ≤ 122 → Hex b
  hex-small k g =
      by-test (leb 97 b)
      (λ t. let l = leb-true 97 b t in let e = digit_small b l g in record { low = omega arith; high = omega arith; value = omega arith })
      (λ t. let l = leb-false 97 b t in absurd (no_digit (λ x y. omega arith) (λ x y. omega arith) (λ x y. omega arith)))

  hex-high : 90 < b → Hex b
  hex-high k =
      by-test (leb b 122) (λ t. hex-small k (leb-true b 122 t))
      (λ t. let l = leb-false b 122 t in absurd (no_digit (λ x y. omega arith) (λ x y. omega arith) (λ x y. omega arith)))

  hex-above : 57 < b → Hex b
  hex-above k = by-test (leb b 90) (λ t. hex-capital k (leb-true b 90 t)) (λ t. hex-high (omega (arith, leb-false b 90 t)))

  pub hex : Hex b
  hex = by-test (leb b 57) (λ t. hex-low (leb-true b 57 t)) (λ t. hex-above (omega (arith, leb-false b 57 t)))

-- the same as a bit of a word: one for the bytes up to 63, one for those up to 127
abbrev below : (ℕ → Bool) → ℕ → Bool
below t zero = true
below t (suc n) = t n && below t n

below_at : (t : ℕ → Bool) (n i : ℕ) → below t n ≡ true → i < n → t i ≡ true
below_at t zero i e h = absurd (omega arith)
below_at t (suc n) i e h =
    by-test (eqb i n) (λ q. rw (eqb-true i n q) (both {b = below t n} e).0)
    (λ q. let k : i ≡ n → ⊥ = eqb-false i n q in below_at t n i (both {a = t n} e).1 (omega arith))

abbrev same : Bool → Bool → Bool
same true b = b
same false b = not b

same_eq : (a b : Bool) → same a b ≡ true → a ≡ b
same_eq true b e = sym e
same_eq false true e = absurd (false≢true e)
same_eq false false e = refl

abbrev pub hex_bit : ℕ → ℕ → Bool
hex_bit word b = eqb (word / 2 ^ (b % 64) % 2) 1

pub bit_low : (b : ℕ) → b ≤ 63 → hex_bit 0x03FF_0000_0000_0000 b ≡ ltb (digit_of b) 16
unfolding digit_of
bit_low b h =
    same_eq (hex_bit 0x03FF_0000_0000_0000 b) (ltb (digit_of b) 16)
    (below_at (λ b. same (hex_bit 0x03FF_0000_0000_0000 b) (ltb (digit_of b) 16)) 64 b refl (omega arith))

pub bit_high : (b : ℕ) → 63 < b → b ≤ 127 → hex_bit 0x7E_0000_007E b ≡ ltb (digit_of b) 16
unfolding digit_of
bit_high b h g =
    same_eq (hex_bit 0x7E_0000_007E b) (ltb (digit_of b) 16)
    (by-test (leb 64 b)
    (λ t. rw (t) at (below_at (λ b. cond (leb 64 b) (same (hex_bit 0x7E_0000_007E b) (ltb (digit_of b) 16)) true) 128 b refl (omega arith)))
    (λ t. absurd (omega (arith, leb-false 64 b t))))

pub no_bit : (b : ℕ) → 127 < b → ltb (digit_of b) 16 ≡ false
no_bit b h = le-ltb (digit_of b) 16 (omega (arith, digit_none b (λ x y. omega arith) (λ x y. omega arith) (λ x y. omega arith)))

-- ---- a text of digits
pub hex-at : (s : List ℕ) (i : ℕ) → digits_only 16 s ≡ true → i < length s → digit_of (get_or s i 0) < 16
unfolding digits_only
hex-at [] i d h = absurd (omega arith)
hex-at (b ∷ s) zero d h = ltb-true (digit_of b) 16 ((and-eq-true_iff (ltb (digit_of b) 16) (digits_only 16 s)).0 d).0
hex-at (b ∷ s) (suc i) d h = hex-at s i ((and-eq-true_iff (ltb (digit_of b) 16) (digits_only 16 s)).0 d).1 (omega arith)

-- three bytes at a time; the lengths that a colour has
three_and : (a b c d : Bool) → a && (b && (c && d)) ≡ (a && (b && c)) && d
three_and true true c d = refl
three_and true false c d = refl
three_and false b c d = refl

module _ (s : List ℕ) where
  pub one_step : (i j : ℕ) → j ≡ i + 1 → i < length s → digits_only 16 (drop i s) ≡ (hex_at s i && digits_only 16 (drop j s))
  one_step i j e h = rw e (digits_step 16 s i h)

  pub three_step : (i : ℕ) → i + 3 ≤ length s → digits_only 16 (drop i s) ≡ (three_hex s i && digits_only 16 (drop (i + 3) s))
  three_step i h =
      one_step i (i + 1) refl (omega arith)
      ∙ (ap (λ (x : Bool). hex_at s i && x)
      (one_step (i + 1) (i + 2) (omega arith) (omega arith)
      ∙ ap (λ (x : Bool). hex_at s (i + 1) && x) (one_step (i + 2) (i + 3) (omega arith) (omega arith)))
      ∙ three_and (hex_at s i) (hex_at s (i + 1)) (hex_at s (i + 2)) (digits_only 16 (drop (i + 3) s)))

  pub no_more : (i : ℕ) → length s ≤ i → digits_only 16 (drop i s) ≡ true
  unfolding digits_only
  no_more i h = rw (drop_of_length-le s h)

-- the digits of a colour's length, three by three, and the last two
pub hex_by_three : (s : List ℕ) → HexLength s
    → digits_only 16 s ≡ (three_hex s 0 && (eqb (length s) 3 || (three_hex s 3 && (eqb (length s) 6 || (hex_at s 6 && hex_at s 7)))))
hex_by_three s (inl e) =
    three_step s 0 (omega arith) ∙ rw (no_more s 3 (omega arith), e)
hex_by_three s (inr (inl e)) =
    three_step s 0 (omega arith) ∙ rw (three_step s 3 (omega arith), no_more s 6 (omega arith), e)
hex_by_three s (inr (inr e)) =
    three_step s 0 (omega arith)
    ∙ rw (
      three_step s 3 (omega arith),
      one_step s 6 7 refl (omega arith),
      one_step s 7 8 refl (omega arith),
      no_more s 8 (omega arith),
      and-true,
      e,
    )

-- a character starts at each place
digit_boundary : (s : List ℕ) → digits_only 16 s ≡ true → (i : ℕ) → i ≤ length s → boundary s i ≡ true
digit_boundary s d i h =
    by-test (eqb i 0) (λ t. boundary_start s i (eqb-true i 0 t))
    (λ t. by-test (ltb i (length s))
    (λ u. let l = ltb-true i (length s) u in
    boundary-below s i (eqb-false i 0 t) l (omega (arith, (hex (get_or s i 0) (hex-at s i d l)).high)))
    (λ u. boundary_end s i (omega (arith, ltb-false i (length s) u))))

-- ---- a channel
two_digits : (a b : ℕ) → digit_of a < 16 → digit_of b < 16
    → channel_of (numeral_of (a ∷ b ∷ []) 16 255 false) ≡ Ok (digit_of a * 16 + digit_of b)
unfolding value_from digits_only
two_digits a b h k =
    let d : digits_only 16 (a ∷ b ∷ []) ≡ true = rw (lt-ltb (digit_of a) 16 h, lt-ltb (digit_of b) 16 k) in
    let v : value_from 16 0 (a ∷ b ∷ []) ≡ digit_of a * 16 + digit_of b = omega arith in
    let bare = numeral_bare 16 255 (a ∷ b ∷ []) false (omega arith) (λ e. omega (arith, (hex a h).low)) (λ e. absurd (false≢true e)) in
    let is = unsigned_is 16 255 (a ∷ b ∷ []) (omega arith) d (omega arith) in
    ap channel_of (bare ∙ ap (signed_by_of false) is) ∙ ap (λ (n : ℕ). Ok n) v

module _ (s : List ℕ) (at width : ℕ) (l : 1 ≤ width) (h : width ≤ 2) (r : at + width ≤ length s) (d : digits_only 16 s ≡ true) where
  pair : copies width (part at (at + width) s) ≡ get_or s at 0 ∷ get_or s (at + width - 1) 0 ∷ []
  pair = by-test (eqb width 1) one two
    where
      one : eqb width 1 ≡ true → copies width (part at (at + width) s) ≡ get_or s at 0 ∷ get_or s (at + width - 1) 0 ∷ []
      one t =
          let e : width ≡ 1 = eqb-true width 1 t in
          let z : at + width - 1 ≡ at = omega arith in
          rw z (narrow s at width e r)

      two : eqb width 1 ≡ false → copies width (part at (at + width) s) ≡ get_or s at 0 ∷ get_or s (at + width - 1) 0 ∷ []
      two t =
          let n : width ≡ 1 → ⊥ = eqb-false width 1 t in
          let z : at + width - at ≡ 2 = omega (arith, n) in
          let y : at + width - 1 ≡ suc at = omega (arith, n) in
          wide s at width n (part at (at + width) s)
          ∙ rw (z, y, drop-cons s at 0 (omega arith), drop-cons s (suc at) 0 (omega (arith, y)))

  pub digit_pair : Ok (digit_of (get_or s at 0) * 16 + digit_of (get_or s (at + width - 1) 0)) ≡ channel_at s at width
  digit_pair =
      sym (channel_is s at (at + width) (copies width) (get_or s at 0 ∷ get_or s (at + width - 1) 0 ∷ []) (digit_boundary s d at (omega arith))
      (digit_boundary s d (at + width) r) pair
      ∙ two_digits (get_or s at 0) (get_or s (at + width - 1) 0) (hex-at s at d (omega arith)) (hex-at s (at + width - 1) d (omega arith)))

-- ---- what follows `#`, by its width and its alpha
pub record HexWidth (s : List ℕ) (width : ℕ) : Type 0 where
  pub channels : Channels s width
  pub is : hex_color s ≡ hex_channels s width (alpha_at s)
  pub sized : HexLength s

module _ (s : List ℕ) where
  pub alpha_some : length s ≡ 8 → channel_at s 6 2 ≡ alpha_at s
  alpha_some e = rw (eq-eqb (length s) 8 e)

  pub alpha_none : (length s ≡ 8 → ⊥) → full ≡ alpha_at s
  alpha_none n = rw (ne_eqb (length s) 8 n)

  pub hex-once : length s ≡ 3 → HexWidth s 1
  hex-once e = record {
    channels = record { some = omega arith; few = omega arith; room = omega arith };
    is = hex-three s e ∙ ap (hex_channels s 1) (alpha_none (λ z. omega arith));
    sized = inl e;
  }

  pub hex-twice : length s ≡ 6 → HexWidth s 2
  hex-twice e = record {
    channels = record { some = omega arith; few = omega arith; room = omega arith };
    is = hex-six s e ∙ ap (hex_channels s 2) (alpha_none (λ z. omega arith));
    sized = inr (inl e);
  }

  pub hex-alpha : length s ≡ 8 → HexWidth s 2
  hex-alpha e = record {
    channels = record { some = omega arith; few = omega arith; room = omega arith };
    is = hex-eight s e ∙ ap (hex_channels s 2) (alpha_some e);
    sized = inr (inr e);
  }

pub ruleset hex_bits = (no_bit, bit_low, bit_high)

pub ruleset hex_widths = (hex-once, hex-twice, hex-alpha, hex-none, whole_part)
