-- A colour that is written is read back as itself, or with the alpha that is not written at 255. Assumes nothing.
use Rattle.std.specs.Prelude.{Some, Result, Ok}
use Prim.Native.Nat.{ℕ, zero, suc, ◌+◌, ◌-◌, ◌/◌, ◌%◌, ◌≤◌, ◌<◌}
use mathlib.Core.Path.{◌≡◌, refl, ◌∙◌}
use mathlib.Core.Bool.{false}
use mathlib.Core.List.{List, [], ◌∷◌, ◌++◌}
use native.Mathlib.Omega.{arith}
use native.Mathlib.Nat.{mod-lt}
use lib.Dec.{ltb, leb}
use lib.ListN.{length, get_or}
use borrow.Author.Tests.{ltb-true, ltb-false, leb-true, leb-false, lt-leb}
use Rattle.utf8.specs.Utf8.{char_at}
use Rattle.utf8.specs.White.{white_at, ends_with, white_before, trimmed}
use Rattle.scan.proofs.Every.{by-test}
use Rattle.utf8.proofs.Utf8Laws.{sequence-ascii}
use Rattle.utf8.proofs.WhiteLaws.{is_white-visible, white_at-other, ends_with_on, ends_with_short, ends_with_out, trimmed-none, trimmed-all}
use Rattle.numerals.specs.Numerals.{value_from, numeral_of}
use Rattle.numerals.specs.Written.{digit_char, padded}
use Rattle.numerals.proofs.Numerals.{numeral_plain}
use Rattle.numerals.proofs.Writing.{char_low, char_high, padded-length, padded-digits, padded-value}
use Rattle.utf8.specs.Utf8.{boundary}
use Rattle.colors.specs.declared.read.Rgba.{Rgba}
use Rattle.colors.specs.Named.{rgba}
use Rattle.colors.specs.Colors.{hex_channel, hex_color, color_in}
use Rattle.colors.specs.Written.{hex, rgb_text, rgba_text}
use Rattle.colors.proofs.Reading.{color-hash}
use Rattle.colors.specs.declared.read.ColorError.{ColorError}

-- ---- visible ASCII characters are not trimmed
abbrev pub Visible : List ℕ → Type 0
Visible [] = Unit {0}
Visible (b ∷ s) = (0x20 < b) × (b < 0x80) × Visible s

visible_at : (s : List ℕ) → Visible s → (i : ℕ) → i < length s → (0x20 < get_or s i 0) × (get_or s i 0 < 0x80)
visible_at [] v i h = absurd (omega arith)
visible_at (b ∷ s) v zero h = (v.0, v.1)
visible_at (b ∷ s) v (suc i) h = visible_at s v.2 i (omega arith)

module _ (s : List ℕ) (v : Visible s) where
  no_white : (p : ℕ) → p < length s → white_at s p ≡ 0
  unfolding char_at
  no_white p h =
      let b = visible_at s v p h in
      white_at-other s p 1 (sequence-ascii s p h (omega arith)).is (is_white-visible (get_or s p 0) b.0 b.1)

  none-ends : (e k n : ℕ) → e ≤ length s → 1 ≤ k → ends_with s e k n ≡ 0
  none-ends e k zero l h = ends_with_out s e k 0 (omega arith)
  none-ends e k (suc n) l h =
      by-test (leb k e)
      (λ t.
      let g : k ≤ e = leb-true k e t in
      let m : suc n - 1 ≡ n = omega arith in
      ends_with_on s e k (suc n) (omega arith) (λ w. omega (arith, no_white (e - k) (omega arith)))
      ∙ rw m (none-ends e (k + 1) n l (omega arith)))
      (λ t. ends_with_short s e k (suc n) (leb-false k e t))

pub trimmed-visible : (s : List ℕ) → Visible s → trimmed s ≡ s
unfolding white_before
trimmed-visible [] v = trimmed-none
trimmed-visible (b ∷ s) v =
    trimmed-all (b ∷ s) (omega arith) (no_white (b ∷ s) v 0 (omega arith)) (none-ends (b ∷ s) v (length (b ∷ s)) 1 4 (omega arith) (omega arith))

-- ---- a channel of two digits
digit_visible : (n : ℕ) → (0x20 < digit_char (n % 16)) × (digit_char (n % 16) < 0x80)
digit_visible n =
    let l : n % 16 < 16 = mod-lt n (omega arith) in
    by-test (ltb (n % 16) 10)
    (λ t. rw (char_low (n % 16) (ltb-true (n % 16) 10 t)) (omega arith, omega arith))
    (λ t. rw (char_high (n % 16) (ltb-false (n % 16) 10 t)) (omega arith, omega arith))

visible_hex : (n : ℕ) (s : List ℕ) → Visible s → Visible (hex n ++ s)
unfolding padded
visible_hex n s v =
    let x = digit_visible (n / 16) in
    let y = digit_visible n in
    (x.0, x.1, (y.0, y.1, v))

hex-back : (n : ℕ) → n < 256 → numeral_of (hex n) 16 255 false ≡ Some (record { negative = false; magnitude = n })
hex-back n h =
    let v : value_from 16 0 (hex n) ≡ n = padded-value 16 (omega arith) (omega arith) 2 n h in
    numeral_plain 16 255 (hex n) false (omega arith) (omega (arith, padded-length 16 2 n))
    (padded-digits 16 (omega arith) (omega arith) 2 n) (omega arith) ∙ rw v

starts : (n : ℕ) → leb 0x80 (digit_char (n / 16 % 16)) ≡ false
starts n = lt-leb 0x80 (digit_char (n / 16 % 16)) (digit_visible (n / 16)).1

hash_back : (w : List ℕ) {x : Result Rgba ColorError} → Visible w → hex_color w ≡ x → color_in (35 ∷ w) ≡ x
unfolding color_in
hash_back w v e =
    rw (trimmed-visible (35 ∷ w) (omega arith, omega arith, v)) (color-hash (35 ∷ w) refl ∙ e)

-- ---- the channels of a colour are bytes
pub record Bytes (c : Rgba) : Type 0 where
  pub red : c.r < 256
  pub green : c.g < 256
  pub blue : c.b < 256
  pub alpha : c.a < 256

module _ (c : Rgba) (w : Bytes c) where
  six : hex_color (hex c.r ++ hex c.g ++ hex c.b) ≡ Ok (rgba c.r c.g c.b 255)
  unfolding hex_color hex_channel boundary padded
  six = rw (starts c.g, starts c.b, hex-back c.r w.red, hex-back c.g w.green, hex-back c.b w.blue)

  eight : hex_color (hex c.r ++ hex c.g ++ hex c.b ++ hex c.a) ≡ Ok c
  unfolding hex_color hex_channel boundary padded
  eight =
      rw (
        starts c.g,
        starts c.b,
        starts c.a,
        hex-back c.r w.red,
        hex-back c.g w.green,
        hex-back c.b w.blue,
        hex-back c.a w.alpha,
      )

  pub rgb_back : color_in (rgb_text c) ≡ Ok (rgba c.r c.g c.b 255)
  unfolding rgb_text padded
  rgb_back =
      hash_back (hex c.r ++ hex c.g ++ hex c.b)
      (visible_hex c.r (hex c.g ++ hex c.b) (visible_hex c.g (hex c.b) (visible_hex c.b [] tt)))
      six

  pub rgba-back : color_in (rgba_text c) ≡ Ok c
  unfolding rgba_text padded
  rgba-back =
      hash_back (hex c.r ++ hex c.g ++ hex c.b ++ hex c.a)
      (visible_hex c.r (hex c.g ++ hex c.b ++ hex c.a)
      (visible_hex c.g (hex c.b ++ hex c.a) (visible_hex c.b (hex c.a) (visible_hex c.a [] tt))))
      eight
