-- Laws of colours as they are read: places where a character starts, channels, and the forms of a colour. Assumes nothing.
use Rattle.std.specs.Prelude.{Option, Some, None, Err}
use Prim.Native.Nat.{ℕ, ◌+◌, ◌-◌, ◌≤◌, ◌<◌}
use mathlib.Core.Path.{◌≡◌, refl, sym, ◌∙◌}
use mathlib.Core.Bool.{true, false, and-false}
use mathlib.Core.List.{List, [], ◌∷◌}
use native.Mathlib.Omega.{arith}
use native.Mathlib.Nat.{sub-zero}
use lib.Dec.{eqb, ltb}
use lib.ListN.{length, get_or, take, drop, length-drop}
use lib.Seq.{take_all, drop-cons, drop-drop, length-take-le}
use borrow.Author.Tests.{ltb-true, ltb-false, eq-eqb, ne_eqb, leb-true}
use Rattle.scan.specs.Bytes.{other, run_end_of}
use Rattle.scan.specs.Posts.{Ends}
use Rattle.scan.specs.Marks.{starts_at}
use Rattle.scan.specs.Part.{part}
use Rattle.scan.specs.Split.{split_at}
use Rattle.scan.proofs.Runs.{run_length}
use Rattle.scan.proofs.Splits.{split_more, split_last}
use Rattle.utf8.specs.Utf8.{boundary}
use Rattle.scan.proofs.Every.{by-test, both}
use Rattle.numerals.specs.Numerals.{numeral_of}
use Rattle.numerals.proofs.Numerals.{numeral_inv}
use Rattle.colors.specs.Named.{color_table, named_in}
use Rattle.scan.specs.Text.{ascii}
use Rattle.colors.specs.Colors.{channel_of, hex_channel, full, hex_color, rgb_of, rgb_parts, is_rgb, color}
use Rattle.colors.specs.Steps.{Small, copies, channel_at, hex_channels}
use Rattle.colors.specs.declared.read.ColorError.{ColorError}
use Rattle.numerals.specs.declared.Whole.{Whole}

-- ---- a channel
pub small : (s : List ℕ) (radix : ℕ) (n : Option Whole) → n ≡ numeral_of s radix 255 false → Small n
small s radix (Some w) e = (numeral_inv s radix 255 (sym e)).within
small s radix None e = tt

module _ (s : List ℕ) (a e : ℕ) (times : List ℕ → List ℕ) where
  pub channel_cut_start : boundary s a ≡ false → hex_channel s a e times ≡ Err ColorError.Cut
  unfolding hex_channel
  channel_cut_start f = rw f

  pub channel_cut_end : boundary s e ≡ false → hex_channel s a e times ≡ Err ColorError.Cut
  unfolding hex_channel
  channel_cut_end f = rw (f, and-false)

  pub channel_is : (w : List ℕ) → boundary s a ≡ true → boundary s e ≡ true → times (part a e s) ≡ w
      → hex_channel s a e times ≡ channel_of (numeral_of w 16 255 false)
  unfolding hex_channel
  channel_is w f g t = rw (f, g, t)

-- one digit counts twice, two digits once
module _ (s : List ℕ) (a width : ℕ) where
  pub narrow : width ≡ 1 → a + width ≤ length s → copies width (part a (a + width) s) ≡ get_or s a 0 ∷ get_or s a 0 ∷ []
  narrow e h =
      let z : a + 1 - a ≡ 1 = omega arith in
      rw (e, z, drop-cons s a 0 (omega arith))

  pub wide : (width ≡ 1 → ⊥) → (w : List ℕ) → copies width w ≡ w
  wide n w = rw (ne_eqb width 1 n)

-- ---- what follows a place
pub to_end : (s : List ℕ) (a : ℕ) → part a (length s) s ≡ drop a s
to_end s a = take_all (length s - a) (drop a s) (simp length-drop (omega arith))

-- ---- what follows `#`, by its length
module _ (s : List ℕ) where
  pub hex-three : length s ≡ 3 → hex_color s ≡ hex_channels s 1 full
  unfolding hex_color
  hex-three e = rw e

  pub hex-six : length s ≡ 6 → hex_color s ≡ hex_channels s 2 full
  unfolding hex_color
  hex-six e = rw e

  pub hex-eight : length s ≡ 8 → hex_color s ≡ hex_channels s 2 (channel_at s 6 2)
  unfolding hex_color
  hex-eight e = rw e

  pub hex-none : (length s ≡ 3 → ⊥) → (length s ≡ 6 → ⊥) → (length s ≡ 8 → ⊥) → hex_color s ≡ Err ColorError.Invalid
  unfolding hex_color
  hex-none a b c = rw (ne_eqb (length s) 3 a, ne_eqb (length s) 6 b, ne_eqb (length s) 8 c)

-- ---- what stands between commas, by the places where the runs of other bytes end
module _ (b : ℕ) (s : List ℕ) (p r : ℕ) (x : Ends (other b) s p r) where
  from-there : r ≡ p + run_end_of (other b) (drop p s) 0
  from-there =
      x.is ∙ (run_length (other b) s p (omega (arith, x.after, x.within)) ∙ rw (run_length (other b) (drop p s) 0 (omega arith)) (omega arith))

  pub split_part : r < length s → split_at b (drop p s) ≡ part p r s ∷ split_at b (drop (r + 1) s)
  split_part h =
      let k : r - p ≡ run_end_of (other b) (drop p s) 0 = omega (arith, from-there) in
      let m : p + (r - p + 1) ≡ r + 1 = omega (arith, x.after) in
      let l : r - p < length (drop p s) = simp length-drop (omega (arith, x.after)) in
      split_more b (drop p s) (rw k at l) ∙ rw (← k, drop-drop (r - p + 1) p s, m)

  pub split_rest : length s ≤ r → split_at b (drop p s) ≡ drop p s ∷ []
  split_rest h = split_last b (drop p s) (simp length-drop (omega (arith, from-there)))

module _ (s w : List ℕ) (one : ℕ) (x : Ends (other 44) w 0 one) where
  pub parts_one : length w ≤ one → rgb_parts s (split_at 44 w) ≡ named_in s color_table
  parts_one h = rw (split_rest 44 w 0 one x h)

  module _ (h : one < length w) (two : ℕ) (y : Ends (other 44) w (one + 1) two) where
    pub parts_two : length w ≤ two → rgb_parts s (split_at 44 w) ≡ named_in s color_table
    parts_two g = rw (split_part 44 w 0 one x h, split_rest 44 w (one + 1) two y g)

    module _ (g : two < length w) (three : ℕ) (z : Ends (other 44) w (two + 1) three) where
      pub parts_three : length w ≤ three → rgb_parts s (split_at 44 w) ≡ rgb_of (take one w) (part (one + 1) two w) (part (two + 1) (length w) w)
      parts_three k = rw (
        split_part 44 w 0 one x h,
        split_part 44 w (one + 1) two y g,
        split_rest 44 w (two + 1) three z k,
        to_end w (two + 1),
        sub-zero one,
      )

      pub parts_many : three < length w → rgb_parts s (split_at 44 w) ≡ named_in s color_table
      parts_many k =
          rw (split_part 44 w 0 one x h, split_part 44 w (one + 1) two y g, split_part 44 w (two + 1) three z k)
          (by-test (ltb (run_end_of (other 44) v 0) (length v))
          (λ t. rw (split_more 44 v (ltb-true (run_end_of (other 44) v 0) (length v) t)))
          (λ t. rw (split_last 44 v (ltb-false (run_end_of (other 44) v 0) (length v) t))))
        where
          v : List ℕ
          v = drop (three + 1) w

-- ---- a colour without white space around it
pub color-none : (s : List ℕ) → length s ≡ 0 → color s ≡ named_in s color_table
unfolding color
color-none [] e = refl
color-none (b ∷ s) e = absurd (omega arith)

pub color-hash : (s : List ℕ) → get_or s 0 0 ≡ 35 → color s ≡ hex_color (drop 1 s)
unfolding color
color-hash [] e = absurd (omega arith)
color-hash (b ∷ s) e = rw (eq-eqb b 35 e)

pub color-rgb : (s : List ℕ) → 0 < length s → (get_or s 0 0 ≡ 35 → ⊥) → is_rgb s ≡ true → color s ≡ rgb_parts s (split_at 44 (part 4 (length s - 1) s))
unfolding color
color-rgb [] h e t = absurd (omega arith)
color-rgb (b ∷ s) h e t = rw (ne_eqb b 35 e, t)

pub color-name : (s : List ℕ) → 0 < length s → (get_or s 0 0 ≡ 35 → ⊥) → is_rgb s ≡ false → color s ≡ named_in s color_table
unfolding color
color-name [] h e t = absurd (omega arith)
color-name (b ∷ s) h e t = rw (ne_eqb b 35 e, t)

pub ruleset channel_places = (channel_cut_start, channel_cut_end, channel_is, narrow, wide)

pub ruleset comma_parts = (parts_one, parts_two, parts_three, parts_many, length-take-le)

-- `rgb(` .. `)` is long enough for its brackets, and starts with no `#`
pub rgb_long : (s : List ℕ) → is_rgb s ≡ true → 5 ≤ length s
unfolding is_rgb
rgb_long s e = leb-true 5 (length s) (both {a = starts_at s 0 (ascii "rgb(")} (both {b = eqb (get_or s (length s - 1) 0) 41} e).0).1

pub ruleset color_forms = (to_end, color-none, color-hash, color-rgb, color-name, rgb_long)
