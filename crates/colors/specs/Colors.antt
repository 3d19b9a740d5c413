-- Colours, from TTML 2, 10.3, whose forms are:
--     <color> : "#" rrggbb | "#" rrggbbaa | "rgb" "(" r-value "," g-value "," b-value ")" | "rgba" "(" .. ")" | <named-color>
-- and the Rust's `parse_ttml_color_rgba`. docs/DIFFERENCES.md says where the two differ. Definitions alone.
use Rattle.std.specs.Prelude.{Option, Some, None, Result, Ok, Err, ℕ, ◌-◌, ◌≡◌, ◌↔◌, Bool, false, cond, ◌&&◌, eqb, leb}
use Rattle.std.specs.Prelude.{List, [], ◌∷◌, ◌++◌, length, get_or}
use Rattle.scan.specs.Marks.{starts_at}
use Rattle.scan.specs.Part.{part}
use Rattle.scan.specs.Split.{split_at}
use Rattle.utf8.specs.White.{trimmed}
use Rattle.numerals.specs.Numerals.{numeral_of}
use Rattle.utf8.specs.Utf8.{boundary}
use Rattle.colors.specs.declared.read.Rgba.{Rgba}
use Rattle.scan.specs.Text.{ascii}
use Rattle.colors.specs.Named.{rgba, color_table, named_in}
use Rattle.colors.specs.declared.read.ColorError.{ColorError}
use Rattle.numerals.specs.declared.Whole.{Whole}

-- ---- the answer
-- document 01's number, 0 where none is met, and the values of each case
abbrev pub number_of : Result Rgba ColorError → ℕ
number_of (Ok c) = 0
number_of (Err ColorError.Invalid) = 0
number_of (Err ColorError.Cut) = 15

abbrev pub values_of : Result Rgba ColorError → List Rgba
values_of (Ok c) = c ∷ []
values_of (Err ColorError.Invalid) = []
values_of (Err ColorError.Cut) = []

abbrev pub Says : Result Rgba ColorError → ℕ → List Rgba → Type 0
Says r n values = (number_of r ≡ n) × (values_of r ≡ values)

-- ---- channels

-- a number of at most 255
abbrev pub channel_of : Option Whole → Result ℕ ColorError
channel_of (Some w) = Ok w.magnitude
channel_of None = Err ColorError.Invalid

-- the hexadecimal channel from a to e, its bytes taken `times` over; number 15 where one of the two places is inside a character
unfoldable pub hex_channel : List ℕ → ℕ → ℕ → (List ℕ → List ℕ) → Result ℕ ColorError
hex_channel s a e times =
    cond (boundary s a && boundary s e) (channel_of (numeral_of (times (part a e s)) 16 255 false)) (Err ColorError.Cut)

-- ---- the forms
-- go on with a channel; the first that is none, or is cut, ends the reading
infixl 55 ◌>>=◌
abbrev pub ◌>>=◌ : Result ℕ ColorError → (ℕ → Result Rgba ColorError) → Result Rgba ColorError
◌>>=◌ (Ok n) next = next n
◌>>=◌ (Err ColorError.Invalid) next = Err ColorError.Invalid
◌>>=◌ (Err ColorError.Cut) next = Err ColorError.Cut

abbrev pub color_of : (red green blue alpha : Result ℕ ColorError) → Result Rgba ColorError
color_of red green blue alpha = do
  r ← red
  g ← green
  b ← blue
  a ← alpha
  Ok (rgba r g b a)

abbrev pub full : Result ℕ ColorError
full = Ok 255

abbrev pub once : List ℕ → List ℕ
once w = w

abbrev pub twice : List ℕ → List ℕ
twice w = w ++ w

-- what follows `#`, by its length: a digit for each channel, which counts twice; two digits for each; two for each and for alpha
unfoldable pub hex_color : List ℕ → Result Rgba ColorError
unfolding hex_channel
hex_color s =
    cond (eqb (length s) 3) (color_of (hex_channel s 0 1 twice) (hex_channel s 1 2 twice) (hex_channel s 2 3 twice) full)
    (cond (eqb (length s) 6) (color_of (hex_channel s 0 2 once) (hex_channel s 2 4 once) (hex_channel s 4 6 once) full)
    (cond (eqb (length s) 8) (color_of (hex_channel s 0 2 once) (hex_channel s 2 4 once) (hex_channel s 4 6 once) (hex_channel s 6 8 once))
    (Err ColorError.Invalid)))

-- a decimal channel; white space may stand around it
abbrev pub decimal_channel : List ℕ → Result ℕ ColorError
decimal_channel s = channel_of (numeral_of (trimmed s) 10 255 false)

abbrev pub rgb_of : List ℕ → List ℕ → List ℕ → Result Rgba ColorError
rgb_of x y z = color_of (decimal_channel x) (decimal_channel y) (decimal_channel z) full

-- what stands between `rgb(` and `)`: three channels; any other number of them is looked for among the names
abbrev pub rgb_parts : List ℕ → List (List ℕ) → Result Rgba ColorError
rgb_parts s [] = named_in s color_table
rgb_parts s (x ∷ []) = named_in s color_table
rgb_parts s (x ∷ y ∷ []) = named_in s color_table
rgb_parts s (x ∷ y ∷ z ∷ []) = rgb_of x y z
rgb_parts s (x ∷ y ∷ z ∷ w ∷ more) = named_in s color_table

-- `rgb(` and at the end `)`, which is another byte than the bracket that opens
unfoldable pub is_rgb : List ℕ → Bool
is_rgb s = starts_at s 0 (ascii "rgb(") && leb 5 (length s) && eqb (get_or s (length s - 1) 0) 41

unfoldable pub color : List ℕ → Result Rgba ColorError
unfolding hex_color is_rgb
color [] = named_in [] color_table
color (b ∷ s) =
    cond (eqb b 35) (hex_color s)
    (cond (is_rgb (b ∷ s)) (rgb_parts (b ∷ s) (split_at 44 (part 4 (length (b ∷ s) - 1) (b ∷ s))))
    (named_in (b ∷ s) color_table))

-- white space around the whole is passed over (the Rust's `parse_ttml_color_rgba`)
unfoldable pub color_in : List ℕ → Result Rgba ColorError
unfolding color
color_in s = color (trimmed s)

-- the same without its alpha (the Rust's `parse_ttml_color_rgb`)
abbrev pub opaque : Result Rgba ColorError → Result Rgba ColorError
opaque (Ok c) = Ok (rgba c.r c.g c.b 255)
opaque (Err ColorError.Invalid) = Err ColorError.Invalid
opaque (Err ColorError.Cut) = Err ColorError.Cut

-- What `parse_ttml_color_rgba` and `parse_ttml_color_rgb` promise of their answer r, c being the colour of the text: it says a colour exactly if
-- the text is that colour, no colour exactly if it is none, and 15 exactly if it is cut inside a character.
pub record ReadsColor (c r : Result Rgba ColorError) : Type 0 where
  pub is : r ≡ c
  pub color-is : (v : Rgba) → Says r 0 (v ∷ []) ↔ (c ≡ Ok v)
  pub none : Says r 0 [] ↔ (c ≡ (Err ColorError.Invalid))
  pub cut_inside : Says r 15 [] ↔ (c ≡ (Err ColorError.Cut))
