-- What a region says itself is refused with 14 or 15 alone, and nothing else of what is asked is refused. Assumes nothing.
--     own-number                         its values
--     region_number, cue-number          what is asked of a region, and of a cue
--     region_refused, cue_refused        the number itself
use Rattle.std.specs.Prelude.{Result, Ok, Err}
use Prim.Native.Nat.{ℕ}
use mathlib.Core.Path.{◌≡◌, refl, subst}
use mathlib.Core.Logic.{◌⊎◌, inl, inr}
use mathlib.Core.List.{List}
use mathlib.Core.Option.{Option, none, some}
use lib.ListN.{take}
use Rattle.scan.specs.Bytes.{run_length_of}
use Rattle.colors.specs.Colors.{color_in}
use Rattle.decimals.specs.Decimal.{decimal_of}
use Rattle.track.specs.Track.{Bytes, Extra, Style, Region, Cue, Track}
use Rattle.records.specs.Find.{find_region}
use Rattle.styles.specs.Own.{Read, is, refused, next, value_of, color_read, color_of, size_read, size_byte, size_in, own_values}
use Rattle.styles.specs.Queries.{region_found, region_style, region_optional, cue_found, effective_style, nth}
use Rattle.decimals.specs.declared.read.DecimalError.{DecimalError}
use Rattle.colors.specs.declared.read.ColorError.{ColorError}
use Rattle.decimals.specs.declared.read.Digits.{Digits}
use Rattle.colors.specs.declared.read.Rgba.{Rgba}

abbrev pub OwnNumber : {A : Type 0} → Read A → Type 0
OwnNumber (is x) = Unit {0}
OwnNumber (refused n) = (n ≡ 14) ⊎ (n ≡ 15)

next-number : {A B : Type 0} (r : Read A) (f : A → Read B) → OwnNumber r → ((x : A) → OwnNumber (f x)) → OwnNumber (next r f)
next-number (is x) f h k = k x
next-number (refused n) f h k = h

color-number : (c : Result Rgba ColorError) → OwnNumber (color_read c)
color-number (Ok c) = tt
color-number (Err ColorError.Invalid) = tt
color-number (Err ColorError.Cut) = inr refl

colors_number : (v : Option Bytes) → OwnNumber (color_of v)
colors_number none = tt
colors_number (some v) = color-number (color_in v)

size_number : (d : Result Digits DecimalError) → OwnNumber (size_read d)
size_number (Ok d) = tt
size_number (Err DecimalError.Invalid) = tt
size_number (Err DecimalError.Beyond) = inl refl

sizes_number : (v : Option Bytes) → OwnNumber (size_in v)
sizes_number none = tt
sizes_number (some v) = size_number (decimal_of (take (run_length_of size_byte v) v) 6 10)

pub own-number : (e : List (Extra Bytes)) → OwnNumber (own_values e)
unfolding own_values
own-number e =
    next-number (color_of (value_of "tts:color" e)) _ (colors_number (value_of "tts:color" e)) λ color.
    next-number (color_of (value_of "tts:backgroundColor" e)) _ (colors_number (value_of "tts:backgroundColor" e)) λ back.
    next-number (size_in (value_of "tts:fontSize" e)) _ (sizes_number (value_of "tts:fontSize" e)) λ size.
    tt

pub region_number : (styles : List (Style Bytes)) (g : Option (Region Bytes)) → OwnNumber (region_found styles g)
region_number styles none = tt
region_number styles (some g) = next-number (own_values g.extras) _ (own-number g.extras) λ own. tt

its_region-number : (k : Track Bytes) (id : Option Bytes) → OwnNumber (region_optional k id)
unfolding region_style
its_region-number k none = tt
its_region-number k (some id) = region_number k.styles (find_region id k.regions)

pub cue-number : (k : Track Bytes) (c : Option (Cue Bytes)) → OwnNumber (cue_found k c)
cue-number k none = tt
cue-number k (some c) = next-number (region_optional k c.region) _ (its_region-number k c.region) λ r. tt

module _ (k : Track Bytes) {n : ℕ} where
  pub region_refused : (id : Bytes) → region_style k id ≡ refused n → (n ≡ 14) ⊎ (n ≡ 15)
  unfolding region_style
  region_refused id e = subst OwnNumber e (region_number k.styles (find_region id k.regions))

  pub cue_refused : (i : ℕ) → effective_style k i ≡ refused n → (n ≡ 14) ⊎ (n ≡ 15)
  unfolding effective_style
  cue_refused i e = subst OwnNumber e (cue-number k (nth k.cues i))
