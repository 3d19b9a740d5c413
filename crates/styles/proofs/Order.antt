-- Where more than one of a region's own values is refused, the colour comes before the background, and both before the size. Assumes nothing.
--     color-first, back_second, size-last      the number is that of the first that is refused
use Prim.Native.Nat.{ℕ}
use mathlib.Core.Path.{◌≡◌}
use mathlib.Core.List.{List}
use mathlib.Core.Option.{Option}
use Rattle.colors.specs.declared.read.Rgba.{Rgba}
use Rattle.track.specs.Track.{Bytes, Extra}
use Rattle.styles.specs.Own.{is, refused, value_of, color_of, size_in, own_values}

module _ (e : List (Extra Bytes)) (n : ℕ) where
  pub color-first : color_of (value_of "tts:color" e) ≡ refused n → own_values e ≡ refused n
  unfolding own_values
  color-first h = rw h

  module _ (color : Option Rgba) (c : color_of (value_of "tts:color" e) ≡ is color) where
    pub back_second : color_of (value_of "tts:backgroundColor" e) ≡ refused n → own_values e ≡ refused n
    unfolding own_values
    back_second h = rw (c, h)

    pub size-last : (back : Option Rgba) → color_of (value_of "tts:backgroundColor" e) ≡ is back → size_in (value_of "tts:fontSize" e) ≡ refused n
        → own_values e ≡ refused n
    unfolding own_values
    size-last back b h = rw (c, b, h)
