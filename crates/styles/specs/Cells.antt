-- What a style says as the program holds it: a struct in which a part that is absent is zero. Definitions alone.
use Rattle.std.specs.Prelude.{◌≡◌, Bool, false, cond, not, ◌&&◌, ◌||◌}
use Rattle.colors.specs.declared.read.Rgba.{Rgba}
use Rattle.decimals.specs.declared.size.Size.{Size}
use Rattle.track.specs.declared.values.Align.{Align}
use Rattle.track.specs.declared.values.Look.{Look}
use Rattle.track.specs.Tables.{span, zero_float}
use Rattle.styles.specs.Values.{align_over, is_start}

unfoldable pub overlaid : Look → Look → Look
overlaid x y = record {
  has_color = y.has_color || x.has_color;
  color = cond y.has_color y.color x.color;
  has_back = y.has_back || x.has_back;
  back = cond y.has_back y.back x.back;
  has_family = y.has_family || x.has_family;
  family = cond y.has_family y.family x.family;
  has_size = y.has_size || x.has_size;
  size = cond y.has_size y.size x.size;
  bold = y.bold || x.bold;
  italic = y.italic || x.italic;
  underline = y.underline || x.underline;
  strike = y.strike || x.strike;
  align = align_over x.align y.align;
}

abbrev pub no_color : Rgba
no_color = record { r = 0; g = 0; b = 0; a = 0 }

abbrev pub no_size_of : Size
no_size_of = record { value = zero_float; negative = false; digits = 0; scale = 0 }

unfoldable pub blank_look : Look
blank_look = record {
  has_color = false;
  color = no_color;
  has_back = false;
  back = no_color;
  has_family = false;
  family = span 0 0;
  has_size = false;
  size = no_size_of;
  bold = false;
  italic = false;
  underline = false;
  strike = false;
  align = Align.Start;
}

unfoldable pub is_plain : Look → Bool
is_plain x =
    not x.has_family && not x.has_size && not x.has_color && not x.has_back
    && not x.bold && not x.italic && not x.underline && not x.strike && is_start x.align

-- "unused cells are zero": what is absent is
pub record Tidy (x : Look) : Type 0 where
  pub color : x.has_color ≡ false → x.color ≡ no_color
  pub back : x.has_back ≡ false → x.back ≡ no_color
  pub family : x.has_family ≡ false → x.family ≡ span 0 0
  pub size : x.has_size ≡ false → x.size ≡ no_size_of
