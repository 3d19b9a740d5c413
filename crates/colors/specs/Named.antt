-- The colour names, from TTML 2, 10.3 (the Rust's `named` cites its 10.3.5), and the Rust's `named`, which takes `grey` besides. Definitions alone.
use Rattle.std.specs.Prelude.{Result, Ok, Err, ℕ, cond, List, [], ◌∷◌}
use Rattle.scan.specs.Names.{same_folded}
use Rattle.scan.specs.Text.{ascii}
use Rattle.colors.specs.declared.read.Rgba.{Rgba}
use Rattle.colors.specs.declared.read.ColorError.{ColorError}

abbrev pub rgba : ℕ → ℕ → ℕ → ℕ → Rgba
rgba r g b a = record { r = r; g = g; b = b; a = a }

-- a name and its colour
infix 70 ◌means◌
pub data NamedColor : Type 0 where
  ◌means◌ : (name : List ℕ) → Rgba → NamedColor

abbrev pub color_table : List NamedColor
color_table =
    ascii "black" means rgba 0 0 0 255
    ∷ ascii "white" means rgba 255 255 255 255
    ∷ ascii "red" means rgba 255 0 0 255
    ∷ ascii "green" means rgba 0 128 0 255
    ∷ ascii "lime" means rgba 0 255 0 255
    ∷ ascii "blue" means rgba 0 0 255 255
    ∷ ascii "yellow" means rgba 255 255 0 255
    ∷ ascii "cyan" means rgba 0 255 255 255
    ∷ ascii "aqua" means rgba 0 255 255 255
    ∷ ascii "magenta" means rgba 255 0 255 255
    ∷ ascii "fuchsia" means rgba 255 0 255 255
    ∷ ascii "silver" means rgba 192 192 192 255
    ∷ ascii "gray" means rgba 128 128 128 255
    ∷ ascii "grey" means rgba 128 128 128 255
    ∷ ascii "maroon" means rgba 128 0 0 255
    ∷ ascii "purple" means rgba 128 0 128 255
    ∷ ascii "olive" means rgba 128 128 0 255
    ∷ ascii "navy" means rgba 0 0 128 255
    ∷ ascii "teal" means rgba 0 128 128 255
    ∷ ascii "transparent" means rgba 0 0 0 0
    ∷ []

-- the colour of the first name that s is, letters in any case
unfoldable pub named_in : List ℕ → List NamedColor → Result Rgba ColorError
named_in s [] = Err ColorError.Invalid
named_in s (n means c ∷ ns) = cond (same_folded s n) (Ok c) (named_in s ns)
