-- What the functions on colours answer. Definitions alone.
use Rattle.std.specs.Prelude.{Result, Ok, Err, ℕ, Bool, cond, List, [], ◌∷◌}
use Rattle.colors.specs.declared.read.Rgba.{Rgba}
use Rattle.colors.specs.Colors.{number_of}
use Rattle.colors.specs.Written.{rgb_text, rgba_text}
use Rattle.colors.specs.declared.read.ColorError.{ColorError}

-- 1 for a colour, else document 01's number
abbrev pub color_code : Result Rgba ColorError → ℕ
color_code (Ok c) = 1
color_code (Err ColorError.Invalid) = number_of (Err ColorError.Invalid)
color_code (Err ColorError.Cut) = number_of (Err ColorError.Cut)

abbrev pub rgba_cells : Rgba → List ℕ
rgba_cells c = c.r ∷ c.g ∷ c.b ∷ c.a ∷ []

abbrev pub color_cells : Result Rgba ColorError → List ℕ
color_cells (Ok c) = rgba_cells c
color_cells (Err ColorError.Invalid) = []
color_cells (Err ColorError.Cut) = []

-- with its alpha or without
abbrev pub color_text : Bool → Rgba → List ℕ
color_text alpha c = cond alpha (rgba_text c) (rgb_text c)
