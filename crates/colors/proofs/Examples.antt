-- Worked cases of colours, document 01's `#+f+f+f` among them: one table, one computed equation. Assumes nothing.
use Rattle.std.specs.Prelude.{Result, Ok, Err}
use mathlib.Core.Path.{◌≡◌, refl}
use Prim.Native.Nat.{ℕ}
use mathlib.Core.List.{List, [], ◌∷◌, ◌++◌}
use Rattle.scan.specs.Loop.{go, loop}
use Rattle.scan.specs.Names.{same_folded}
use Rattle.scan.specs.Marks.{starts_at}
use Rattle.scan.specs.Split.{split_at}
use Rattle.utf8.specs.Utf8.{sequence_at, char_at}
use Rattle.utf8.specs.White.{is_white, white_at, white_before, trimmed}
use Rattle.numerals.specs.Numerals.{numeral_of}
use Rattle.utf8.specs.Utf8.{boundary}
use Rattle.scan.specs.Text.{ascii}
use Rattle.colors.specs.Named.{rgba, named_in}
use Rattle.colors.specs.Colors.{color_in}
use Rattle.colors.specs.declared.read.ColorError.{ColorError}
use Rattle.colors.specs.declared.read.Rgba.{Rgba}

pub data Case : Type 0 where
  read : List ℕ → Result Rgba ColorError → Case

abbrev outcomes : List Case → List Case
outcomes [] = []
outcomes (read s c ∷ cs) = read s (color_in s) ∷ outcomes cs

-- the two bytes of é
abbrev é : List ℕ
é = 0xC3 ∷ 0xA9 ∷ []

abbrev pub cases : List Case
cases =
    read (ascii "#+f+f+f") (Ok (rgba 15 15 15 255))  -- each of the two bytes of a channel may be a sign
    ∷ read (ascii "#g" ++ é) (Err ColorError.Invalid)  -- no digit stands before the cut
    ∷ read (ascii "#a" ++ é) (Err ColorError.Cut)  -- the second channel is cut inside a character
    ∷ read (ascii "#12345678") (Ok (rgba 0x12 0x34 0x56 0x78))
    ∷ read (ascii "rgb( 1, 2 ,3)") (Ok (rgba 1 2 3 255))
    ∷ read (ascii "rgb(1,2)") (Err ColorError.Invalid)
    ∷ read (ascii "Grey") (Ok (rgba 128 128 128 255))
    ∷ []

pub cases_hold : outcomes cases ≡ cases
unfolding color_in starts_at split_at named_in same_folded boundary numeral_of trimmed white_before white_at is_white sequence_at char_at loop go
cases_hold = refl
