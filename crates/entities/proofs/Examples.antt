-- Cases of references (document 01, "Entities"): a text, and what is read for it. One proof computes them all from the definitions.
use Prim.Native.Nat.{ℕ}
use mathlib.Core.Path.{◌≡◌, refl}
use mathlib.Core.Bool.{Bool, true}
use mathlib.Core.List.{List, [], ◌∷◌}
use Rattle.scan.specs.Names.{same_bytes_of}
use Rattle.scan.specs.Text.{ascii}
use Rattle.scan.specs.Every.{every}
use Rattle.utf8.specs.Utf8.{sequence_at, char_at, scalar, encode}
use Rattle.utf8.specs.White.{is_white}
use Rattle.numerals.specs.Numerals.{numeral_of}
use Rattle.entities.specs.Reference.{reference}
use Rattle.entities.specs.Decode.{decoded}

infix 70 ◌reads◌
pub data Case : Type 0 where
  ◌reads◌ : (text read : List ℕ) → Case

abbrev pub cases : List Case
cases =
    ascii "&#+65;" reads ascii "A"  -- [P]
    ∷ ascii "&AMP;" reads ascii "&AMP;"  -- [P]
    ∷ ascii "&nbsp;" reads (0xC2 ∷ 0xA0 ∷ [])
    ∷ ascii "&#xD800;" reads ascii "&#xD800;"
    -- a name of 16 bytes, and of 17
    ∷ ascii "&#000000000000065;" reads ascii "A"
    ∷ ascii "&#0000000000000065;" reads ascii "&#0000000000000065;"
    -- white space, `&`, `<` and the end
    ∷ ascii "&lt ;" reads ascii "&lt ;"
    ∷ (38 ∷ 108 ∷ 116 ∷ 0xC2 ∷ 0xA0 ∷ 59 ∷ []) reads (38 ∷ 108 ∷ 116 ∷ 0xC2 ∷ 0xA0 ∷ 59 ∷ [])
    ∷ ascii "&l&lt;" reads ascii "&l<"
    ∷ ascii "&l<t;" reads ascii "&l<t;"
    ∷ ascii "&lt" reads ascii "&lt"
    ∷ []

abbrev as_said : Case → Bool
as_said (text reads read) = same_bytes_of (decoded text) read

pub worked : every as_said cases ≡ true
unfolding decoded reference sequence_at char_at is_white numeral_of scalar encode same_bytes_of
worked = refl
