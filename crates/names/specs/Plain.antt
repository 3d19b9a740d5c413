-- Names that stand in a start tag as they are. Definitions alone.
use Rattle.std.specs.Prelude.{ℕ, ◌≤◌, ◌<◌, ◌≡◌, Bool, true, not, ◌&&◌, ◌||◌, List, length, get_or, eqb, leb}

-- printing ASCII, no blank, and none of `"`, `&`, `/`, `<`, `=`, `>`
unfoldable pub plain_byte : ℕ → Bool
plain_byte b = leb 33 b && (leb b 126 && not (eqb b 34 || eqb b 38 || eqb b 47 || eqb b 60 || eqb b 61 || eqb b 62))

-- a name of such bytes, not empty and of at most 25
pub record PlainName (n : List ℕ) : Type 0 where
  pub some : 0 < length n
  pub most : length n ≤ 25
  pub plain : (k : ℕ) → k < length n → plain_byte (get_or n k 0) ≡ true
