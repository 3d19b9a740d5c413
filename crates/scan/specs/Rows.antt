-- Tables of rows. Definitions alone.
use Rattle.std.specs.Prelude.{ℕ, ◌≡◌, List, [], ◌∷◌, ◌++◌, length}

-- rows one after the other, as they stand in a table
unfoldable pub cells : List (List ℕ) → List ℕ
cells [] = []
cells (r ∷ rs) = r ++ cells rs

-- every row has w cells
abbrev pub Wide : ℕ → List (List ℕ) → Type 0
Wide w [] = Unit {0}
Wide w (r ∷ rs) = (length r ≡ w) × Wide w rs
