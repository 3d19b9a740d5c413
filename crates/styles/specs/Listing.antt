-- In which order ids are listed (document 02, (k)). Definitions alone. `proofs/Listing` shows that the walk of `Resolve` lists them so, and that
-- there is one such list.
use Rattle.std.specs.Prelude.{◌≡◌, List, [], ◌∷◌, ◌++◌}
use Rattle.track.specs.Track.{Bytes, Style}
use Rattle.styles.specs.Reaches.{◌∈◌, parents}

-- "in the order of their first visit: an id, then its parents from left to right, each followed out fully". The ids are visited from left to
-- right, and what is listed grows from l to r.
pub data Lists (styles : List (Style Bytes)) : (ids l r : List Bytes) → Type 0 where
  -- no id is left
  done : {l r : List Bytes} → r ≡ l → Lists styles [] l r
  -- an id that is listed adds nothing
  again : {a : Bytes} {ids l r : List Bytes} → a ∈ l → Lists styles ids l r → Lists styles (a ∷ ids) l r
  -- the first visit of an id: it is listed, then its parents are visited, and when all of these are done the ids to the right of it
  first : {a : Bytes} {ids l m r : List Bytes} → (a ∈ l → ⊥) → Lists styles (parents styles a) (l ++ (a ∷ [])) m → Lists styles ids m r
      → Lists styles (a ∷ ids) l r

-- what is listed for these ids where nothing was before
abbrev pub InOrder : List (Style Bytes) → (ids listed : List Bytes) → Type 0
InOrder styles ids listed = Lists styles ids [] listed
