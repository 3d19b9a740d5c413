-- The answer as document 01 counts it: "An answer has number and byte place (0 if none is named […])". Definitions alone.
use Rattle.std.specs.Prelude.{Result, Ok, Err, ℕ, ◌≡◌, List, [], ◌∷◌}
use Rattle.tree.specs.declared.answers.Refusal.{Refusal}
use Rattle.tree.specs.declared.answers.TreeSize.{TreeSize}

-- a tree of so many nodes and attributes
abbrev pub tree_with : (nodes attrs : ℕ) → Result TreeSize Refusal
tree_with n m = Ok (record { nodes = n; attrs = m })

-- a tree has no number, here 0
unfoldable pub number_of : Result TreeSize Refusal → ℕ
number_of (Ok t) = 0
number_of (Err r) = r.number

unfoldable pub place_of : Result TreeSize Refusal → ℕ
place_of (Ok t) = 0
place_of (Err r) = r.place

-- how many nodes and attributes a tree has
abbrev pub values_of : Result TreeSize Refusal → List ℕ
values_of (Ok t) = t.nodes ∷ t.attrs ∷ []
values_of (Err r) = []

abbrev pub Says : Result TreeSize Refusal → (number place : ℕ) → Type 0
Says answer n p = (number_of answer ≡ n) × (place_of answer ≡ p)
