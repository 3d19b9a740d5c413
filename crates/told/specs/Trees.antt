-- What the tree reader promises to a caller in C. Definitions alone.
use Rattle.std.specs.Prelude.{Result, Ok, Err, ℕ, ◌≤◌, ◌<◌, ◌≡◌, List, [], ◌∷◌, length, replicate}
use Rattle.std.proofs.lemmas.List.Edits.{sets}
use Rattle.xml.specs.Promise.{Tables, Parsed, AllZero}
use Rattle.told.specs.Told.{told, tree_told, Tells}
use Rattle.tree.specs.declared.answers.Refusal.{Refusal}
use Rattle.tree.specs.declared.answers.TreeSize.{TreeSize}

-- a tree's nodes and attributes, counted; nothing after a refusal
unfoldable pub count_cells : Result TreeSize Refusal → List ℕ
count_cells (Ok t) = t.nodes ∷ t.attrs ∷ []
count_cells (Err r) = []

-- `counts` is a lent table of two cells
pub record ReadInC (text : List ℕ) (lent : Tables) (counts : List ℕ) (left : Tables) (counted : List ℕ) (r : ℕ) : Type 0 where
  -- "1. A lent table is shorter than its fixed length."
  pub short : length counts < 2 → (r ≡ told 1 0) × AllZero lent left × (counted ≡ replicate (length counts) 0)
  pub reads : 2 ≤ length counts
      → Tells tree_told (λ a. Parsed text lent a left × (counted ≡ sets (replicate (length counts) 0) 0 (count_cells a))) r
