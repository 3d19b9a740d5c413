-- What the function on trees answers. Definitions alone.
use Rattle.std.specs.Prelude.{Result, Ok, Err, ℕ, ◌≡◌, Bool, true, false, List, [], ◌∷◌, length, leb}
use Rattle.std.proofs.lemmas.List.Edits.{sets}
use Rattle.tree.specs.Answers.{number_of}
use Rattle.xml.specs.Promise.{Tables, Parsed}
use Rattle.tree.specs.declared.answers.Refusal.{Refusal}
use Rattle.tree.specs.declared.answers.TreeSize.{TreeSize}

-- there are cells for the answer
abbrev pub room : List ℕ → Bool
room out = leb 3 (length out)

-- the place of a refusal, and how many nodes and attributes a tree has
abbrev pub tree_cells : Result TreeSize Refusal → List ℕ
tree_cells (Ok t) = 0 ∷ t.nodes ∷ t.attrs ∷ []
tree_cells (Err r) = r.place ∷ 0 ∷ 0 ∷ []

-- the promise of `parse_xml`, its answer told by document 01's number, 0 for a tree, and three cells
pub record Told (text : List ℕ) (lent left : Tables) (out out' : List ℕ) (r : ℕ) : Type 0 where
  pub answer : Result TreeSize Refusal
  pub promised : Parsed text lent answer left
  pub is : r ≡ number_of answer
  pub laid : out' ≡ sets out 0 (tree_cells answer)

-- nothing is touched
pub record Untouched (lent left : Tables) (out out' : List ℕ) (r : ℕ) : Type 0 where
  pub is : r ≡ 0xFFFF_FFFF
  pub same : left ≡ lent
  pub kept : out' ≡ out

abbrev pub TellsIf : Bool → List ℕ → Tables → Tables → List ℕ → List ℕ → ℕ → Type 0
TellsIf true text lent left out out' r = Told text lent left out out' r
TellsIf false text lent left out out' r = Untouched lent left out out' r
