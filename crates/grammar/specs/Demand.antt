-- The demand on a tree reader (document 01, "Grammar"): it takes a text exactly when the grammar derives a tree for it within the limits;
-- the tree given is that tree with its entities read; no text, taken or not, has two. Definitions alone.
use Rattle.std.specs.Prelude.{◌≡◌, ℕ, ◌≤◌, ◌↔◌, List, [], ◌∷◌, length}
use Rattle.grammar.specs.Words.{Bytes}
use Rattle.grammar.specs.Tree.{Attr, attr, Tree, text, section, element, Forest, none, more}
use Rattle.grammar.specs.Grammar.{Document}
use Rattle.grammar.specs.Limits.{most_bytes, most_depth, most_nodes, most_attrs, Within}

-- what a tree reader answers: a tree; or a number of document 01's list, and its byte place
pub data Result : Type 0 where
  tree : Forest → Result
  refused : (number place : ℕ) → Result

-- the grammar derives f for s, and: "A tree is within the limits if the whole text has at most 65,536 bytes, no element stands inside 64
-- others, and it has at most 8,192 nodes and at most 8,192 attributes."
pub record Derives (s : Bytes) (f : Forest) : Type 0 where
  pub derived : Document s f
  pub limits : Within most_depth most_nodes most_attrs f
  pub size : length s ≤ most_bytes

-- "It is taken if the tree reader […] answers without a number"
abbrev pub Taken : (Bytes → Result) → Bytes → Type 0
Taken reader s = (g : Forest) × (reader s ≡ tree g)

-- "The tree reader gives it with entities read where the Rust reads them": in texts and in the values of attributes; not in sections, and
-- in no name. `decode` is the reading of entities, of which nothing is asked here.
module _ (decode : Bytes → Bytes) where
  unfoldable pub decode_attrs : List Attr → List Attr
  decode_attrs [] = []
  decode_attrs (attr n v ∷ l) = attr n (decode v) ∷ decode_attrs l

  unfoldable mutual
    unfolding decode_attrs

    pub decode_tree : Tree → Tree
    decode_tree (text b) = text (decode b)
    decode_tree (section b) = section b
    decode_tree (element n l f) = element n (decode_attrs l) (decode_forest f)

    pub decode_forest : Forest → Forest
    decode_forest none = none
    decode_forest (more t f) = more (decode_tree t) (decode_forest f)

-- ---- the three statements

abbrev pub TakesExactly : (Bytes → Result) → Type 0
TakesExactly reader = (s : Bytes) → Taken reader s ↔ ((f : Forest) × Derives s f)

abbrev pub GivesThatTree : (Bytes → Bytes) → (Bytes → Result) → Type 0
GivesThatTree decode reader = (s : Bytes) (f g : Forest) → Derives s f → reader s ≡ tree g → g ≡ decode_forest decode f

abbrev pub NoTwo : Type 0
NoTwo = (s : Bytes) (f g : Forest) → Document s f → Document s g → f ≡ g
