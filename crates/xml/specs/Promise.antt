-- What `parse_xml` promises, in the words of document 01: of the text, the tables that are lent and what is left in them, and the answer.
-- Definitions alone. Nothing here says how the program reads.
use Rattle.std.specs.Prelude.{Result, ℕ, ◌+◌, ◌-◌, ◌≤◌, ◌<◌, ◌≡◌, ◌⊎◌, ◌↔◌, List, [], ◌∷◌, ◌++◌, length, get_or, take, replicate}
use Rattle.utf8.specs.Utf8.{Utf8}
use Rattle.entities.specs.Decode.{decoded}
use Rattle.grammar.specs.Tree.{Forest}
use Rattle.grammar.specs.Limits as count
use Rattle.grammar.specs.Limits.{most_bytes, most_depth, most_nodes, most_attrs}
use Rattle.grammar.specs.Grammar.{Document}
use Rattle.grammar.specs.Demand.{Derives, decode_forest}
use Rattle.grammar.specs.Refusals.{FirstMet}
use Rattle.tree.specs.Answers.{number_of, values_of, Says}
use Rattle.tree.specs.Trees as placed
use Rattle.tree.specs.Trees.{node_table, attr_table, rows, attrs_of, attr_rows, Span, spans, InOrder}
use Rattle.derivation.specs.Strings.{tree_in}
use Rattle.xml.specs.Where.{document_placed}
use Rattle.tree.specs.declared.answers.Refusal.{Refusal}
use Rattle.tree.specs.declared.answers.TreeSize.{TreeSize}

-- ---- the tables
pub record Tables : Type 0 where
  pub nodes : List ℕ
  pub attrs : List ℕ
  pub strings : List ℕ

abbrev pub tables : List ℕ → List ℕ → List ℕ → Tables
tables t u z = record { nodes = t; attrs = u; strings = z }

-- the fixed lengths: of nodes and of attributes, and a byte for each byte of a text
pub record LongEnough (lent : Tables) : Type 0 where
  pub of_nodes : node_table ≤ length lent.nodes
  pub of_attrs : attr_table ≤ length lent.attrs
  pub of_strings : most_bytes ≤ length lent.strings

-- the cells w, then zeros up to n cells
abbrev pub then_zeros : List ℕ → ℕ → List ℕ
then_zeros w n = w ++ replicate (n - length w) 0

-- every cell is zero
pub record AllZero (lent left : Tables) : Type 0 where
  pub of_nodes : left.nodes ≡ replicate (length lent.nodes) 0
  pub of_attrs : left.attrs ≡ replicate (length lent.attrs) 0
  pub of_strings : left.strings ≡ replicate (length lent.strings) 0

-- ---- what is taken
-- none of the numbers 1 to 3 is met
pub record Readable (text : List ℕ) (lent : Tables) : Type 0 where
  pub long_enough : LongEnough lent
  pub short : length text ≤ most_bytes
  pub valid : Utf8 text

-- and the grammar derives f within the limits
pub record Takes (text : List ℕ) (lent : Tables) (f : Forest) : Type 0 where
  pub readable : Readable text lent
  pub derives : Derives text f

-- ---- what is turned away
-- the longest valid beginning of the text ends at p
pub record ValidUpTo (text : List ℕ) (p : ℕ) : Type 0 where
  pub within : p ≤ length text
  pub valid : Utf8 (take p text)
  pub longest : (q : ℕ) → q ≤ length text → Utf8 (take q text) → q ≤ p

-- "Order: 1, 2, 3, then 4 to 11"
pub data TurnsAway (text : List ℕ) (lent : Tables) : (number place : ℕ) → Type 0 where
  -- "1. A lent table is shorter than its fixed length."
  short_table : ¬ LongEnough lent → TurnsAway text lent 1 0
  -- "2. The text is longer than 65,536 bytes."
  long_text : LongEnough lent → most_bytes < length text → TurnsAway text lent 2 0
  -- "3. It is not UTF-8 (where its longest valid beginning ends)."
  not_utf8 : {p : ℕ} → LongEnough lent → length text ≤ most_bytes → ¬ Utf8 text → ValidUpTo text p → TurnsAway text lent 3 p
  -- "Of 4 to 11 the earliest place wins, then the lower number."
  first-met : {n p : ℕ} → Readable text lent → FirstMet most_depth most_nodes most_attrs text n p → TurnsAway text lent n p

-- ---- what the tables hold
-- the derived tree by places: a text, an element and an attribute at its first byte, a section and a value where its bytes begin; texts and
-- values as long as they are with their entities read
abbrev pub places_of : {text : List ℕ} {f : Forest} → Document text f → placed.Forest
places_of d = document_placed (λ b. length (decoded b)) d

-- byte i belongs to none of these strings
abbrev pub Outside : ℕ → List Span → Type 0
Outside i [] = Unit {0}
Outside i (x ∷ l) = ((i < x.place) ⊎ (x.place + x.len ≤ i)) × Outside i l

-- the tree f, which is g by places
pub record HoldsTree (text : List ℕ) (lent left : Tables) (f : Forest) (g : placed.Forest) : Type 0 where
  -- "the nodes in their order and nesting", "attributes' names and values in order": a row for each; "unused cells are zero"
  pub node-rows : left.nodes ≡ then_zeros (rows 0 0 g) (length lent.nodes)
  pub attr-rows : left.attrs ≡ then_zeros (attr_rows (attrs_of g)) (length lent.attrs)
  -- "The tree reader gives it with entities read where the Rust reads them": the strings at their places show that tree
  pub shown : tree_in left.strings g ≡ decode_forest decoded f
  -- they stand one after the other, none beyond the text's length; all other bytes are zero
  pub in_order : InOrder 0 (spans g) (length text)
  pub elsewhere : (i : ℕ) → Outside i (spans g) → get_or left.strings i 0 ≡ 0
  pub as_long : length left.strings ≡ length lent.strings

-- ---- the promise
pub record Parsed (text : List ℕ) (lent : Tables) (answer : Result TreeSize Refusal) (left : Tables) : Type 0 where
  -- "It is taken if the tree reader, lent tables that are long enough, answers without a number": exactly if the grammar derives a tree for
  -- it within the limits
  pub taken : Says answer 0 0 ↔ ((f : Forest) × Takes text lent f)
  -- "The tree reader gives it": the answer counts that tree's nodes and attributes, and the tables hold it
  pub counts : (f : Forest) → Takes text lent f → values_of answer ≡ count.nodes f ∷ count.attrs f ∷ []
  pub tree : (f : Forest) (d : Takes text lent f) → HoldsTree text lent left f (places_of d.derives.derived)
  -- "Limits and what is turned away": with that number and that place, and with no other
  pub refused : (n p : ℕ) → 0 < n → Says answer n p ↔ TurnsAway text lent n p
  -- "unused cells are zero": after a refusal every cell is
  pub cleared : 0 < number_of answer → AllZero lent left
