-- Placed trees: what is read, by places in the text, and how it is laid out in the two tables. Definitions alone.
use Rattle.std.specs.Prelude.{ℕ, ◌+◌, ◌≤◌, List, [], ◌∷◌, ◌++◌, length}

-- an attribute: place and length of its name, place and length of its value
pub record Attr : Type 0 where
  pub name : ℕ
  pub name_len : ℕ
  pub value : ℕ
  pub value_len : ℕ

-- siblings: none; a text, a section of CDATA or an element, then its later siblings
pub data Forest : Type 0 where
  nil : Forest
  text : ℕ → ℕ → Forest → Forest
  section : ℕ → ℕ → Forest → Forest
  elem : ℕ → ℕ → List Attr → Forest → Forest → Forest

unfoldable pub size : Forest → ℕ
size nil = 0
size (text p n f) = 1 + size f
size (section p n f) = 1 + size f
size (elem p n l c f) = 1 + size c + size f

unfoldable pub attrs_of : Forest → List Attr
attrs_of nil = []
attrs_of (text p n f) = attrs_of f
attrs_of (section p n f) = attrs_of f
attrs_of (elem p n l c f) = l ++ (attrs_of c ++ attrs_of f)

unfoldable pub join : Forest → Forest → Forest
join nil g = g
join (text p n f) g = text p n (join f g)
join (section p n f) g = section p n (join f g)
join (elem p n l c f) g = elem p n l c (join f g)

-- ---- rows
-- "the fixed length" of a table: 8,192 nodes of 6 numbers, 8,192 attributes of 4
abbrev pub node_table : ℕ
node_table = 49152

abbrev pub attr_table : ℕ
attr_table = 32768

-- a node's row: kind (1 a text, 2 an element, 3 a section), the row after the subtree, place, length, first attribute, number of attributes
unfoldable pub row : ℕ → ℕ → ℕ → ℕ → ℕ → ℕ → List ℕ
row kind end place len first count = kind ∷ end ∷ place ∷ len ∷ first ∷ count ∷ []

-- the nodes' rows in preorder, the first being row k, where a attributes stand before
unfoldable pub rows : ℕ → ℕ → Forest → List ℕ
rows k a nil = []
rows k a (text p n f) = row 1 (k + 1) p n 0 0 ++ rows (k + 1) a f
rows k a (section p n f) = row 3 (k + 1) p n 0 0 ++ rows (k + 1) a f
rows k a (elem p n l c f) =
    row 2 (k + 1 + size c) p n a (length l) ++ (rows (k + 1) (a + length l) c ++ rows (k + 1 + size c) (a + length l + length (attrs_of c)) f)

-- the attributes' rows
unfoldable pub attr_row : Attr → List ℕ
attr_row x = x.name ∷ x.name_len ∷ x.value ∷ x.value_len ∷ []

unfoldable pub attr_rows : List Attr → List ℕ
attr_rows [] = []
attr_rows (x ∷ xs) = attr_row x ++ attr_rows xs

-- ---- strings
-- a string of the text: its place and length
pub record Span : Type 0 where
  pub place : ℕ
  pub len : ℕ

-- the strings of a forest in document order: an element's name and its attributes' names and values, texts and sections
unfoldable pub attr_spans : List Attr → List Span
attr_spans [] = []
attr_spans (x ∷ xs) = record { place = x.name; len = x.name_len } ∷ record { place = x.value; len = x.value_len } ∷ attr_spans xs

unfoldable pub spans : Forest → List Span
spans nil = []
spans (text p n f) = record { place = p; len = n } ∷ spans f
spans (section p n f) = record { place = p; len = n } ∷ spans f
spans (elem p n l c f) = record { place = p + 1; len = n } ∷ (attr_spans l ++ (spans c ++ spans f))

-- strings that stand one after the other, from a place on and up to a place
abbrev pub InOrder : ℕ → List Span → ℕ → Type 0
InOrder lo [] hi = lo ≤ hi
InOrder lo (x ∷ xs) hi = (lo ≤ x.place) × InOrder (x.place + x.len) xs hi
