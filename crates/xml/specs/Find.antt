-- What is asked of a tree in its tables: elements by their local names, attributes by their names. Definitions alone.
-- Names are compared without regard to ASCII case (the Rust's `find_element` and `attr`).
use Rattle.std.specs.Prelude.{Option, Some, None, ℕ, ◌+◌, ◌*◌, ◌≤◌, ◌≡◌, Bool, true, false, cond, List, [], ◌∷◌, length, get_or, eqb}
use Rattle.scan.specs.Names.{same_folded, after_last_colon}
use Rattle.tree.specs.Trees.{Attr, Forest, nil, text, section, elem, size, attrs_of, spans, InOrder}
use Rattle.tree.specs.Walks.{Stands, Listed, RowIs}
use Rattle.grammar.specs.Tree as tree
use Rattle.scan.specs.Part.{string_at}
use Rattle.derivation.specs.Strings.{attrs_in, tree_in}
use Rattle.xml.specs.declared.find.Element.{Element}
use Rattle.xml.specs.declared.find.Attribute.{Attribute}
use Rattle.xml.specs.declared.attributes.Attributes.{Attributes}

-- ---- on trees
-- an element's local name is this
unfoldable pub named : List ℕ → List ℕ → Bool
named name full = same_folded (after_last_colon full) name

-- the first element of that name among nodes in a row: its name, attributes and content; or none
pub data FoundElement : Type 0 where
  found : (name : List ℕ) → List tree.Attr → (content : tree.Forest) → FoundElement
  absent : FoundElement

unfoldable pub find_element : List ℕ → tree.Forest → FoundElement
find_element name tree.none = absent
find_element name (tree.more (tree.text b) f) = find_element name f
find_element name (tree.more (tree.section b) f) = find_element name f
find_element name (tree.more (tree.element n l c) f) = cond (named name n) (found n l c) (find_element name f)

-- the value of the first attribute of that name; or none
pub data FoundValue : Type 0 where
  value : List ℕ → FoundValue
  no_value : FoundValue

unfoldable pub attr_value : List ℕ → List tree.Attr → FoundValue
attr_value name [] = no_value
attr_value name (tree.attr n v ∷ l) = cond (same_folded n name) (value v) (attr_value name l)

-- ---- in the tables
-- the forest f stands in the tables t of nodes and u of attributes from row i and attribute a on, with its strings in order in z
pub record Holds (t u z : List ℕ) (i a : ℕ) (f : Forest) : Type 0 where
  pub stands : Stands t i a f
  pub listed : Listed u a (attrs_of f)
  pub lo : ℕ
  pub placed : InOrder lo (spans f) (length z)

-- rows i up to e are siblings with all that stands in them
pub record Siblings (t z : List ℕ) (i e : ℕ) : Type 0 where
  pub first : ℕ
  pub forest : Forest
  pub stands : Stands t i first forest
  pub lo : ℕ
  pub placed : InOrder lo (spans forest) (length z)
  pub end : i + size forest ≡ e

-- it holds of the siblings that stand there
abbrev pub OfSiblings : (t : List ℕ) (i e : ℕ) → (Forest → Type 0) → Type 0
OfSiblings t i e holds = (a : ℕ) (f : Forest) → Stands t i a f → i + size f ≡ e → holds f

-- the row of the first element of that name, where the forest stands from row i on
unfoldable pub find_row : List ℕ → List ℕ → ℕ → Forest → Option ℕ
find_row z name i nil = None
find_row z name i (text p n f) = find_row z name (i + 1) f
find_row z name i (section p n f) = find_row z name (i + 1) f
find_row z name i (elem p n l c f) = cond (named name (string_at z (p + 1) n)) (Some i) (find_row z name (i + 1 + size c) f)

-- the first attribute of that name: its place, and place and length of its value
unfoldable pub find_value : List ℕ → List ℕ → List Attr → Option Attribute
find_value z name [] = None
find_value z name (x ∷ l) =
    cond (same_folded (string_at z x.name x.name_len) name) (Some (record { at = x.name; place = x.value; len = x.value_len }))
    (find_value z name l)

-- what the answer says, which has no number of document 01's list, since nothing is turned away here: an attribute's value, or none
unfoldable pub shown : List ℕ → Option Attribute → FoundValue
shown z (Some x) = value (string_at z x.place x.len)
shown z None = no_value

-- the attributes l are those from row j on, n of them, with their strings within z
abbrev pub WithinAttrs : ℕ → List Attr → Type 0
WithinAttrs hi [] = Unit {0}
WithinAttrs hi (x ∷ l) = (x.name + x.name_len ≤ hi) × (x.value + x.value_len ≤ hi) × WithinAttrs hi l

pub record Owned (u z : List ℕ) (j n : ℕ) (l : List Attr) : Type 0 where
  pub listed : Listed u j l
  pub count : length l ≡ n
  pub within : WithinAttrs (length z) l

-- attributes stand in those rows; and it holds of those that do
abbrev pub HasRows : (u z : List ℕ) (first many : ℕ) → Type 0
HasRows u z first many = (l : List Attr) × Owned u z first many l

abbrev pub OfRows : (u z : List ℕ) (first many : ℕ) → (List Attr → Type 0) → Type 0
OfRows u z first many holds = (l : List Attr) → Owned u z first many l → holds l

-- the same of those that an element has
abbrev pub Of : Attributes → (List Attr → Type 0) → Type 0
Of a holds = OfRows a.attrs.now a.strings.now a.first a.many holds

-- they are those in these rows
pub record InRows (a : Attributes) (u z : List ℕ) (i n : ℕ) : Type 0 where
  pub table : a.attrs.now ≡ u
  pub bytes : a.strings.now ≡ z
  pub from : a.first ≡ i
  pub count : a.many ≡ n

-- row k stands in the table, and its name within the strings; that name; the cells of its place and its value
abbrev pub NameFits : (u z : List ℕ) (k : ℕ) → Type 0
NameFits u z k = (k * 4 + 4 ≤ length u) × (get_or u (k * 4) 0 + get_or u (k * 4 + 1) 0 ≤ length z)

abbrev pub name_at : (u z : List ℕ) (k : ℕ) → List ℕ
name_at u z k = string_at z (get_or u (k * 4) 0) (get_or u (k * 4 + 1) 0)

unfoldable pub attribute_row : (u : List ℕ) (k : ℕ) → Attribute
attribute_row u k = record { at = get_or u (k * 4) 0; place = get_or u (k * 4 + 2) 0; len = get_or u (k * 4 + 3) 0 }

-- node k is an element of that name
unfoldable pub is_element : List ℕ → List ℕ → List ℕ → ℕ → Bool
is_element t z name k = cond (eqb (get_or t (k * 6) 0) 2) (named name (string_at z (get_or t (k * 6 + 2) 0 + 1) (get_or t (k * 6 + 3) 0))) false

-- row k stands in the table, and its name, if it is an element, within the strings
pub record HasRow (t z : List ℕ) (k : ℕ) : Type 0 where
  pub row : k * 6 + 6 ≤ length t
  pub within : get_or t (k * 6) 0 ≡ 2 → get_or t (k * 6 + 2) 0 + 1 + get_or t (k * 6 + 3) 0 ≤ length z

-- the cells of an element's row
unfoldable pub element_row : List ℕ → ℕ → Element
element_row t k = record {
  place = get_or t (k * 6 + 2) 0;
  name_len = get_or t (k * 6 + 3) 0;
  end = get_or t (k * 6 + 1) 0;
  first = get_or t (k * 6 + 4) 0;
  many = get_or t (k * 6 + 5) 0;
}

-- ---- what callers of the searches know
-- row i is a text (kind 1) or a section (kind 3), with its later siblings
pub record TextAt (t u z : List ℕ) (kind i a p n : ℕ) (f : Forest) : Type 0 where
  pub row : RowIs t i kind (i + 1) p n 0 0
  pub room : i * 6 + 6 ≤ length t
  pub within : p + n ≤ length z
  pub later : Holds t u z (i + 1) a f

-- row i is an element, with its attributes, its content and its later siblings
pub record ElementAt (t u z : List ℕ) (i a p n : ℕ) (l : List Attr) (c f : Forest) : Type 0 where
  pub row : RowIs t i 2 (i + 1 + size c) p n a (length l)
  pub cells : element_row t i ≡ record { place = p; name_len = n; end = i + 1 + size c; first = a; many = length l }
  pub room : i * 6 + 6 ≤ length t
  pub within : p + 1 + n ≤ length z
  pub owned : Owned u z a (length l) l
  pub inside : Holds t u z (i + 1) (a + length l) c
  pub siblings : Siblings t z (i + 1) (i + 1 + size c)
  pub later : Holds t u z (i + 1 + size c) (a + length l + length (attrs_of c)) f

-- row k is the first element of that name in the forest f that stands from row i on
pub record FoundAt (t u z name : List ℕ) (i : ℕ) (f : Forest) (k : ℕ) : Type 0 where
  pub place : ℕ
  pub len : ℕ
  pub first : ℕ
  pub attrs : List Attr
  pub content : Forest
  pub holds : Holds t u z k first (elem place len attrs content nil)
  pub at : ElementAt t u z k first place len attrs content nil
  pub after : i ≤ k
  pub before : k + 1 + size content ≤ i + size f
  pub matches : named name (string_at z (place + 1) len) ≡ true
  pub is : find_element name (tree_in z f) ≡ found (string_at z (place + 1) len) (attrs_in z attrs) (tree_in z content)
