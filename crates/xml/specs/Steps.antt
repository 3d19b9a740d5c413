-- Steps of the program, which need not be believed: what the two passes over the rows do, row by row, and what they do together. s is the text, t
-- the table of nodes, u that of attributes, z that of strings.
use Rattle.std.specs.Prelude.{ℕ, zero, suc, ◌+◌, ◌*◌, ◌≤◌, cond, List, [], ◌∷◌, ◌++◌, length, get_or, replicate, eqb, ltb}
use Rattle.std.proofs.lemmas.List.Edits.{sets}
use Rattle.entities.specs.Decode.{decoded}
use Rattle.scan.specs.Part.{string_at}
use Rattle.tree.specs.Trees.{Attr, Forest, nil, text, section, elem}
use Rattle.tree.specs.Read.{Out, got, nothing, bad, meaning}
use Rattle.xml.specs.Reading.{Placed, lay}

-- ---- nodes
-- the place of the string of node k: an element's name stands one byte after its `<`
unfoldable pub node_place : List ℕ → ℕ → ℕ
node_place t k = cond (eqb (get_or t (k * 6) 0) 2) (get_or t (k * 6 + 2) 0 + 1) (get_or t (k * 6 + 2) 0)

-- what is written for it: a text (kind 1) with its entities read
unfoldable pub node_bytes : List ℕ → List ℕ → ℕ → List ℕ
node_bytes s t k =
    let w = string_at s (node_place t k) (get_or t (k * 6 + 3) 0) in
    cond (eqb (get_or t (k * 6) 0) 1) (decoded w) w

-- the tables after the first k nodes
unfoldable pub nodes_read : List ℕ → List ℕ → ℕ → List ℕ
nodes_read s t zero = t
nodes_read s t (suc k) = sets (nodes_read s t k) (k * 6 + 3) (length (node_bytes s t k) ∷ [])

unfoldable pub node_strings_read : List ℕ → List ℕ → List ℕ → ℕ → List ℕ
node_strings_read s t z zero = z
node_strings_read s t z (suc k) = sets (node_strings_read s t z k) (node_place t k) (node_bytes s t k)

-- node k has its row, and its string is within the text, which has room
pub record NodeReady (s t z : List ℕ) (k : ℕ) : Type 0 where
  pub short : length s ≤ 65536
  pub room : length s ≤ length z
  pub row : k * 6 + 6 ≤ length t
  pub fits : node_place t k + get_or t (k * 6 + 3) 0 ≤ length s

-- ---- attributes
unfoldable pub value_bytes : List ℕ → List ℕ → ℕ → List ℕ
value_bytes s u k = decoded (string_at s (get_or u (k * 4 + 2) 0) (get_or u (k * 4 + 3) 0))

unfoldable pub attrs_read : List ℕ → List ℕ → ℕ → List ℕ
attrs_read s u zero = u
attrs_read s u (suc k) = sets (attrs_read s u k) (k * 4 + 3) (length (value_bytes s u k) ∷ [])

unfoldable pub attr_written : List ℕ → List ℕ → List ℕ → ℕ → List ℕ
attr_written s u z k =
    sets (sets z (get_or u (k * 4) 0) (string_at s (get_or u (k * 4) 0) (get_or u (k * 4 + 1) 0))) (get_or u (k * 4 + 2) 0) (value_bytes s u k)

unfoldable pub attr_strings_read : List ℕ → List ℕ → List ℕ → ℕ → List ℕ
attr_strings_read s u z zero = z
attr_strings_read s u z (suc k) = attr_written s u (attr_strings_read s u z k) k

pub record AttrReady (s u z : List ℕ) (k : ℕ) : Type 0 where
  pub short : length s ≤ 65536
  pub room : length s ≤ length z
  pub row : k * 4 + 4 ≤ length u
  pub name_fits : get_or u (k * 4) 0 + get_or u (k * 4 + 1) 0 ≤ length s
  pub value-fits : get_or u (k * 4 + 2) 0 + get_or u (k * 4 + 3) 0 ≤ length s

-- ---- the tree by places (`tree/specs/Read`) with its entities read, and the table of its strings
-- the name as it stands, the value with its entities read
unfoldable pub attr_strings : List ℕ → List Attr → List Placed
attr_strings s [] = []
attr_strings s (x ∷ l) =
    record { place = x.name; bytes = string_at s x.name x.name_len }
    ∷ record { place = x.value; bytes = decoded (string_at s x.value x.value_len) }
    ∷ attr_strings s l

-- all strings of a forest in document order
unfoldable pub strings : List ℕ → Forest → List Placed
strings s nil = []
strings s (text p n f) = record { place = p; bytes = decoded (string_at s p n) } ∷ strings s f
strings s (section p n f) = record { place = p; bytes = string_at s p n } ∷ strings s f
strings s (elem p n l c f) = record { place = p + 1; bytes = string_at s (p + 1) n } ∷ (attr_strings s l ++ (strings s c ++ strings s f))

-- the same forest, a text and a value as long as they are with their entities read
unfoldable pub read_attrs : List ℕ → List Attr → List Attr
read_attrs s [] = []
read_attrs s (x ∷ l) =
    record { name = x.name; name_len = x.name_len; value = x.value; value_len = length (decoded (string_at s x.value x.value_len)) }
    ∷ read_attrs s l

unfoldable pub read_forest : List ℕ → Forest → Forest
read_forest s nil = nil
read_forest s (text p n f) = text p (length (decoded (string_at s p n))) (read_forest s f)
read_forest s (section p n f) = section p n (read_forest s f)
read_forest s (elem p n l c f) = elem p n (read_attrs s l) (read_forest s c) (read_forest s f)

-- with tables of n, m and z cells
unfoldable pub raw : List ℕ → ℕ → ℕ → ℕ → Out
raw s n m z = cond (ltb z 65536) (bad 1 0) (meaning s n m)

unfoldable pub read_out : List ℕ → Out → Out
read_out s (got f q k a) = got (read_forest s f) q k a
read_out s (nothing q) = nothing q
read_out s (bad i q) = bad i q

unfoldable pub strings_of : ℕ → List ℕ → Out → List ℕ
strings_of z s (got f q k a) = lay (replicate z 0) (strings s f)
strings_of z s (nothing q) = replicate z 0
strings_of z s (bad i q) = replicate z 0
