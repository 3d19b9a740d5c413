-- What a consumer of the two tables walks over. Definitions alone.
use Rattle.std.specs.Prelude.{ℕ, ◌+◌, ◌*◌, ◌≡◌, List, ◌++◌, get_or, drop}
use Rattle.tree.specs.Trees.{Attr, Forest, nil, rows, attr_rows}
use Rattle.tree.specs.Read.{Out, got, nothing, bad}

-- the forest that was read: none after a refusal
unfoldable pub tree_of : Out → Forest
tree_of (got f q k a) = f
tree_of (nothing q) = nil
tree_of (bad n q) = nil

-- ---- node by node
-- the rows of the forest f stand in the table t from row i on, where a attributes stand before
pub record Stands (t : List ℕ) (i a : ℕ) (f : Forest) : Type 0 where
  pub tail : List ℕ
  pub is : drop (i * 6) t ≡ rows i a f ++ tail

-- the cells of row i
pub record RowIs (t : List ℕ) (i kind end place len first many : ℕ) : Type 0 where
  pub kind_is : get_or t (i * 6) 0 ≡ kind
  pub end_is : get_or t (i * 6 + 1) 0 ≡ end
  pub place_is : get_or t (i * 6 + 2) 0 ≡ place
  pub len_is : get_or t (i * 6 + 3) 0 ≡ len
  pub first-is : get_or t (i * 6 + 4) 0 ≡ first
  pub many_is : get_or t (i * 6 + 5) 0 ≡ many

-- the rows of the attributes l stand in the table u from row j on
pub record Listed (u : List ℕ) (j : ℕ) (l : List Attr) : Type 0 where
  pub tail : List ℕ
  pub is : drop (j * 4) u ≡ attr_rows l ++ tail

-- the cells of row j
pub record AttrIs (u : List ℕ) (j : ℕ) (x : Attr) : Type 0 where
  pub name_is : get_or u (j * 4) 0 ≡ x.name
  pub name_len_is : get_or u (j * 4 + 1) 0 ≡ x.name_len
  pub value-is : get_or u (j * 4 + 2) 0 ≡ x.value
  pub value-len_is : get_or u (j * 4 + 3) 0 ≡ x.value_len
