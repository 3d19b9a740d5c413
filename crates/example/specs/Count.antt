-- How many attributes the first top-level tt of a text has. Definitions alone.
use Rattle.std.specs.Prelude.{ℕ, ◌≡◌, List, length}
use Rattle.scan.specs.Text.{ascii}
use Rattle.entities.specs.Decode.{decoded}
use Rattle.grammar.specs.Tree.{Forest}
use Rattle.grammar.specs.Demand.{decode_forest}
use Rattle.xml.specs.Promise.{Tables, AllZero, Takes, places_of, HoldsTree}
use Rattle.xml.specs.Find.{FoundElement, found, absent, find_element}

abbrev pub tt : List ℕ
tt = ascii "tt"

unfoldable pub attributes : FoundElement → ℕ
attributes (found name l content) = length l
attributes absent = 0

-- in a tree: 0 if it has no top-level tt
unfoldable pub count_in : Forest → ℕ
count_in f = attributes (find_element tt f)

-- r is the count in the tree that the text derives within the limits, with its entities read, and the tables hold that tree; where the text
-- meets one of document 01's numbers 1 to 11, of which 1 looks at the tables, r is 0 and every cell is zero: as `parse_xml` leaves them
pub record Counts (text : List ℕ) (lent : Tables) (r : ℕ) (left : Tables) : Type 0 where
  pub derived : (f : Forest) → Takes text lent f → r ≡ count_in (decode_forest decoded f)
  pub tree : (f : Forest) (d : Takes text lent f) → HoldsTree text lent left f (places_of d.derives.derived)
  pub otherwise : ((f : Forest) → ¬ Takes text lent f) → r ≡ 0
  pub cleared : ((f : Forest) → ¬ Takes text lent f) → AllZero lent left
