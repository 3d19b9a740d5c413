-- The reader on lists with the limits: it counts how many elements, nodes and attributes may still begin (numbers 4, 5 and 7): a means of
-- proof.
-- A name that ends in L is that of the reader without limits, with the counts.
use Prim.Native.Nat.{ℕ, zero, suc, ◌-◌}
use mathlib.Core.Bool.{Bool, true, false}
use mathlib.Core.List.{List, [], ◌∷◌}
use lib.ListN.{length, drop}
use lib.Dec.{eqb, leb}
use Rattle.scan.specs.Bytes.{blank, text_byte, name_byte, other}
use Rattle.grammar.specs.Words.{Bytes}
use Rattle.grammar.specs.Tree.{Attr, Tree, text, section, element, Forest, none, more}
use Rattle.grammar.specs.Tree.{`-->`, `]]>`}
use Rattle.grammar.specs.Grammar.{Before, a_comment, no_comment}
use Rattle.grammar.specs.Demand.{Result, tree, refused, decode_forest}
use Rattle.grammar.specs.Scan.{run, past, before, beyond}
use Rattle.grammar.proofs.Reader.{Res, ok, bad, read_attribute, tag_end, after_slash}
use Rattle.grammar.proofs.Reader.{NodeKind, as_text, as_section, as_element, Kind, as_close, as_comment, as_node, kind, after_close, past_prolog}

-- what is read, how many nodes and attributes may still begin, and what is left
pub data LRes (A : Type 0) : Type 0 where
  lok : A → (k j : ℕ) → Bytes → LRes A
  lbad : (number left : ℕ) → LRes A

abbrev pub lnext : {A B : Type 0} → LRes A → (A → ℕ → ℕ → Bytes → LRes B) → LRes B
lnext (lok a k j r) f = f a k j r
lnext (lbad n l) f = lbad n l

abbrev pub lmap : {A B : Type 0} → (A → B) → LRes A → LRes B
lmap f (lok a k j r) = lok (f a) k j r
lmap f (lbad n l) = lbad n l

abbrev pub lift : {A B : Type 0} → Res A → (A → Bytes → LRes B) → LRes B
lift (ok a r) f = f a r
lift (bad n l) f = lbad n l

abbrev pub Counted : Type 0 → Type 0
Counted A = (k j : ℕ) → Bytes → LRes A

unfoldable pub attributes_as_l : Counted (List Attr) → Bool → Counted (List Attr)
attributes_as_l rec true k j s = lok [] k j s
attributes_as_l rec false k zero s = lbad 7 (length s)
attributes_as_l rec false k (suc j) s = lift (read_attribute s) (λ a r. lmap (a ∷◌) (rec k j (past blank r)))

unfoldable pub attributes_step_l : Counted (List Attr) → Counted (List Attr)
unfolding attributes_as_l
attributes_step_l rec k j [] = lbad 10 0
attributes_step_l rec k j (a ∷ s) = attributes_as_l rec (tag_end a) k j (a ∷ s)

unfoldable pub attributes_l : ℕ → Counted (List Attr)
unfolding attributes_step_l
attributes_l zero k j s = lbad 0 0
attributes_l (suc n) k j s = attributes_step_l (λ k j r. attributes_l n k j r) k j s

unfoldable pub opened_as_l : Counted Forest → Bool → Bytes → List Attr → Counted Tree
opened_as_l rec true n l k j s = lmap (element n l) (rec k j s)
opened_as_l rec false n l k j s = lift (after_slash (suc (length s)) (element n l none) (past blank s)) (λ t r. lok t k j r)

unfoldable pub after_opening_l : Counted Forest → Bytes → List Attr → Counted Tree
unfolding opened_as_l
after_opening_l rec n l k j [] = lbad 10 0
after_opening_l rec n l k j (a ∷ s) = opened_as_l rec (eqb a 62) n l k j s

unfoldable pub after_tag_name_l : Counted Forest → ℕ → Bytes → Counted Tree
unfolding attributes_l after_opening_l
after_tag_name_l rec i [] k j r = lbad 6 i
after_tag_name_l rec i (a ∷ n) k j r = lnext (attributes_l (suc (length r)) k j r) (λ l k j r. after_opening_l rec (a ∷ n) l k j r)

unfoldable pub element_l : Counted Forest → Counted Tree
unfolding after_tag_name_l
element_l rec k j s = after_tag_name_l rec (suc (length s)) (run name_byte s) k j (past blank (past name_byte s))

-- `d` elements may still open here: 4 goes before 5, and 5 before 6
unfoldable pub node_l : (ℕ → Counted Forest) → NodeKind → ℕ → Counted Tree
unfolding element_l
node_l rec as_text d zero j s = lbad 5 (length s)
node_l rec as_text d (suc k) j s = lok (text (run text_byte s)) k j (past text_byte s)
node_l rec as_section d zero j s = lbad 5 (length s)
node_l rec as_section d (suc k) j s = lok (section (before `]]>` (drop 9 s))) k j (beyond `]]>` (drop 9 s))
node_l rec as_element zero k j s = lbad 4 (length s)
node_l rec as_element (suc d) zero j s = lbad 5 (length s)
node_l rec as_element (suc d) (suc k) j s = element_l (rec d) k j (drop 1 s)

unfoldable pub content_as_l : (ℕ → Before → Counted Forest) → ℕ → Before → Kind → Counted Forest
unfolding node_l
content_as_l rec d no_comment as_close k j s = lift (after_close (length s) (past (other 62) s)) (λ f r. lok f k j r)
content_as_l rec d a_comment as_close k j s = lok none k j s
content_as_l rec d p as_comment k j s = rec d a_comment k j (beyond `-->` s)
content_as_l rec d p (as_node i) k j s = lnext (node_l (λ d. rec d no_comment) i d k j s) (λ t k j r. lmap (more t) (rec d no_comment k j r))

unfoldable pub content_step_l : (ℕ → Before → Counted Forest) → ℕ → Before → Counted Forest
unfolding content_as_l
content_step_l rec d p k j [] = lok none k j []
content_step_l rec d p k j (a ∷ s) = content_as_l rec d p (kind (a ∷ s)) k j (a ∷ s)

unfoldable pub content_l : ℕ → ℕ → Before → Counted Forest
unfolding content_step_l
content_l zero d p k j s = lbad 0 0
content_l (suc n) d p k j s = content_step_l (λ d p k j r. content_l n d p k j r) d p k j s

unfoldable pub nodes_as_l : (ℕ → Counted Forest) → (ℕ → Counted Forest) → ℕ → Kind → Counted Forest
unfolding node_l
nodes_as_l content rec d as_close k j s = lok none k j s
nodes_as_l content rec d as_comment k j s = rec d k j (beyond `-->` s)
nodes_as_l content rec d (as_node i) k j s = lnext (node_l content i d k j s) (λ t k j r. lmap (more t) (rec d k j r))

unfoldable pub nodes_step_l : (ℕ → Counted Forest) → (ℕ → Counted Forest) → ℕ → Counted Forest
unfolding nodes_as_l
nodes_step_l content rec d k j [] = lok none k j []
nodes_step_l content rec d k j (a ∷ s) = nodes_as_l content rec d (kind (a ∷ s)) k j (a ∷ s)

unfoldable pub nodes_l : ℕ → ℕ → Counted Forest
unfolding nodes_step_l content_l
nodes_l zero d k j s = lbad 0 0
nodes_l (suc n) d k j s = nodes_step_l (λ d k j r. content_l n d no_comment k j r) (λ d k j r. nodes_l n d k j r) d k j s

abbrev pub finish_l : (size : ℕ) → LRes Forest → Result
finish_l size (lok f k j r) = tree f
finish_l size (lbad n l) = refused n (size - l)

-- the reader, where d elements may stand one inside the other, and k nodes and j attributes may begin
unfoldable pub read_document_l : (d k j : ℕ) → Bytes → Result
unfolding past_prolog nodes_l
read_document_l d k j s = let r = past_prolog (suc (length s)) s in finish_l (length s) (nodes_l (suc (length r)) d k j r)

-- document 01's own: 64 deep, 8,192 nodes, 8,192 attributes; the text's length is tested before (number 2)
unfoldable pub text_as : Bool → Bytes → Result
unfolding read_document_l
text_as true s = read_document_l 64 8192 8192 s
text_as false s = refused 2 0

unfoldable pub read_text_lem : Bytes → Result
unfolding text_as
read_text_lem s = text_as (leb (length s) 65536) s

-- with entities read
abbrev pub decode_result : (Bytes → Bytes) → Result → Result
decode_result decode (tree f) = tree (decode_forest decode f)
decode_result decode (refused n p) = refused n p

unfoldable pub tree_reader : (Bytes → Bytes) → Bytes → Result
unfolding read_text_lem
tree_reader decode s = decode_result decode (read_text_lem s)
