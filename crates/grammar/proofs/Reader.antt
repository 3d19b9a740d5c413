-- A reader of trees on lists, after the Rust's `parse_xml`, without the limits (numbers 4, 5 and 7): a means of proof.
-- Each loop of the Rust is a step that takes the loop's next round as a function, and a count that bounds the rounds; the count never
-- runs out (number 0 is never given). A test is handed to a function by clauses (`..As`), so that only the branch taken is computed.
use Prim.Native.Nat.{ℕ, zero, suc, ◌-◌}
use mathlib.Core.Bool.{Bool, true, false, cond, ◌||◌}
use mathlib.Core.List.{List, [], ◌∷◌}
use lib.ListN.{length, drop}
use lib.Dec.{eqb}
use Rattle.scan.specs.Bytes.{blank, text_byte, name_byte, attr_name_byte, other}
use Rattle.grammar.specs.Words.{Bytes}
use Rattle.grammar.specs.Tree.{Attr, attr, Tree, text, section, element, Forest, none, more, quote}
use Rattle.grammar.specs.Tree.{`<`, `</`, `<?`, `<!`, `<!--`, `-->`, `<![CDATA[`, `]]>`}
use Rattle.grammar.specs.Grammar.{Before, a_comment, no_comment}
use Rattle.grammar.specs.Demand.{Result, tree, refused}
use Rattle.grammar.specs.Scan.{run, past, prefix, before, beyond}

-- what is read and what is left; or a number, and how many bytes are left at its place
pub data Res (A : Type 0) : Type 0 where
  ok : A → Bytes → Res A
  bad : (number left : ℕ) → Res A

abbrev pub next : {A B : Type 0} → Res A → (A → Bytes → Res B) → Res B
next (ok a r) f = f a r
next (bad n l) f = bad n l

abbrev pub map_res : {A B : Type 0} → (A → B) → Res A → Res B
map_res f (ok a r) = ok (f a) r
map_res f (bad n l) = bad n l

-- ---- start tags

-- the value at s; `k` bytes are left at the `=`
unfoldable pub value_as : Bool → ℕ → Bytes → Res Bytes
unfolding run past name_byte
value_as true q s = ok (run (other q) s) (drop 1 (past (other q) s))
value_as false q s = ok (run name_byte (q ∷ s)) (past name_byte (q ∷ s))

unfoldable pub read_value : ℕ → Bytes → Res Bytes
unfolding value_as quote
read_value k [] = bad 9 k
read_value k (q ∷ s) = value_as (quote q) q s

unfoldable pub after_name_as : Bool → Bytes → ℕ → Bytes → Res Attr
unfolding read_value
after_name_as true n a s = map_res (attr n) (read_value (suc (length s)) (past blank s))
after_name_as false n a s = ok (attr n []) (a ∷ s)

unfoldable pub after_name : Bytes → Bytes → Res Attr
unfolding after_name_as
after_name n [] = ok (attr n []) []
after_name n (a ∷ s) = after_name_as (eqb a 61) n a s

unfoldable pub read_attribute : Bytes → Res Attr
unfolding after_name
read_attribute s = after_name (run attr_name_byte s) (past blank (past attr_name_byte s))

abbrev pub tag_end : ℕ → Bool
tag_end a = eqb a 62 || eqb a 47

unfoldable pub attributes_as : (Bytes → Res (List Attr)) → Bool → Bytes → Res (List Attr)
unfolding read_attribute
attributes_as rec true s = ok [] s
attributes_as rec false s = next (read_attribute s) (λ a r. map_res (a ∷◌) (rec (past blank r)))

unfoldable pub attributes_step : (Bytes → Res (List Attr)) → Bytes → Res (List Attr)
unfolding attributes_as
attributes_step rec [] = bad 10 0
attributes_step rec (a ∷ s) = attributes_as rec (tag_end a) (a ∷ s)

unfoldable pub read_attributes : ℕ → Bytes → Res (List Attr)
unfolding attributes_step
read_attributes zero s = bad 0 0
read_attributes (suc n) s = attributes_step (λ r. read_attributes n r) s

unfoldable pub slash_as : Bool → ℕ → Tree → Bytes → Res Tree
slash_as true k t s = ok t s
slash_as false k t s = bad 8 k

unfoldable pub after_slash : ℕ → Tree → Bytes → Res Tree
unfolding slash_as
after_slash k t [] = bad 8 k
after_slash k t (a ∷ s) = slash_as (eqb a 62) k t s

unfoldable pub opened_as : (Bytes → Res Forest) → Bool → Bytes → List Attr → Bytes → Res Tree
unfolding after_slash
opened_as rec true n l s = map_res (element n l) (rec s)
opened_as rec false n l s = after_slash (suc (length s)) (element n l none) (past blank s)

unfoldable pub after_opening : (Bytes → Res Forest) → Bytes → List Attr → Bytes → Res Tree
unfolding opened_as
after_opening rec n l [] = bad 10 0
after_opening rec n l (a ∷ s) = opened_as rec (eqb a 62) n l s

unfoldable pub after_tag_name : (Bytes → Res Forest) → ℕ → Bytes → Bytes → Res Tree
unfolding read_attributes after_opening
after_tag_name rec k [] r = bad 6 k
after_tag_name rec k (a ∷ n) r = next (read_attributes (suc (length r)) r) (after_opening rec (a ∷ n))

-- the element whose `<` stands before s
unfoldable pub read_element : (Bytes → Res Forest) → Bytes → Res Tree
unfolding after_tag_name
read_element rec s = after_tag_name rec (suc (length s)) (run name_byte s) (past blank (past name_byte s))

-- ---- nodes

pub data NodeKind : Type 0 where
  as_text as_section as_element : NodeKind

pub data Kind : Type 0 where
  as_close as_comment : Kind
  as_node : NodeKind → Kind

abbrev pub kind : Bytes → Kind
kind s =
    cond (prefix `</` s) as_close
    (cond (prefix `<!--` s) as_comment (cond (prefix `<![CDATA[` s) (as_node as_section)
    (cond (prefix `<` s) (as_node as_element) (as_node as_text))))

unfoldable pub node_as : (Bytes → Res Forest) → NodeKind → Bytes → Res Tree
unfolding read_element before beyond
node_as rec as_text s = ok (text (run text_byte s)) (past text_byte s)
node_as rec as_section s = ok (section (before `]]>` (drop 9 s))) (beyond `]]>` (drop 9 s))
node_as rec as_element s = read_element rec (drop 1 s)

unfoldable pub after_close : ℕ → Bytes → Res Forest
after_close k [] = bad 11 k
after_close k (a ∷ s) = ok none s

unfoldable pub content_as_lem : (Before → Bytes → Res Forest) → Before → Kind → Bytes → Res Forest
unfolding node_as after_close
content_as_lem rec no_comment as_close s = after_close (length s) (past (other 62) s)
content_as_lem rec a_comment as_close s = ok none s
content_as_lem rec p as_comment s = rec a_comment (beyond `-->` s)
content_as_lem rec p (as_node k) s = next (node_as (rec no_comment) k s) (λ t r. map_res (more t) (rec no_comment r))

unfoldable pub content_step_lem : (Before → Bytes → Res Forest) → Before → Bytes → Res Forest
unfolding content_as_lem
content_step_lem rec p [] = ok none []
content_step_lem rec p (a ∷ s) = content_as_lem rec p (kind (a ∷ s)) (a ∷ s)

unfoldable pub read_content : ℕ → Before → Bytes → Res Forest
unfolding content_step_lem
read_content zero p s = bad 0 0
read_content (suc n) p s = content_step_lem (λ q r. read_content n q r) p s

unfoldable pub nodes_as : (Bytes → Res Forest) → (Bytes → Res Forest) → Kind → Bytes → Res Forest
unfolding node_as
nodes_as content rec as_close s = ok none s
nodes_as content rec as_comment s = rec (beyond `-->` s)
nodes_as content rec (as_node k) s = next (node_as content k s) (λ t r. map_res (more t) (rec r))

unfoldable pub nodes_step : (Bytes → Res Forest) → (Bytes → Res Forest) → Bytes → Res Forest
unfolding nodes_as
nodes_step content rec [] = ok none []
nodes_step content rec (a ∷ s) = nodes_as content rec (kind (a ∷ s)) (a ∷ s)

unfoldable pub read_nodes_lem : ℕ → Bytes → Res Forest
unfolding nodes_step
read_nodes_lem zero s = bad 0 0
read_nodes_lem (suc n) s = nodes_step (λ r. read_content n no_comment r) (λ r. read_nodes_lem n r) s

-- ---- the prolog

pub data PieceKind : Type 0 where
  blank-byte : PieceKind
  to_mark : (b : ℕ) (m : Bytes) → PieceKind
  no_more : PieceKind

abbrev pub piece_kind : Bytes → PieceKind
piece_kind [] = no_more
piece_kind (a ∷ s) =
    cond (blank a) blank-byte
    (cond (prefix `<?` (a ∷ s)) (to_mark 63 (62 ∷ []))
    (cond (prefix `<!--` (a ∷ s)) (to_mark 45 (45 ∷ 62 ∷ []))
    (cond (prefix `<!` (a ∷ s)) (to_mark 62 []) no_more)))

unfoldable pub prolog_as : (Bytes → Bytes) → PieceKind → Bytes → Bytes
unfolding beyond
prolog_as rec blank-byte s = rec (drop 1 s)
prolog_as rec (to_mark b m) s = rec (beyond (b ∷ m) s)
prolog_as rec no_more s = s

unfoldable pub past_prolog : ℕ → Bytes → Bytes
unfolding prolog_as
past_prolog zero s = s
past_prolog (suc n) s = prolog_as (λ r. past_prolog n r) (piece_kind s) s

-- ---- the reader

-- the reader's answer for a text of `size` bytes: the place is where that many bytes are left
abbrev pub finish : (size : ℕ) → Res Forest → Result
finish size (ok f r) = tree f
finish size (bad n l) = refused n (size - l)

unfoldable pub read_document : Bytes → Result
unfolding past_prolog read_nodes_lem
read_document s = let r = past_prolog (suc (length s)) s in finish (length s) (read_nodes_lem (suc (length r)) r)
