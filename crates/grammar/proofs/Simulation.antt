-- The reader with the limits and the one without go in step, so the first takes a text exactly if the tree that the grammar derives is within
-- the limits. Assumes nothing.
--     attributes-sim, element-sim, node-sim, content_sim, nodes-sim
--     within-exactly         for any limits
--     text-exactly           for document 01's
use mathlib.Core.Path.{◌≡◌, subst}
use Prim.Native.Nat.{ℕ, zero, suc, ◌+◌, ◌≤◌}
use native.Mathlib.Omega.{arith}
use mathlib.Core.Logic.{◌↔◌}
use mathlib.Core.Bool.{Bool, true, false}
use mathlib.Core.List.{List, [], ◌∷◌}
use lib.ListN.{length, drop}
use lib.Dec.{eqb, leb, leb→le, le→leb}
use Rattle.scan.specs.Bytes.{blank, text_byte, name_byte, other}
use Rattle.grammar.specs.Words.{Bytes}
use Rattle.grammar.specs.Tree.{Attr, Tree, text, section, element, Forest, none, more}
use Rattle.grammar.specs.Tree.{`-->`, `]]>`}
use Rattle.grammar.specs.Grammar.{Before, a_comment, no_comment, Document}
use Rattle.grammar.specs.Limits.{tree_nodes, nodes, tree_attrs, attrs, tree_depth, depth, Within}
use Rattle.grammar.specs.Demand.{tree}
use Rattle.grammar.specs.Scan.{run, past, before, beyond}
use Rattle.grammar.proofs.Reader.{Res, next, map_res, read_attribute, tag_end, attributes_as, attributes_step, read_attributes, slash_as}
use Rattle.grammar.proofs.Reader.{after_slash, opened_as, after_opening, after_tag_name, read_element, NodeKind, Kind, kind, node_as, after_close}
use Rattle.grammar.proofs.Reader.{content_as_lem, content_step_lem, read_content, nodes_as, nodes_step, read_nodes_lem, past_prolog, finish, read_document, ok}
use Rattle.grammar.proofs.Reader.{bad, as_text, as_section, as_element, as_close, as_comment, as_node}
use Rattle.grammar.proofs.Counted.{LRes, lnext, lmap, lift, Counted, attributes_as_l, attributes_step_l, attributes_l, opened_as_l, after_opening_l}
use Rattle.grammar.proofs.Counted.{after_tag_name_l, element_l, node_l, content_as_l, content_step_l, content_l, nodes_as_l, nodes_step_l, nodes_l}
use Rattle.grammar.proofs.Counted.{finish_l, read_document_l, text_as, read_text_lem, lok, lbad}
use Rattle.scan.proofs.Every.{by-test}
use Rattle.grammar.proofs.Tests.{T→is, is→T, not_both}
use Rattle.grammar.proofs.Complete.{complete}
use Rattle.grammar.proofs.Sound.{sound}

-- ---- attributes

-- the reader without limits gives u, the one with limits gives v: the same, and the counts have fallen by what was read; or u is
-- past a limit; or both fail
pub data Sim {A : Type 0} (dep nod att : A → ℕ) (d k j : ℕ) : Res A → LRes A → Type 0 where
  same : (a : A) (k' j' : ℕ) {r : Bytes} → dep a ≤ d → k ≡ nod a + k' → j ≡ att a + j' → Sim dep nod att d k j (ok a r) (lok a k' j' r)
  over : (a : A) {r : Bytes} {n l : ℕ} → ¬ ((dep a ≤ d) × (nod a ≤ k) × (att a ≤ j)) → Sim dep nod att d k j (ok a r) (lbad n l)
  fails : {n l n' l' : ℕ} → Sim dep nod att d k j (bad n l) (lbad n' l')

abbrev pub SimA : (k j : ℕ) → Res (List Attr) → LRes (List Attr) → Type 0
SimA k j u v = Sim {A = List Attr} (λ l. 0) (λ l. 0) length 0 k j u v

abbrev pub SimT : (d k j : ℕ) → Res Tree → LRes Tree → Type 0
SimT d k j u v = Sim tree_depth tree_nodes tree_attrs d k j u v

abbrev pub SimF : (d k j : ℕ) → Res Forest → LRes Forest → Type 0
SimF d k j u v = Sim depth nodes attrs d k j u v

pub attr-more : (k j : ℕ) (a : Attr) (u : Res (List Attr)) (v : LRes (List Attr)) → SimA k j u v → SimA k (suc j) (map_res (a ∷◌) u) (lmap (a ∷◌) v)
attr-more k j a u v (same l k' j' x y z) = same (a ∷ l) k' j' (omega arith) y (omega arith)
attr-more k j a u v (over l h) = over (a ∷ l) (λ q. h (omega arith, omega arith, omega (arith, q.2)))
attr-more k j a u v fails = fails

pub attr-none : (k l : ℕ) (a : Attr) (u : Res (List Attr)) → SimA k 0 (map_res (a ∷◌) u) (lbad 7 l)
attr-none k l a (ok x r) = over (a ∷ x) (λ q. omega (arith, q.2))
attr-none k l a (bad x y) = fails

pub attr-next : (rec : Bytes → Res (List Attr)) (recL : Counted (List Attr)) → ((k j : ℕ) (r : Bytes) → SimA k j (rec r) (recL k j r))
    → (k j l : ℕ) (s : Bytes) (x : Res Attr) → SimA k (suc j) (next x (λ a r. map_res (a ∷◌) (rec (past blank r))))
    (lift x (λ a r. lmap (a ∷◌) (recL k j (past blank r))))
attr-next rec recL ih k j l s (ok a r) = attr-more k j a (rec (past blank r)) (recL k j (past blank r)) (ih k j (past blank r))
attr-next rec recL ih k j l s (bad x y) = fails

pub attr-stop : (rec : Bytes → Res (List Attr)) (k l : ℕ) (x : Res Attr) → SimA k 0 (next x (λ a r. map_res (a ∷◌) (rec (past blank r)))) (lbad 7 l)
attr-stop rec k l (ok a r) = attr-none k l a (rec (past blank r))
attr-stop rec k l (bad x y) = fails

pub attr-as : (rec : Bytes → Res (List Attr)) (recL : Counted (List Attr)) → ((k j : ℕ) (r : Bytes) → SimA k j (rec r) (recL k j r))
    → (b : Bool) (k j : ℕ) (s : Bytes) → SimA k j (attributes_as rec b s) (attributes_as_l recL b k j s)
unfolding attributes_as attributes_as_l
attr-as rec recL ih true k j s = same [] k j (omega arith) (omega arith) (omega arith)
attr-as rec recL ih false k zero s = attr-stop rec k (length s) (read_attribute s)
attr-as rec recL ih false k (suc j) s = attr-next rec recL ih k j 0 s (read_attribute s)

pub attributes-sim : (n k j : ℕ) (s : Bytes) → SimA k j (read_attributes n s) (attributes_l n k j s)
unfolding read_attributes attributes_step attributes_l attributes_step_l
attributes-sim zero k j s = fails
attributes-sim (suc n) k j [] = fails
attributes-sim (suc n) k j (a ∷ s) =
    attr-as (λ r. read_attributes n r) (λ k j r. attributes_l n k j r) (λ k j r. attributes-sim n k j r) (tag_end a) k j (a ∷ s)

-- ---- elements: the node itself and its depth are counted by `node-sim`

-- an element whose attributes are read, with what is left for them
pub data SimE (l : List Attr) (d k j : ℕ) : Res Tree → LRes Tree → Type 0 where
  same : (n : Bytes) (f : Forest) (k' j' : ℕ) {r : Bytes} → depth f ≤ d → k ≡ nodes f + k' → j ≡ attrs f + j'
      → SimE l d k j (ok (element n l f) r) (lok (element n l f) k' j' r)
  over : (n : Bytes) (f : Forest) {r : Bytes} {x y : ℕ} → ¬ ((depth f ≤ d) × (nodes f ≤ k) × (attrs f ≤ j))
      → SimE l d k j (ok (element n l f) r) (lbad x y)
  fails : {x y x' y' : ℕ} → SimE l d k j (bad x y) (lbad x' y')

pub element-map : (n : Bytes) (l : List Attr) (d k j : ℕ) (u : Res Forest) (v : LRes Forest) → SimF d k j u v
    → SimE l d k j (map_res (element n l) u) (lmap (element n l) v)
element-map n l d k j u v (same f k' j' x y z) = same n f k' j' x y z
element-map n l d k j u v (over f h) = over n f h
element-map n l d k j u v fails = fails

pub slash-sim : (n : Bytes) (l : List Attr) (d k j i : ℕ) (s : Bytes)
    → SimE l d k j (after_slash i (element n l none) s) (lift (after_slash i (element n l none) s) (λ t r. lok t k j r))
unfolding after_slash slash_as depth nodes attrs
slash-sim n l d k j i [] = fails
slash-sim n l d k j i (a ∷ s) = by-test (eqb a 62) (λ e. rw e (same n none k j (omega arith) (omega arith) (omega arith))) (λ e. rw e fails)

pub opened-sim : (d : ℕ) (rec : Bytes → Res Forest) (recL : Counted Forest) → ((k j : ℕ) (r : Bytes) → SimF d k j (rec r) (recL k j r))
    → (n : Bytes) (l : List Attr) (k j : ℕ) (s : Bytes) → SimE l d k j (after_opening rec n l s) (after_opening_l recL n l k j s)
unfolding after_opening opened_as after_opening_l opened_as_l
opened-sim d rec recL ih n l k j [] = fails
opened-sim d rec recL ih n l k j (a ∷ s) =
    by-test (eqb a 62) (λ e. rw e (element-map n l d k j (rec s) (recL k j s) (ih k j s)))
    (λ e. rw e (slash-sim n l d k j (suc (length s)) (past blank s)))

-- an element, with what is left for its attributes and its content
pub data SimX (d k j : ℕ) : Res Tree → LRes Tree → Type 0 where
  same : (n : Bytes) (l : List Attr) (f : Forest) (k' j' : ℕ) {r : Bytes} → depth f ≤ d → k ≡ nodes f + k' → j ≡ length l + attrs f + j'
      → SimX d k j (ok (element n l f) r) (lok (element n l f) k' j' r)
  over : (n : Bytes) (l : List Attr) (f : Forest) {r : Bytes} {x y : ℕ} → ¬ ((depth f ≤ d) × (nodes f ≤ k) × (length l + attrs f ≤ j))
      → SimX d k j (ok (element n l f) r) (lbad x y)
  fails : {x y x' y' : ℕ} → SimX d k j (bad x y) (lbad x' y')

pub element-paid : (l : List Attr) (d k j k' j' : ℕ) (u : Res Tree) (v : LRes Tree) → SimE l d k' j' u v → k ≡ 0 + k' → j ≡ length l + j'
    → SimX d k j u v
element-paid l d k j k₀ j₀ u v (same n f k' j' x y z) p q = same n l f k' j' x (omega arith) (omega arith)
element-paid l d k j k₀ j₀ u v (over n f h) p q = over n l f (λ w. h (w.0, omega (arith, w.1), omega (arith, w.2)))
element-paid l d k j k₀ j₀ u v fails p q = fails

pub element-over : (l : List Attr) (d k j k' j' x y : ℕ) (u : Res Tree) (v : LRes Tree) → SimE l d k' j' u v → ¬ (length l ≤ j)
    → SimX d k j u (lbad x y)
element-over l d k j k₀ j₀ x y u v (same n f k' j' a b c) h = over n l f (λ w. h (omega (arith, w.2)))
element-over l d k j k₀ j₀ x y u v (over n f g) h = over n l f (λ w. h (omega (arith, w.2)))
element-over l d k j k₀ j₀ x y u v fails h = fails

module _ (d : ℕ) (rec : Bytes → Res Forest) (recL : Counted Forest) (ih : (k j : ℕ) (r : Bytes) → SimF d k j (rec r) (recL k j r)) where
  pub tag-next : (n : Bytes) (k j : ℕ) (u : Res (List Attr)) (v : LRes (List Attr)) → SimA k j u v
      → SimX d k j (next u (after_opening rec n)) (lnext v (λ l k j r. after_opening_l recL n l k j r))
  tag-next n k j u v (same l k' j' {r} x y z) =
      element-paid l d k j k' j' (after_opening rec n l r) (after_opening_l recL n l k' j' r) (opened-sim d rec recL ih n l k' j' r) y z
  tag-next n k j u v (over l {r} h) =
      element-over l d k j 0 0 _ _ (after_opening rec n l r) (after_opening_l recL n l 0 0 r) (opened-sim d rec recL ih n l 0 0 r)
      (λ q. h (omega arith, omega arith, q))
  tag-next n k j u v fails = fails

  pub tag-sim : (i : ℕ) (n : Bytes) (k j : ℕ) (r : Bytes) → SimX d k j (after_tag_name rec i n r) (after_tag_name_l recL i n k j r)
  unfolding after_tag_name after_tag_name_l
  tag-sim i [] k j r = fails
  tag-sim i (a ∷ n) k j r =
      tag-next (a ∷ n) k j (read_attributes (suc (length r)) r) (attributes_l (suc (length r)) k j r) (attributes-sim (suc (length r)) k j r)

  pub element-sim : (k j : ℕ) (s : Bytes) → SimX d k j (read_element rec s) (element_l recL k j s)
  unfolding read_element element_l
  element-sim k j s = tag-sim (suc (length s)) (run name_byte s) k j (past blank (past name_byte s))

-- ---- nodes

-- a node that may not begin
pub no_node : (d k j x y : ℕ) (u : Res Tree) (v : LRes Tree) → SimX d k j u v → SimT d 0 j u (lbad x y)
unfolding tree_nodes tree_attrs tree_depth
no_node d k j x y u v (same n l f k' j' a b c) = over (element n l f) (λ w. omega (arith, w.1))
no_node d k j x y u v (over n l f h) = over (element n l f) (λ w. omega (arith, w.1))
no_node d k j x y u v fails = fails

-- an element that may not open
pub no_element : (d k k₀ j x y : ℕ) (u : Res Tree) (v : LRes Tree) → SimX d k j u v → SimT 0 k₀ j u (lbad x y)
unfolding tree_nodes tree_attrs tree_depth
no_element d k k₀ j x y u v (same n l f k' j' a b c) = over (element n l f) (λ w. omega (arith, w.0))
no_element d k k₀ j x y u v (over n l f h) = over (element n l f) (λ w. omega (arith, w.0))
no_element d k k₀ j x y u v fails = fails

-- an element that may
pub one_element : (d k j : ℕ) (u : Res Tree) (v : LRes Tree) → SimX d k j u v → SimT (suc d) (suc k) j u v
unfolding tree_nodes tree_attrs tree_depth
one_element d k j u v (same n l f k' j' a b c) = same (element n l f) k' j' (omega arith) (omega arith) (omega arith)
one_element d k j u v (over n l f h) = over (element n l f) (λ w. h (omega (arith, w.0), omega (arith, w.1), omega (arith, w.2)))
one_element d k j u v fails = fails

abbrev pub InStep : (Bytes → Res Forest) → (ℕ → Counted Forest) → Type 0
InStep rec recL = (d k j : ℕ) (r : Bytes) → SimF d k j (rec r) (recL d k j r)

pub node-sim : (rec : Bytes → Res Forest) (recL : ℕ → Counted Forest) → InStep rec recL
    → (i : NodeKind) (d k j : ℕ) (s : Bytes) → SimT d k j (node_as rec i s) (node_l recL i d k j s)
unfolding node_as node_l tree_nodes tree_attrs tree_depth
node-sim rec recL ih as_text d zero j s = over (text (run text_byte s)) (λ w. omega (arith, w.1))
node-sim rec recL ih as_text d (suc k) j s = same (text (run text_byte s)) k j (omega arith) (omega arith) (omega arith)
node-sim rec recL ih as_section d zero j s = over (section (before `]]>` (drop 9 s))) (λ w. omega (arith, w.1))
node-sim rec recL ih as_section d (suc k) j s = same (section (before `]]>` (drop 9 s))) k j (omega arith) (omega arith) (omega arith)
node-sim rec recL ih as_element zero k j s =
    no_element 0 0 k j _ _ (read_element rec (drop 1 s)) (element_l (recL 0) 0 j (drop 1 s)) (element-sim 0 rec (recL 0) (ih 0) 0 j (drop 1 s))
node-sim rec recL ih as_element (suc d) zero j s =
    no_node (suc d) 0 j _ _ (read_element rec (drop 1 s)) (element_l (recL (suc d)) 0 j (drop 1 s))
    (element-sim (suc d) rec (recL (suc d)) (ih (suc d)) 0 j (drop 1 s))
node-sim rec recL ih as_element (suc d) (suc k) j s =
    one_element d k j (read_element rec (drop 1 s)) (element_l (recL d) k j (drop 1 s)) (element-sim d rec (recL d) (ih d) k j (drop 1 s))

-- ---- content

pub more-over : (d k j : ℕ) (t : Tree) (x y : ℕ) (u : Res Forest) → ¬ ((tree_depth t ≤ d) × (tree_nodes t ≤ k) × (tree_attrs t ≤ j))
    → SimF d k j (map_res (more t) u) (lbad x y)
unfolding nodes attrs depth
more-over d k j t x y (ok f r) h = over (more t f) (λ w. h (omega (arith, w.0), omega (arith, w.1), omega (arith, w.2)))
more-over d k j t x y (bad n l) h = fails

pub more_same : (d k j k₀ j₀ : ℕ) (t : Tree) (u : Res Forest) (v : LRes Forest) → tree_depth t ≤ d → k ≡ tree_nodes t + k₀ → j ≡ tree_attrs t + j₀
    → SimF d k₀ j₀ u v
    → SimF d k j (map_res (more t) u) (lmap (more t) v)
unfolding nodes attrs depth
more_same d k j k₀ j₀ t u v p q r (same f k' j' x y z) = same (more t f) k' j' (omega arith) (omega arith) (omega arith)
more_same d k j k₀ j₀ t u v p q r (over f h) = over (more t f) (λ w. h (omega (arith, w.0), omega (arith, w.1), omega (arith, w.2)))
more_same d k j k₀ j₀ t u v p q r fails = fails

pub more-next : (rec : Bytes → Res Forest) (recL : ℕ → Counted Forest) → InStep rec recL → (d k j : ℕ) (u : Res Tree) (v : LRes Tree) → SimT d k j u v
    → SimF d k j (next u (λ t r. map_res (more t) (rec r))) (lnext v (λ t k j r. lmap (more t) (recL d k j r)))
more-next rec recL ih d k j u v (same t k' j' {r} x y z) = more_same d k j k' j' t (rec r) (recL d k' j' r) x y z (ih d k' j' r)
more-next rec recL ih d k j u v (over t {r} h) = more-over d k j t _ _ (rec r) h
more-next rec recL ih d k j u v fails = fails

pub close_sim : (d k j i : ℕ) (s : Bytes) → SimF d k j (after_close i s) (lift (after_close i s) (λ f r. lok f k j r))
unfolding after_close nodes attrs depth
close_sim d k j i [] = fails
close_sim d k j i (a ∷ s) = same none k j (omega arith) (omega arith) (omega arith)

pub none-sim : (d k j : ℕ) (s : Bytes) → SimF d k j (ok none s) (lok none k j s)
unfolding nodes attrs depth
none-sim d k j s = same none k j (omega arith) (omega arith) (omega arith)

pub content_as_sim : (rec : Before → Bytes → Res Forest) (recL : ℕ → Before → Counted Forest)
    → ((p : Before) → InStep (rec p) (λ d. recL d p)) → (d : ℕ) (p : Before) (i : Kind) (k j : ℕ) (s : Bytes)
    → SimF d k j (content_as_lem rec p i s) (content_as_l recL d p i k j s)
unfolding content_as_lem content_as_l
content_as_sim rec recL ih d no_comment as_close k j s = close_sim d k j (length s) (past (other 62) s)
content_as_sim rec recL ih d a_comment as_close k j s = none-sim d k j s
content_as_sim rec recL ih d p as_comment k j s = ih a_comment d k j (beyond `-->` s)
content_as_sim rec recL ih d p (as_node i) k j s =
    more-next (rec no_comment) (λ d. recL d no_comment) (ih no_comment) d k j (node_as (rec no_comment) i s) (node_l (λ d. recL d no_comment) i d k j s)
    (node-sim (rec no_comment) (λ d. recL d no_comment) (ih no_comment) i d k j s)

pub content_sim : (n : ℕ) (p : Before) → InStep (read_content n p) (λ d. content_l n d p)
unfolding read_content content_step_lem content_l content_step_l
content_sim zero p d k j s = fails
content_sim (suc n) p d k j [] = none-sim d k j []
content_sim (suc n) p d k j (a ∷ s) =
    content_as_sim (λ q r. read_content n q r) (λ d p k j r. content_l n d p k j r) (λ q d k j r. content_sim n q d k j r) d p (kind (a ∷ s)) k j (a
    ∷ s)

pub nodes-as_sim : (content rec : Bytes → Res Forest) (content_c recL : ℕ → Counted Forest) → InStep content content_c → InStep rec recL
    → (d : ℕ) (i : Kind) (k j : ℕ) (s : Bytes) → SimF d k j (nodes_as content rec i s) (nodes_as_l content_c recL d i k j s)
unfolding nodes_as nodes_as_l
nodes-as_sim content rec cL recL hc ih d as_close k j s = none-sim d k j s
nodes-as_sim content rec cL recL hc ih d as_comment k j s = ih d k j (beyond `-->` s)
nodes-as_sim content rec cL recL hc ih d (as_node i) k j s =
    more-next rec recL ih d k j (node_as content i s) (node_l cL i d k j s) (node-sim content cL hc i d k j s)

pub nodes-sim : (n : ℕ) → InStep (read_nodes_lem n) (nodes_l n)
unfolding read_nodes_lem nodes_step nodes_l nodes_step_l
nodes-sim zero d k j s = fails
nodes-sim (suc n) d k j [] = none-sim d k j []
nodes-sim (suc n) d k j (a ∷ s) =
    nodes-as_sim (λ r. read_content n no_comment r) (λ r. read_nodes_lem n r) (λ d k j r. content_l n d no_comment k j r) (λ d k j r. nodes_l n d k j r)
    (content_sim n no_comment) (λ d k j r. nodes-sim n d k j r) d (kind (a ∷ s)) k j (a ∷ s)

-- ---- the limits

pub finish_taken : (size d k j : ℕ) (f : Forest) (u : Res Forest) (v : LRes Forest) → SimF d k j u v → finish_l size v ≡ tree f
    → (finish size u ≡ tree f) × Within d k j f
finish_taken size d k j f u v (same g k' j' x y z) e =
    let q : g ≡ f = cc in
    (e, subst (λ h. Within d k j h) q (record { deep = x; many = omega arith; named = omega arith }))
finish_taken size d k j f u v (over g h) e = let z : ◌≡◌ {A = ℕ} 0 1 = cc in absurd (omega arith)
finish_taken size d k j f u v fails e = let z : ◌≡◌ {A = ℕ} 0 1 = cc in absurd (omega arith)

pub finish_within : (size d k j : ℕ) (f : Forest) (u : Res Forest) (v : LRes Forest) → SimF d k j u v → finish size u ≡ tree f → Within d k j f
    → finish_l size v ≡ tree f
finish_within size d k j f u v (same g k' j' x y z) e w = e
finish_within size d k j f u v (over g h) e w =
    let q : f ≡ g = cc in
    let w₂ : Within d k j g = subst (λ h. Within d k j h) q w in
    absurd (h (w₂.deep, w₂.many, w₂.named))
finish_within size d k j f u v fails e w = let z : ◌≡◌ {A = ℕ} 0 1 = cc in absurd (omega arith)

-- The reader with the limits takes a text exactly if the grammar derives a tree for it within them, and gives that tree.
pub within-exactly : (d k j : ℕ) (s : Bytes) (f : Forest) → (read_document_l d k j s ≡ tree f) ↔ (Document s f × Within d k j f)
unfolding read_document_l read_document
within-exactly d k j s f =
    let r : Bytes = past_prolog (suc (length s)) s in
    let n : ℕ = suc (length r) in
    let sim : SimF d k j (read_nodes_lem n r) (nodes_l n d k j r) = nodes-sim n d k j r in (
      (λ e. let q = finish_taken (length s) d k j f (read_nodes_lem n r) (nodes_l n d k j r) sim e in (sound s f q.0, q.1)),
      (λ h. finish_within (length s) d k j f (read_nodes_lem n r) (nodes_l n d k j r) sim (complete h.0) h.1),
    )

-- Whatever text is handed over, the reader takes it exactly if the grammar derives a tree for it within the limits; the tree
-- given is that tree.
pub text-exactly : (s : Bytes) (f : Forest) → (read_text_lem s ≡ tree f) ↔ (Document s f × Within 64 8192 8192 f × (length s ≤ 65536))
unfolding read_text_lem text_as
text-exactly s f = by-test (leb (length s) 65536)
    (λ e. let small : length s ≤ 65536 = leb→le (length s) 65536 (is→T (leb (length s) 65536) e) in
    rw e ((λ q. let h = (within-exactly 64 8192 8192 s f).0 q in (h.0, h.1, small)), (λ h. (within-exactly 64 8192 8192 s f).1 (h.0, h.1))))
    (λ e. rw e (
      (λ q. let z : ◌≡◌ {A = ℕ} 0 1 = cc in absurd (omega arith)),
      (λ h. absurd (not_both (leb (length s) 65536) (T→is (leb (length s) 65536) (le→leb (length s) 65536 h.2)) e)),
    ))
