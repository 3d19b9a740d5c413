-- The bound on the rounds of the reader with the limits does not matter where it is large enough, so its readers have the equations of a
-- recursion without one. Assumes nothing.
--     attributes_c, content_c, nodes_c           the readers, with no bound to be seen
--     attributes_c_is, content_c_is, nodes_c_is, read_document_l_is   their equations
use mathlib.Core.Path.{◌≡◌, refl, ap, ◌∙◌}
use Prim.Native.Nat.{ℕ, zero, suc, ◌≤◌, ◌<◌}
use native.Mathlib.Omega.{arith}
use mathlib.Core.Bool.{Bool, true, false}
use mathlib.Core.List.{List, [], ◌∷◌}
use lib.ListN.{length}
use lib.Dec.{eqb}
use Rattle.scan.specs.Bytes.{blank, name_byte}
use Rattle.grammar.specs.Words.{Bytes, Stops}
use Rattle.grammar.specs.Tree.{Attr, Tree, element, Forest, more}
use Rattle.grammar.specs.Tree.{`-->`}
use Rattle.grammar.specs.Grammar.{Before, a_comment, no_comment}
use Rattle.grammar.specs.Scan.{run, past, beyond}
use Rattle.grammar.proofs.Reader.{Res, read_attribute, tag_end, NodeKind, Kind, kind, past_prolog, ok, bad, as_text, as_section, as_element}
use Rattle.grammar.proofs.Reader.{as_close, as_comment, as_node}
use Rattle.grammar.proofs.Counted.{LRes, lnext, lmap, lift, Counted, attributes_as_l, attributes_step_l, attributes_l, opened_as_l, after_opening_l}
use Rattle.grammar.proofs.Counted.{after_tag_name_l, element_l, node_l, content_as_l, content_step_l, content_l, nodes_as_l, nodes_step_l, nodes_l}
use Rattle.grammar.proofs.Counted.{finish_l, read_document_l, lok, lbad}
use Rattle.grammar.proofs.Scans.{past-stops}
use Rattle.grammar.proofs.Sound.{View, view, comments}
use Rattle.grammar.proofs.Ends.{Ends, past-length, attribute-ends, comment-ends}
use Rattle.grammar.proofs.CountedEnds.{EndsL, attributes-end, ContentEnds, node_end, content_end}

-- ---- attributes

attribute-then_same : (N : ℕ) (f g : Counted (List Attr)) → ((k j : ℕ) (r : Bytes) → Stops blank r → length r ≤ N → f k j r ≡ g k j r)
    → (k j : ℕ) (x : Res Attr) → Ends N x → lift x (λ a r. lmap (a ∷◌) (f k j (past blank r))) ≡ lift x (λ a r. lmap (a ∷◌) (g k j (past blank r)))
attribute-then_same N f g q k j (ok a r) e = ap (lmap (a ∷◌)) (q k j (past blank r) (past-stops blank r) (omega (arith, past-length blank r)))
attribute-then_same N f g q k j (bad m l) e = refl

attributes-as_same : (f g : Counted (List Attr)) (a : ℕ) (s : Bytes)
    → ((k j : ℕ) (r : Bytes) → Stops blank r → length r ≤ length s → f k j r ≡ g k j r)
    → blank a ≡ false → (b : Bool) → tag_end a ≡ b → (k j : ℕ) → attributes_as_l f b k j (a ∷ s) ≡ attributes_as_l g b k j (a ∷ s)
unfolding attributes_as_l
attributes-as_same f g a s q u true i k j = refl
attributes-as_same f g a s q u false i k zero = refl
attributes-as_same f g a s q u false i k (suc j) = attribute-then_same (length s) f g q k j (read_attribute (a ∷ s)) (attribute-ends a s u i)

attributes-step_same : (f g : Counted (List Attr)) (k j : ℕ) (s : Bytes) → Stops blank s
    → ((k j : ℕ) (r : Bytes) → Stops blank r → length r < length s → f k j r ≡ g k j r) → attributes_step_l f k j s ≡ attributes_step_l g k j s
unfolding attributes_step_l
attributes-step_same f g k j [] h q = refl
attributes-step_same f g k j (a ∷ s) h q = attributes-as_same f g a s (λ k j r u l. q k j r u (omega arith)) h (tag_end a) refl k j

pub attributes-rounds : (n m k j : ℕ) (s : Bytes) → Stops blank s → length s < n → length s < m → attributes_l n k j s ≡ attributes_l m k j s
unfolding attributes_l
attributes-rounds zero m k j s u h g = absurd (omega (arith, h))
attributes-rounds (suc n) zero k j s u h g = absurd (omega (arith, g))
attributes-rounds (suc n) (suc m) k j s u h g =
    attributes-step_same (λ k j r. attributes_l n k j r) (λ k j r. attributes_l m k j r) k j s u
    (λ k j r v l. attributes-rounds n m k j r v (omega arith) (omega arith))

unfoldable pub attributes_c : Counted (List Attr)
attributes_c k j s = attributes_l (suc (length s)) k j s

pub attributes_c_is : (k j : ℕ) (s : Bytes) → Stops blank s → attributes_c k j s ≡ attributes_step_l attributes_c k j s
unfolding attributes_c attributes_l
attributes_c_is k j s u =
    attributes-step_same (λ k j r. attributes_l (length s) k j r) attributes_c k j s u
    (λ k j r v l. attributes-rounds (length s) (suc (length r)) k j r v l (omega arith))

-- ---- two readers of content that agree on what is shorter than N

module _ (N : ℕ) (f g : Counted Forest) (same : (k j : ℕ) (r : Bytes) → length r < N → f k j r ≡ g k j r) where
  opened-same : (n : Bytes) (l : List Attr) (b : Bool) (k j : ℕ) (s : Bytes) → length s < N → opened_as_l f b n l k j s ≡ opened_as_l g b n l k j s
  unfolding opened_as_l
  opened-same n l true k j s h = ap (lmap (element n l)) (same k j s h)
  opened-same n l false k j s h = refl

  opening-same : (n : Bytes) (l : List Attr) (k j : ℕ) (s : Bytes) → length s ≤ N → after_opening_l f n l k j s ≡ after_opening_l g n l k j s
  unfolding after_opening_l
  opening-same n l k j [] h = refl
  opening-same n l k j (a ∷ s) h = opened-same n l (eqb a 62) k j s (omega arith)

  opening-then_same : (n : Bytes) (M : ℕ) (x : LRes (List Attr)) → EndsL M x → M ≤ N
      → lnext x (λ l k j r. after_opening_l f n l k j r) ≡ lnext x (λ l k j r. after_opening_l g n l k j r)
  opening-then_same n M (lok l k j r) e h = opening-same n l k j r (omega arith)
  opening-then_same n M (lbad x y) e h = refl

  tag_same : (i : ℕ) (n : Bytes) (k j : ℕ) (m : Bytes) → length m ≤ N → after_tag_name_l f i n k j (past blank m)
      ≡ after_tag_name_l g i n k j (past blank m)
  unfolding after_tag_name_l
  tag_same i [] k j m h = refl
  tag_same i (a ∷ n) k j m h =
      let r : Bytes = past blank m in
      opening-then_same (a ∷ n) (length r) (attributes_l (suc (length r)) k j r)
      (attributes-end (suc (length r)) k j r (past-stops blank m) (omega arith))
      (omega (arith, past-length blank m))

  element-same : (k j : ℕ) (s : Bytes) → length s ≤ N → element_l f k j s ≡ element_l g k j s
  unfolding element_l
  element-same k j s h = tag_same (suc (length s)) (run name_byte s) k j (past name_byte s) (omega (arith, past-length name_byte s))

  more_same : (M : ℕ) (x : LRes Tree) → EndsL M x → M < N → lnext x (λ t k j r. lmap (more t) (f k j r))
      ≡ lnext x (λ t k j r. lmap (more t) (g k j r))
  more_same M (lok t k j r) e h = ap (lmap (more t)) (same k j r (omega arith))
  more_same M (lbad x y) e h = refl

pub node-same : (N : ℕ) (f g : ℕ → Counted Forest) → ((d k j : ℕ) (r : Bytes) → length r < N → f d k j r ≡ g d k j r)
    → (i : NodeKind) (d k j a : ℕ) (s : Bytes) → length s ≤ N → node_l f i d k j (a ∷ s) ≡ node_l g i d k j (a ∷ s)
unfolding node_l
node-same N f g q as_text d zero j a s h = refl
node-same N f g q as_text d (suc k) j a s h = refl
node-same N f g q as_section d zero j a s h = refl
node-same N f g q as_section d (suc k) j a s h = refl
node-same N f g q as_element zero k j a s h = refl
node-same N f g q as_element (suc d) zero j a s h = refl
node-same N f g q as_element (suc d) (suc k) j a s h = element-same N (f d) (g d) (q d) k j s h

-- ---- content

abbrev pub Agree : ℕ → (ℕ → Before → Counted Forest) → (ℕ → Before → Counted Forest) → Type 0
Agree N f g = (d : ℕ) (p : Before) (k j : ℕ) (r : Bytes) → length r < N → f d p k j r ≡ g d p k j r

abbrev pub AllEnd : ℕ → (ℕ → Before → Counted Forest) → Type 0
AllEnd N f = (d : ℕ) (p : Before) → ContentEnds N (f d p)

content_as_same : (N : ℕ) (f g : ℕ → Before → Counted Forest) → Agree N f g → AllEnd N f → (d : ℕ) (p : Before) (k j a : ℕ) (s : Bytes) (i : Kind)
    → View (a ∷ s) i → length s < N → content_as_l f d p i k j (a ∷ s) ≡ content_as_l g d p i k j (a ∷ s)
unfolding content_as_l
content_as_same N f g q e d no_comment k j a s as_close v h = refl
content_as_same N f g q e d a_comment k j a s as_close v h = refl
content_as_same N f g q e d p k j a s as_comment (comments b) h = q d a_comment k j (beyond `-->` (a ∷ s)) (omega (arith, comment-ends a s b))
content_as_same N f g q e d p k j a s (as_node i) v h =
    more_same N (f d no_comment) (g d no_comment) (q d no_comment) (length s) (node_l (λ d. f d no_comment) i d k j (a ∷ s))
    (node_end (λ d. f d no_comment) N (λ d. e d no_comment) a s i v d k j (omega arith)) h
    ∙ ap (λ x. lnext x (λ t k j r. lmap (more t) (g d no_comment k j r)))
    (node-same N (λ d. f d no_comment) (λ d. g d no_comment) (λ d. q d no_comment) i d k j a s (omega arith))

content_step_same : (N : ℕ) (f g : ℕ → Before → Counted Forest) → Agree N f g → AllEnd N f → (d : ℕ) (p : Before) (k j : ℕ) (s : Bytes) → length s ≤ N
    → content_step_l f d p k j s ≡ content_step_l g d p k j s
unfolding content_step_l
content_step_same N f g q e d p k j [] h = refl
content_step_same N f g q e d p k j (a ∷ s) h = content_as_same N f g q e d p k j a s (kind (a ∷ s)) (view (a ∷ s)) (omega arith)

-- any bound that is large enough gives the same, a number and its place too
pub content_rounds : (n m d : ℕ) (p : Before) (k j : ℕ) (s : Bytes) → length s < n → length s < m → content_l n d p k j s ≡ content_l m d p k j s
unfolding content_l
content_rounds zero m d p k j s h g = absurd (omega (arith, h))
content_rounds (suc n) zero d p k j s h g = absurd (omega (arith, g))
content_rounds (suc n) (suc m) d p k j s h g =
    content_step_same (length s) (λ d p k j r. content_l n d p k j r) (λ d p k j r. content_l m d p k j r)
    (λ d q k j r l. content_rounds n m d q k j r (omega arith) (omega arith)) (λ d q k j r l. content_end n d q k j r (omega arith)) d p k j s
    (omega arith)

unfoldable pub content_c : ℕ → Before → Counted Forest
content_c d p k j s = content_l (suc (length s)) d p k j s

pub content_c_is : (d : ℕ) (p : Before) (k j : ℕ) (s : Bytes) → content_c d p k j s ≡ content_step_l content_c d p k j s
unfolding content_c content_l
content_c_is d p k j s =
    content_step_same (length s) (λ d p k j r. content_l (length s) d p k j r) content_c
    (λ d q k j r l. content_rounds (length s) (suc (length r)) d q k j r l (omega arith)) (λ d q k j r l. content_end (length s) d q k j r l) d p k
    j s (omega arith)

-- ---- documents

module _ (N : ℕ) (c c₂ f g : ℕ → Counted Forest) (qc : (d k j : ℕ) (r : Bytes) → length r < N → c d k j r ≡ c₂ d k j r)
    (q : (d k j : ℕ) (r : Bytes) → length r < N → f d k j r ≡ g d k j r) (ec : (d : ℕ) → ContentEnds N (c d))
  where
    nodes-as_same : (d k j a : ℕ) (s : Bytes) (i : Kind) → View (a ∷ s) i → length s < N → nodes_as_l c f d i k j (a ∷ s)
        ≡ nodes_as_l c₂ g d i k j (a ∷ s)
    unfolding nodes_as_l
    nodes-as_same d k j a s as_close v h = refl
    nodes-as_same d k j a s as_comment (comments b) h = q d k j (beyond `-->` (a ∷ s)) (omega (arith, comment-ends a s b))
    nodes-as_same d k j a s (as_node i) v h =
        more_same N (f d) (g d) (q d) (length s) (node_l c i d k j (a ∷ s)) (node_end c N ec a s i v d k j (omega arith)) h
        ∙ ap (λ x. lnext x (λ t k j r. lmap (more t) (g d k j r))) (node-same N c c₂ qc i d k j a s (omega arith))

    nodes-step_same : (d k j : ℕ) (s : Bytes) → length s ≤ N → nodes_step_l c f d k j s ≡ nodes_step_l c₂ g d k j s
    unfolding nodes_step_l
    nodes-step_same d k j [] h = refl
    nodes-step_same d k j (a ∷ s) h = nodes-as_same d k j a s (kind (a ∷ s)) (view (a ∷ s)) (omega arith)

pub nodes-rounds : (n m d k j : ℕ) (s : Bytes) → length s < n → length s < m → nodes_l n d k j s ≡ nodes_l m d k j s
unfolding nodes_l
nodes-rounds zero m d k j s h g = absurd (omega (arith, h))
nodes-rounds (suc n) zero d k j s h g = absurd (omega (arith, g))
nodes-rounds (suc n) (suc m) d k j s h g =
    nodes-step_same (length s) (λ d k j r. content_l n d no_comment k j r) (λ d k j r. content_l m d no_comment k j r) (λ d k j r. nodes_l n d k j r)
    (λ d k j r. nodes_l m d k j r)
    (λ d k j r l. content_rounds n m d no_comment k j r (omega arith) (omega arith))
    (λ d k j r l. nodes-rounds n m d k j r (omega arith) (omega arith))
    (λ d k j r l. content_end n d no_comment k j r (omega arith)) d k j s (omega arith)

unfoldable pub nodes_c : ℕ → Counted Forest
nodes_c d k j s = nodes_l (suc (length s)) d k j s

pub nodes_c_is : (d k j : ℕ) (s : Bytes) → nodes_c d k j s ≡ nodes_step_l (λ d. content_c d no_comment) nodes_c d k j s
unfolding nodes_c content_c nodes_l
nodes_c_is d k j s =
    nodes-step_same (length s) (λ d k j r. content_l (length s) d no_comment k j r) (λ d. content_c d no_comment)
    (λ d k j r. nodes_l (length s) d k j r) nodes_c
    (λ d k j r l. content_rounds (length s) (suc (length r)) d no_comment k j r l (omega arith))
    (λ d k j r l. nodes-rounds (length s) (suc (length r)) d k j r l (omega arith))
    (λ d k j r l. content_end (length s) d no_comment k j r l) d k j s (omega arith)

pub read_document_l_is : (d k j : ℕ) (s : Bytes) → read_document_l d k j s ≡ finish_l (length s) (nodes_c d k j (past_prolog (suc (length s)) s))
unfolding read_document_l nodes_c
read_document_l_is d k j s = refl
