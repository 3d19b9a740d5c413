-- The same of the reader with the limits: its counts of rounds never run out. Assumes nothing.
--     attributes-end, element-end, node_end, content_end, nodes-end   what is left is no longer than what was
--     limits_never_zero
use mathlib.Core.Path.{◌≡◌}
use Prim.Native.Nat.{ℕ, zero, suc, ◌≤◌, ◌<◌}
use native.Mathlib.Omega.{arith}
use mathlib.Core.Bool.{false}
use mathlib.Core.List.{List, [], ◌∷◌}
use lib.ListN.{length, drop}
use lib.Dec.{eqb}
use Rattle.scan.specs.Bytes.{blank, text_byte, name_byte, other}
use Rattle.grammar.specs.Words.{Bytes, Stops}
use Rattle.grammar.specs.Tree.{Attr, Tree, element, Forest, none, more}
use Rattle.grammar.specs.Tree.{`-->`, `]]>`}
use Rattle.grammar.specs.Grammar.{Before, a_comment, no_comment}
use Rattle.grammar.specs.Demand.{refused}
use Rattle.grammar.specs.Scan.{run, past, beyond}
use Rattle.grammar.proofs.Reader.{Res, read_attribute, tag_end, after_slash, NodeKind, Kind, kind, after_close, past_prolog, ok, bad, as_text}
use Rattle.grammar.proofs.Reader.{as_section, as_element, as_close, as_comment, as_node}
use Rattle.grammar.proofs.Counted.{LRes, lnext, lmap, lift, Counted, attributes_as_l, attributes_step_l, attributes_l, opened_as_l, after_opening_l}
use Rattle.grammar.proofs.Counted.{after_tag_name_l, element_l, node_l, content_as_l, content_step_l, content_l, nodes_as_l, nodes_step_l, nodes_l}
use Rattle.grammar.proofs.Counted.{finish_l, read_document_l, lok, lbad}
use Rattle.scan.proofs.Every.{by-test}
use Rattle.grammar.proofs.Scans.{past-stops}
use Rattle.grammar.proofs.Sound.{View, view, comments, texts}
use Rattle.grammar.proofs.Ends.{Ends, weaken, past-length, past_head, drop_length, beyond-length, text-first, attribute-ends, comment-ends}
use Rattle.grammar.proofs.Ends.{close_ends, slash-ends}

-- what is left is no longer than N, and a number is not 0
abbrev pub EndsL : {A : Type 0} → ℕ → LRes A → Type 0
EndsL N (lok a k j r) = length r ≤ N
EndsL N (lbad m l) = 0 < m

pub weaken_l : {A : Type 0} (M N : ℕ) (x : LRes A) → M ≤ N → EndsL M x → EndsL N x
weaken_l M N (lok a k j r) h e = omega arith
weaken_l M N (lbad m l) h e = e

pub ends-lmap : {A B : Type 0} (f : A → B) (N : ℕ) (x : LRes A) → EndsL N x → EndsL N (lmap f x)
ends-lmap f N (lok a k j r) e = e
ends-lmap f N (lbad m l) e = e

pub ends-lift : {A : Type 0} (N k j : ℕ) (x : Res A) → Ends N x → EndsL N (lift x (λ a r. lok a k j r))
ends-lift N k j (ok a r) e = e
ends-lift N k j (bad m l) e = e

-- ---- start tags

-- attributes are read from where blanks are passed
abbrev pub AttributesEnd : ℕ → Counted (List Attr) → Type 0
AttributesEnd n rec = (k j : ℕ) (r : Bytes) → Stops blank r → length r < n → EndsL (length r) (rec k j r)

pub attribute-then_ends : (rec : Counted (List Attr)) (n N k j : ℕ) → AttributesEnd n rec → (x : Res Attr) → Ends N x → N < n
    → EndsL (suc N) (lift x (λ a r. lmap (a ∷◌) (rec k j (past blank r))))
attribute-then_ends rec n N k j ih (bad m l) h g = h
attribute-then_ends rec n N k j ih (ok a r) h g =
    let short : length (past blank r) ≤ N = omega (arith, past-length blank r) in
    ends-lmap (a ∷◌) (suc N) (rec k j (past blank r))
    (weaken_l (length (past blank r)) (suc N) (rec k j (past blank r)) (omega arith) (ih k j (past blank r) (past-stops blank r) (omega arith)))

pub attributes-as_ends : (rec : Counted (List Attr)) (n k j a : ℕ) (s : Bytes) → AttributesEnd n rec → blank a ≡ false → tag_end a ≡ false
    → length s < n
    → EndsL (suc (length s)) (attributes_as_l rec false k j (a ∷ s))
unfolding attributes_as_l
attributes-as_ends rec n k zero a s ih u i g = omega arith
attributes-as_ends rec n k (suc j) a s ih u i g = attribute-then_ends rec n (length s) k j ih (read_attribute (a ∷ s)) (attribute-ends a s u i) g

pub attributes-end : (n : ℕ) → AttributesEnd n (attributes_l n)
unfolding attributes_l attributes_step_l attributes_as_l
attributes-end zero k j s h g = absurd (omega (arith, g))
attributes-end (suc n) k j [] h g = omega arith
attributes-end (suc n) k j (a ∷ s) h g =
    let ih : AttributesEnd n (λ k j r. attributes_l n k j r) = λ k j r q l. attributes-end n k j r q l in
    by-test (tag_end a) (λ e. rw e (omega arith)) (λ e. rw e (attributes-as_ends (λ k j r. attributes_l n k j r) n k j a s ih h e (omega arith)))

-- a reader of content, on what is shorter than N
abbrev pub ContentEnds : ℕ → Counted Forest → Type 0
ContentEnds N rec = (k j : ℕ) (s : Bytes) → length s < N → EndsL (length s) (rec k j s)

module _ (rec : Counted Forest) (N : ℕ) (ih : ContentEnds N rec) where
  pub opened-end : (n : Bytes) (l : List Attr) (k j : ℕ) (s : Bytes) → length s ≤ N → EndsL (length s) (after_opening_l rec n l k j s)
  unfolding after_opening_l opened_as_l
  opened-end n l k j [] g = omega arith
  opened-end n l k j (a ∷ s) g = by-test (eqb a 62)
      (λ e. rw e (ends-lmap (element n l) (suc (length s)) (rec k j s)
      (weaken_l (length s) (suc (length s)) (rec k j s) (omega arith) (ih k j s (omega arith)))))
      (λ e. rw e (ends-lift (suc (length s)) k j (after_slash (suc (length s)) (element n l none) (past blank s))
      (weaken (length (past blank s)) (suc (length s)) (after_slash (suc (length s)) (element n l none) (past blank s))
      (omega (arith, past-length blank s))
      (slash-ends (λ r. ok none r) 0 (λ r h. omega arith) (suc (length s)) (element n l none) (past blank s) (omega arith)))))

  pub tag-then_end : (n r : Bytes) (x : LRes (List Attr)) → length r ≤ N → EndsL (length r) x
      → EndsL (length r) (lnext x (λ l k j r. after_opening_l rec n l k j r))
  tag-then_end n r (lbad m l) g e = e
  tag-then_end n r (lok l k j t) g e = weaken_l (length t) (length r) (after_opening_l rec n l k j t) e (opened-end n l k j t (omega arith))

  pub tag-end : (i : ℕ) (n : Bytes) (k j : ℕ) (r : Bytes) → Stops blank r → length r ≤ N → EndsL (length r) (after_tag_name_l rec i n k j r)
  unfolding after_tag_name_l
  tag-end i [] k j r h g = omega arith
  tag-end i (a ∷ n) k j r h g = tag-then_end (a ∷ n) r (attributes_l (suc (length r)) k j r) g (attributes-end (suc (length r)) k j r h (omega arith))

  pub element-end : (k j : ℕ) (s : Bytes) → length s ≤ N → EndsL (length s) (element_l rec k j s)
  unfolding element_l
  element-end k j s g =
      let r : Bytes = past blank (past name_byte s) in
      let short : length r ≤ length s = omega (arith, past-length blank (past name_byte s), past-length name_byte s) in
      weaken_l (length r) (length s) (after_tag_name_l rec (suc (length s)) (run name_byte s) k j r) short
      (tag-end (suc (length s)) (run name_byte s) k j r (past-stops blank (past name_byte s)) (omega arith))

-- ---- nodes

pub node_end : (rec : ℕ → Counted Forest) (N : ℕ) → ((d : ℕ) → ContentEnds N (rec d)) → (a : ℕ) (s : Bytes) (i : NodeKind) → View (a ∷ s) (as_node i)
    → (d k j : ℕ) → length s ≤ N → EndsL (length s) (node_l rec i d k j (a ∷ s))
unfolding node_l
node_end rec N ih a s as_text v d zero j g = omega arith
node_end rec N ih a s as_text (texts h) d (suc k) j g = past_head text_byte a s (text-first a s h)
node_end rec N ih a s as_section v d zero j g = omega arith
node_end rec N ih a s as_section v d (suc k) j g = omega (arith, beyond-length `]]>` (drop 9 (a ∷ s)), drop_length 8 s)
node_end rec N ih a s as_element v zero k j g = omega arith
node_end rec N ih a s as_element v (suc d) zero j g = omega arith
node_end rec N ih a s as_element v (suc d) (suc k) j g = element-end (rec d) N (ih d) k j s g

pub node-then_ends : (rec : Counted Forest) (N : ℕ) → ContentEnds N rec → (M : ℕ) (x : LRes Tree) → EndsL M x → M < N
    → EndsL (suc M) (lnext x (λ t k j r. lmap (more t) (rec k j r)))
node-then_ends rec N ih M (lbad m l) h g = h
node-then_ends rec N ih M (lok t k j r) h g =
    ends-lmap (more t) (suc M) (rec k j r) (weaken_l (length r) (suc M) (rec k j r) (omega arith) (ih k j r (omega arith)))

pub content_as_end : (rec : ℕ → Before → Counted Forest) (N : ℕ) → ((d : ℕ) (p : Before) → ContentEnds N (rec d p))
    → (d : ℕ) (p : Before) (k j a : ℕ) (s : Bytes) (i : Kind) → View (a ∷ s) i → length s < N
    → EndsL (suc (length s)) (content_as_l rec d p i k j (a ∷ s))
unfolding content_as_l
content_as_end rec N ih d no_comment k j a s as_close v g =
    ends-lift (suc (length s)) k j (after_close (suc (length s)) (past (other 62) (a ∷ s)))
    (weaken (length (past (other 62) (a ∷ s))) (suc (length s)) (after_close (suc (length s)) (past (other 62) (a ∷ s)))
    (past-length (other 62) (a ∷ s))
    (close_ends (suc (length s)) (past (other 62) (a ∷ s))))
content_as_end rec N ih d a_comment k j a s as_close v g = omega arith
content_as_end rec N ih d p k j a s as_comment (comments h) g =
    let short : length (beyond `-->` (a ∷ s)) ≤ length s = comment-ends a s h in
    weaken_l (length (beyond `-->` (a ∷ s))) (suc (length s)) (rec d a_comment k j (beyond `-->` (a ∷ s))) (omega arith)
    (ih d a_comment k j (beyond `-->` (a ∷ s)) (omega arith))
content_as_end rec N ih d p k j a s (as_node i) v g =
    node-then_ends (rec d no_comment) N (ih d no_comment) (length s) (node_l (λ d. rec d no_comment) i d k j (a ∷ s))
    (node_end (λ d. rec d no_comment) N (λ d. ih d no_comment) a s i v d k j (omega arith)) g

pub content_end : (n d : ℕ) (p : Before) → ContentEnds n (content_l n d p)
unfolding content_l content_step_l
content_end zero d p k j s g = absurd (omega (arith, g))
content_end (suc n) d p k j [] g = omega arith
content_end (suc n) d p k j (a ∷ s) g =
    content_as_end (λ d p k j r. content_l n d p k j r) n (λ d p k j r h. content_end n d p k j r h) d p k j a s (kind (a ∷ s)) (view (a ∷ s))
    (omega arith)

pub nodes-as_end : (content rec : ℕ → Counted Forest) (N : ℕ) → ((d : ℕ) → ContentEnds N (content d)) → ((d : ℕ) → ContentEnds N (rec d))
    → (d k j a : ℕ) (s : Bytes) (i : Kind) → View (a ∷ s) i → length s < N → EndsL (suc (length s)) (nodes_as_l content rec d i k j (a ∷ s))
unfolding nodes_as_l
nodes-as_end content rec N hc ih d k j a s as_close v g = omega arith
nodes-as_end content rec N hc ih d k j a s as_comment (comments h) g =
    let short : length (beyond `-->` (a ∷ s)) ≤ length s = comment-ends a s h in
    weaken_l (length (beyond `-->` (a ∷ s))) (suc (length s)) (rec d k j (beyond `-->` (a ∷ s))) (omega arith)
    (ih d k j (beyond `-->` (a ∷ s)) (omega arith))
nodes-as_end content rec N hc ih d k j a s (as_node i) v g =
    node-then_ends (rec d) N (ih d) (length s) (node_l content i d k j (a ∷ s)) (node_end content N hc a s i v d k j (omega arith)) g

pub nodes-end : (n d : ℕ) → ContentEnds n (nodes_l n d)
unfolding nodes_l nodes_step_l
nodes-end zero d k j s g = absurd (omega (arith, g))
nodes-end (suc n) d k j [] g = omega arith
nodes-end (suc n) d k j (a ∷ s) g =
    nodes-as_end (λ d k j r. content_l n d no_comment k j r) (λ d k j r. nodes_l n d k j r) n (λ d k j r h. content_end n d no_comment k j r h)
    (λ d k j r h. nodes-end n d k j r h) d k j a s (kind (a ∷ s)) (view (a ∷ s)) (omega arith)

pub finish_end : (size N m p : ℕ) (x : LRes Forest) → EndsL N x → finish_l size x ≡ refused m p → 0 < m
finish_end size N m p (lok f k j r) h e = let z : ◌≡◌ {A = ℕ} 0 1 = cc in omega arith
finish_end size N m p (lbad a b) h e = let q : a ≡ m = cc in omega arith

-- A text that is not taken is refused with a number of document 01's, never for want of rounds.
pub limits_never_zero : (d k j : ℕ) (s : Bytes) (m p : ℕ) → read_document_l d k j s ≡ refused m p → 0 < m
unfolding read_document_l
limits_never_zero d k j s m p e =
    let r : Bytes = past_prolog (suc (length s)) s in
    finish_end (length s) (length r) m p (nodes_l (suc (length r)) d k j r) (nodes-end (suc (length r)) d k j r (omega arith)) e
