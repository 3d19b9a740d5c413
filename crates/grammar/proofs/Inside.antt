-- Where the reader with the limits refuses what the one without reads whole, it refuses inside: at a byte of what is read. Assumes nothing.
--     attributes-inside, element-inside, node-inside, content_inside
use mathlib.Core.Path.{◌≡◌}
use Prim.Native.Nat.{ℕ, zero, suc, ◌≤◌, ◌<◌}
use native.Mathlib.Omega.{arith}
use mathlib.Core.Bool.{false}
use mathlib.Core.List.{List, [], ◌∷◌}
use lib.ListN.{length}
use lib.Dec.{eqb}
use Rattle.scan.specs.Bytes.{blank, name_byte, other}
use Rattle.grammar.specs.Words.{Bytes, Stops}
use Rattle.grammar.specs.Tree.{Attr, Tree, element, Forest, none, more}
use Rattle.grammar.specs.Tree.{`-->`}
use Rattle.grammar.specs.Grammar.{Before, a_comment, no_comment}
use Rattle.grammar.specs.Scan.{run, past, beyond}
use Rattle.grammar.proofs.Reader.{Res, next, map_res, read_attribute, tag_end, attributes_as, attributes_step, read_attributes, after_slash}
use Rattle.grammar.proofs.Reader.{opened_as, after_opening, after_tag_name, read_element, NodeKind, Kind, kind, node_as, after_close, content_as_lem}
use Rattle.grammar.proofs.Reader.{content_step_lem, read_content, ok, bad, as_text, as_section, as_element, as_close, as_comment, as_node}
use Rattle.grammar.proofs.Counted.{LRes, lnext, lmap, lift, Counted, attributes_as_l, attributes_step_l, attributes_l, opened_as_l, after_opening_l}
use Rattle.grammar.proofs.Counted.{after_tag_name_l, element_l, node_l, content_as_l, content_step_l, content_l, lok, lbad}
use Rattle.scan.proofs.Every.{by-test}
use Rattle.grammar.proofs.Scans.{past-stops}
use Rattle.grammar.proofs.Sound.{View, view, comments}
use Rattle.grammar.proofs.Simulation.{SimA, SimT, attributes-sim, InStep, node-sim, content_sim, same, over, fails}
use Rattle.grammar.proofs.Ends.{Ends, weaken, ends-map, past-length, attribute-ends, attributes-ends, opened-ends, node-ends, comment-ends}
use Rattle.grammar.proofs.Ends.{content_ends}

-- the reader without limits gives u, the one with limits v: a refusal of what u reads has more bytes left than u leaves
abbrev pub Inside : {A : Type 0} → Res A → LRes A → Type 0
Inside (ok a r) (lok b k j t) = Unit {0}
Inside (ok a r) (lbad m l) = length r < l
Inside (bad m l) v = Unit {0}

pub inside-map : {A B : Type 0} (f : A → B) (u : Res A) (v : LRes A) → Inside u v → Inside (map_res f u) (lmap f v)
inside-map f (ok a r) (lok b k j t) h = tt
inside-map f (ok a r) (lbad m l) h = h
inside-map f (bad m l) v h = tt

pub inside-ends : {A : Type 0} (N m l : ℕ) (u : Res A) → Ends N u → N < l → Inside u (lbad m l)
inside-ends N m l (ok a r) h g = omega arith
inside-ends N m l (bad x y) h g = tt

pub inside-lift : {A : Type 0} (k j : ℕ) (u : Res A) → Inside u (lift u (λ a r. lok a k j r))
inside-lift k j (ok a r) = tt
inside-lift k j (bad m l) = tt

-- ---- attributes

pub attributes-short : (n N : ℕ) (x : Res Attr) → Ends N x → N < n → Ends N (next x (λ a r. map_res (a ∷◌) (read_attributes n (past blank r))))
attributes-short n N (bad m l) h g = h
attributes-short n N (ok a r) h g =
    let short : length (past blank r) ≤ N = omega (arith, past-length blank r) in
    ends-map (a ∷◌) N (read_attributes n (past blank r))
    (weaken (length (past blank r)) N (read_attributes n (past blank r)) short (attributes-ends n (past blank r) (past-stops blank r) (omega arith)))

abbrev pub AttributesI : ℕ → Type 0
AttributesI n = (k j : ℕ) (r : Bytes) → Stops blank r → length r < n → Inside (read_attributes n r) (attributes_l n k j r)

pub attribute-then_inside : (n N k j : ℕ) → AttributesI n → (x : Res Attr) → Ends N x → N < n
    → Inside (next x (λ a r. map_res (a ∷◌) (read_attributes n (past blank r)))) (lift x (λ a r. lmap (a ∷◌) (attributes_l n k j (past blank r))))
attribute-then_inside n N k j ih (bad m l) h g = tt
attribute-then_inside n N k j ih (ok a r) h g =
    inside-map (a ∷◌) (read_attributes n (past blank r)) (attributes_l n k j (past blank r))
    (ih k j (past blank r) (past-stops blank r) (omega (arith, past-length blank r)))

pub attributes-as_inside : (n k j a : ℕ) (s : Bytes) → AttributesI n → blank a ≡ false → tag_end a ≡ false → length s < n
    → Inside (attributes_as (λ r. read_attributes n r) false (a ∷ s)) (attributes_as_l (λ k j r. attributes_l n k j r) false k j (a ∷ s))
unfolding attributes_as attributes_as_l
attributes-as_inside n k zero a s ih u i g =
    inside-ends (length s) 7 (suc (length s)) (next (read_attribute (a ∷ s)) (λ a r. map_res (a ∷◌) (read_attributes n (past blank r))))
    (attributes-short n (length s) (read_attribute (a ∷ s)) (attribute-ends a s u i) g) (omega arith)
attributes-as_inside n k (suc j) a s ih u i g = attribute-then_inside n (length s) k j ih (read_attribute (a ∷ s)) (attribute-ends a s u i) g

pub attributes-inside : (n : ℕ) → AttributesI n
unfolding read_attributes attributes_step attributes_as attributes_l attributes_step_l attributes_as_l
attributes-inside zero k j s h g = tt
attributes-inside (suc n) k j [] h g = tt
attributes-inside (suc n) k j (a ∷ s) h g =
    by-test (tag_end a) (λ e. rw e tt) (λ e. rw e (attributes-as_inside n k j a s (λ k j r q l. attributes-inside n k j r q l) h e (omega arith)))

-- ---- elements

module _ (N : ℕ) (rec : Bytes → Res Forest) (recL : Counted Forest) (ends : (s : Bytes) → length s < N → Ends (length s) (rec s))
    (ih : (k j : ℕ) (s : Bytes) → length s < N → Inside (rec s) (recL k j s))
  where
    pub opened_inside : (n : Bytes) (l : List Attr) (k j : ℕ) (s : Bytes) → length s ≤ N
        → Inside (after_opening rec n l s) (after_opening_l recL n l k j s)
    unfolding after_opening opened_as after_opening_l opened_as_l
    opened_inside n l k j [] g = tt
    opened_inside n l k j (a ∷ s) g = by-test (eqb a 62)
        (λ e. rw e (inside-map (element n l) (rec s) (recL k j s) (ih k j s (omega arith))))
        (λ e. rw e (inside-lift k j (after_slash (suc (length s)) (element n l none) (past blank s))))

    pub tag-then_inside : (n : Bytes) (k j M : ℕ) (u : Res (List Attr)) (v : LRes (List Attr)) → SimA k j u v → Inside u v → Ends M u → M ≤ N
        → Inside (next u (after_opening rec n)) (lnext v (λ l k j r. after_opening_l recL n l k j r))
    tag-then_inside n k j M u v (same l k₂ j₂ {r} x y z) h e g = opened_inside n l k₂ j₂ r (omega arith)
    tag-then_inside n k j M u v (over l {r} {n = m} {l = i} q) h e g =
        inside-ends (length r) m i (after_opening rec n l r) (opened-ends rec N ends n l r (omega arith)) h
    tag-then_inside n k j M u v fails h e g = tt

    pub tag-inside : (i : ℕ) (n : Bytes) (k j : ℕ) (r : Bytes) → Stops blank r → length r ≤ N
        → Inside (after_tag_name rec i n r) (after_tag_name_l recL i n k j r)
    unfolding after_tag_name after_tag_name_l
    tag-inside i [] k j r h g = tt
    tag-inside i (a ∷ n) k j r h g =
        tag-then_inside (a ∷ n) k j (length r) (read_attributes (suc (length r)) r) (attributes_l (suc (length r)) k j r)
        (attributes-sim (suc (length r)) k j r)
        (attributes-inside (suc (length r)) k j r h (omega arith)) (attributes-ends (suc (length r)) r h (omega arith)) g

    pub element-inside : (k j : ℕ) (s : Bytes) → length s ≤ N → Inside (read_element rec s) (element_l recL k j s)
    unfolding read_element element_l
    element-inside k j s g =
        tag-inside (suc (length s)) (run name_byte s) k j (past blank (past name_byte s)) (past-stops blank (past name_byte s))
        (omega (arith, past-length blank (past name_byte s), past-length name_byte s))

-- ---- nodes

pub node-inside : (N : ℕ) (rec : Bytes → Res Forest) (recL : ℕ → Counted Forest) → ((s : Bytes) → length s < N → Ends (length s) (rec s))
    → ((d k j : ℕ) (s : Bytes) → length s < N → Inside (rec s) (recL d k j s)) → (a : ℕ) (s : Bytes) (i : NodeKind) → View (a ∷ s) (as_node i)
    → length s ≤ N
    → (d k j : ℕ) → Inside (node_as rec i (a ∷ s)) (node_l recL i d k j (a ∷ s))
unfolding node_as node_l
node-inside N rec recL ends ih a s as_text v g d zero j =
    inside-ends (length s) 5 (suc (length s)) (node_as rec as_text (a ∷ s)) (node-ends rec N ends a s as_text v g) (omega arith)
node-inside N rec recL ends ih a s as_text v g d (suc k) j = tt
node-inside N rec recL ends ih a s as_section v g d zero j =
    inside-ends (length s) 5 (suc (length s)) (node_as rec as_section (a ∷ s)) (node-ends rec N ends a s as_section v g) (omega arith)
node-inside N rec recL ends ih a s as_section v g d (suc k) j = tt
node-inside N rec recL ends ih a s as_element v g zero k j =
    inside-ends (length s) 4 (suc (length s)) (node_as rec as_element (a ∷ s)) (node-ends rec N ends a s as_element v g) (omega arith)
node-inside N rec recL ends ih a s as_element v g (suc d) zero j =
    inside-ends (length s) 5 (suc (length s)) (node_as rec as_element (a ∷ s)) (node-ends rec N ends a s as_element v g) (omega arith)
node-inside N rec recL ends ih a s as_element v g (suc d) (suc k) j = element-inside N rec (recL d) ends (ih d) k j s g

-- ---- content

pub node-then_inside : (N : ℕ) (rec : Bytes → Res Forest) (recL : ℕ → Counted Forest) → ((s : Bytes) → length s < N → Ends (length s) (rec s))
    → ((d k j : ℕ) (s : Bytes) → length s < N → Inside (rec s) (recL d k j s)) → (M d k j : ℕ) (u : Res Tree) (v : LRes Tree) → SimT d k j u v
    → Inside u v → Ends M u → M < N
    → Inside (next u (λ t r. map_res (more t) (rec r))) (lnext v (λ t k j r. lmap (more t) (recL d k j r)))
node-then_inside N rec recL ends ih M d k j u v (same t k₂ j₂ {r} x y z) h e g =
    inside-map (more t) (rec r) (recL d k₂ j₂ r) (ih d k₂ j₂ r (omega arith))
node-then_inside N rec recL ends ih M d k j u v (over t {r} {n = m} {l = i} q) h e g =
    inside-ends (length r) m i (map_res (more t) (rec r)) (ends-map (more t) (length r) (rec r) (ends r (omega arith))) h
node-then_inside N rec recL ends ih M d k j u v fails h e g = tt

pub content_as_inside : (N : ℕ) (rec : Before → Bytes → Res Forest) (recL : ℕ → Before → Counted Forest)
    → ((p : Before) (s : Bytes) → length s < N → Ends (length s) (rec p s))
    → ((p : Before) (d k j : ℕ) (s : Bytes) → length s < N → Inside (rec p s) (recL d p k j s)) → ((p : Before) → InStep (rec p) (λ d. recL d p))
    → (d : ℕ) (p : Before) (k j a : ℕ) (s : Bytes) (i : Kind) → View (a ∷ s) i → length s < N
    → Inside (content_as_lem rec p i (a ∷ s)) (content_as_l recL d p i k j (a ∷ s))
unfolding content_as_lem content_as_l
content_as_inside N rec recL ends ih sim d no_comment k j a s as_close v g = inside-lift k j (after_close (suc (length s)) (past (other 62) (a ∷ s)))
content_as_inside N rec recL ends ih sim d a_comment k j a s as_close v g = tt
content_as_inside N rec recL ends ih sim d p k j a s as_comment (comments b) g =
    ih a_comment d k j (beyond `-->` (a ∷ s)) (omega (arith, comment-ends a s b))
content_as_inside N rec recL ends ih sim d p k j a s (as_node i) v g =
    node-then_inside N (rec no_comment) (λ d. recL d no_comment) (ends no_comment) (ih no_comment) (length s) d k j
    (node_as (rec no_comment) i (a ∷ s))
    (node_l (λ d. recL d no_comment) i d k j (a ∷ s)) (node-sim (rec no_comment) (λ d. recL d no_comment) (sim no_comment) i d k j (a ∷ s))
    (node-inside N (rec no_comment) (λ d. recL d no_comment) (ends no_comment) (ih no_comment) a s i v (omega arith) d k j)
    (node-ends (rec no_comment) N (ends no_comment) a s i v (omega arith)) g

pub content_inside : (n : ℕ) (p : Before) (d k j : ℕ) (s : Bytes) → length s < n → Inside (read_content n p s) (content_l n d p k j s)
unfolding read_content content_step_lem content_l content_step_l
content_inside zero p d k j s g = tt
content_inside (suc n) p d k j [] g = tt
content_inside (suc n) p d k j (a ∷ s) g =
    content_as_inside n (λ q r. read_content n q r) (λ d p k j r. content_l n d p k j r) (λ q r h. content_ends n q r h)
    (λ q d k j r h. content_inside n q d k j r h)
    (λ q d k j r. content_sim n q d k j r) d p k j a s (kind (a ∷ s)) (view (a ∷ s)) (omega arith)
