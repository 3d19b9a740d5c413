-- Whatever number is met, the reader with the limits refuses the text, and no later: at an earlier place, or at the same with no higher number.
-- So it answers exactly the first number that is met. Assumes nothing.
--     cont                   the reader between nodes, where d₀ elements are open
--     node-step, opening-step   a node or an opening that the grammar has is read, or refused inside
--     reach, tag-reach       after a viable prefix: refused before, or what goes on decides
--     meets-sooner, exactly
use mathlib.Core.Path.{◌≡◌, refl, sym, ap, ap₂, ◌∙◌, subst}
use Prim.Native.Nat.{ℕ, zero, suc, ◌+◌, ◌-◌, ◌≤◌, ◌<◌}
use native.Mathlib.Omega.{arith}
use mathlib.Core.Logic.{◌⊎◌, inl, inr, ◌↔◌}
use mathlib.Core.Bool.{Bool, true, false}
use mathlib.Core.List.{List, [], ◌∷◌, ◌++◌, append-nil, append_assoc, nil≢cons, head-eq_of_cons-eq}
use lib.ListN.{length, drop, length-append}
use lib.Dec.{eqb}
use Rattle.scan.specs.Bytes.{blank, name_byte, attr_name_byte, other}
use Rattle.grammar.specs.Words.{Bytes, ◌then◌, Only, Stops, Run, Begins}
use Rattle.grammar.specs.Tree.{Attr, attr, Tree, element, Forest, none, more}
use Rattle.grammar.specs.Tree.{`<`, `>`, `/`, `=`, `</`, `<!--`, `<![CDATA[`}
use Rattle.grammar.specs.Grammar.{Blanks, Name, Attributes, no_attribute, attribute, Opening, opening, Comment, Before, a_comment}
use Rattle.grammar.specs.Grammar.{no_comment, Node}
use Rattle.grammar.specs.Limits.{tree_nodes, tree_attrs}
use Rattle.grammar.specs.Demand.{Result, refused}
use Rattle.grammar.specs.Scan.{run, past, prefix}
use Rattle.grammar.proofs.Reader.{Res, map_res, read_value, after_name_as, after_name, read_attribute, tag_end, read_attributes, slash_as}
use Rattle.grammar.proofs.Reader.{after_slash, NodeKind, kind, node_as, after_close, past_prolog, ok, bad, as_text, as_section, as_element}
use Rattle.grammar.proofs.Reader.{as_node}
use Rattle.grammar.proofs.Counted.{LRes, lnext, lmap, lift, Counted, attributes_as_l, attributes_step_l, attributes_l, opened_as_l, after_opening_l}
use Rattle.grammar.proofs.Counted.{after_tag_name_l, element_l, node_l, content_as_l, content_step_l, content_l, nodes_as_l, nodes_step_l, finish_l}
use Rattle.grammar.proofs.Counted.{read_document_l, lok, lbad}
use Rattle.grammar.specs.Refusals.{ElementBegins, NodeBegins, AttributeBegins, Viable, InStartTag, in_start_tag, Meets, too_deep}
use Rattle.grammar.specs.Refusals.{too_many_nodes, no_tag_name, too_many_attributes, slash, no_value, end_in_tag, open_close_tag, FirstMet}
use Rattle.scan.proofs.Every.{by-test}
use Rattle.grammar.proofs.Tests.{eqb_eq, not_or3, or_true}
use Rattle.grammar.proofs.Scans.{run_past, past-stops, run_is, past_is, begins_prefix, not_prefix, beyond-is}
use Rattle.grammar.proofs.Complete.{Front, attribute-front, front-stops, front_length, front-append, Gives, attribute-complete}
use Rattle.grammar.proofs.Complete.{attributes-stops, name_front, blank-equals, blank-gt, equals-no_name, opening-tagged, kind_close}
use Rattle.grammar.proofs.Complete.{kind_comment, begins_more, comment-length, NodeOk, node-complete, prolog-complete, Reads}
use Rattle.grammar.proofs.Sound.{View, view, AttributesS, attributes-sound, all_blanks}
use Rattle.grammar.proofs.Simulation.{SimA, SimT, attributes-sim, node-sim, content_sim, same, over, fails}
use Rattle.grammar.proofs.Ends.{content_ends}
use Rattle.grammar.proofs.CountedRounds.{attributes_c, attributes_c_is, node-same, content_rounds, content_c, content_c_is, nodes_c, nodes_c_is}
use Rattle.grammar.proofs.CountedRounds.{read_document_l_is}
use Rattle.grammar.proofs.Refusing.{AttributeF, attribute-fails, refused-meets}
use Rattle.grammar.proofs.Inside.{Inside, node-inside, content_inside}

-- ---- between nodes

-- the reader where d₀ elements are open: of the document, or of an element's content
abbrev pub cont : ℕ → ℕ → Before → Counted Forest
cont zero d p k j s = nodes_c d k j s
cont (suc d₀) d p k j s = content_c d p k j s

-- the reader of an element's content from its start tag on, where d more elements may open
abbrev pub in_element : ℕ → Counted Forest
in_element d k j s = content_c d no_comment k j s

pub content_some : (rec : ℕ → Before → Counted Forest) (d : ℕ) (p : Before) (k j : ℕ) (s : Bytes) → 0 < length s
    → content_step_l rec d p k j s ≡ content_as_l rec d p (kind s) k j s
unfolding content_step_l
content_some rec d p k j [] h = absurd (omega (arith, h))
content_some rec d p k j (a ∷ s) h = refl

pub nodes-some : (content rec : ℕ → Counted Forest) (d k j : ℕ) (s : Bytes) → 0 < length s → nodes_step_l content rec d k j s
    ≡ nodes_as_l content rec d (kind s) k j s
unfolding nodes_step_l
nodes-some content rec d k j [] h = absurd (omega (arith, h))
nodes-some content rec d k j (a ∷ s) h = refl

pub comment-some : {after u : Bytes} → Comment after u → 0 < length (u ++ after)
comment-some {after} {u} c = simp length-append (omega (arith, comment-length c))

pub cont_comment : (d₀ d : ℕ) (p : Before) (k j : ℕ) {after u : Bytes} → Comment after u → cont d₀ d p k j (u ++ after)
    ≡ cont d₀ d a_comment k j after
unfolding content_as_l nodes_as_l
cont_comment zero d p k j {after} {u} c =
    let s : Bytes = u ++ after in
    nodes_c_is d k j s ∙ nodes-some in_element nodes_c d k j s (comment-some c)
    ∙ ap (λ i. nodes_as_l in_element nodes_c d i k j s) (kind_comment s (begins_more `<!--` u after c.opens))
    ∙ ap (nodes_c d k j) (beyond-is 45 (45 ∷ 62 ∷ []) after u c.ends)
cont_comment (suc d₀) d p k j {after} {u} c =
    let s : Bytes = u ++ after in
    content_c_is d p k j s ∙ content_some content_c d p k j s (comment-some c)
    ∙ ap (λ i. content_as_l content_c d p i k j s) (kind_comment s (begins_more `<!--` u after c.opens))
    ∙ ap (content_c d a_comment k j) (beyond-is 45 (45 ∷ 62 ∷ []) after u c.ends)

pub cont_node : (d₀ d : ℕ) (p : Before) (k j : ℕ) (s : Bytes) (i : NodeKind) → 0 < length s → kind s ≡ as_node i
    → cont d₀ d p k j s ≡ lnext (node_l in_element i d k j s) (λ t k j r. lmap (more t) (cont d₀ d no_comment k j r))
unfolding content_as_l nodes_as_l
cont_node zero d p k j s i g e = nodes_c_is d k j s ∙ nodes-some in_element nodes_c d k j s g ∙ ap (λ i. nodes_as_l in_element nodes_c d i k j s) e
cont_node (suc d₀) d p k j s i g e = content_c_is d p k j s ∙ content_some content_c d p k j s g ∙ ap (λ i. content_as_l content_c d p i k j s) e

-- a refusal of the node is one of what goes on
pub cont_bad : (d₀ d : ℕ) (p : Before) (k j : ℕ) (s : Bytes) (i : NodeKind) (n l : ℕ) → 0 < length s → kind s ≡ as_node i
    → node_l in_element i d k j s ≡ lbad n l
    → cont d₀ d p k j s ≡ lbad n l
cont_bad d₀ d p k j s i n l g e q = cont_node d₀ d p k j s i g e ∙ ap (λ v. lnext v (λ t k j r. lmap (more t) (cont d₀ d no_comment k j r))) q

-- ---- a node that the grammar has

-- the limits refuse it inside, or it is read, and the counts fall by it
pub data NodeStep (t : Tree) (after : Bytes) (k j : ℕ) (v : LRes Tree) : Type 0 where
  stopped : (n l : ℕ) → v ≡ lbad n l → length after < l → NodeStep t after k j v
  goes : (k₂ j₂ : ℕ) → v ≡ lok t k₂ j₂ after → k ≡ tree_nodes t + k₂ → j ≡ tree_attrs t + j₂ → NodeStep t after k j v

pub node-split : (t : Tree) (after : Bytes) (d k j : ℕ) (u : Res Tree) (v : LRes Tree) → u ≡ ok t after → SimT d k j u v → Inside u v
    → NodeStep t after k j v
node-split t after d k j u v e (same a k₂ j₂ {r} x y z) h =
    let a_is : a ≡ t = cc in
    let r_is : r ≡ after = cc in
    goes k₂ j₂ (ap₂ (λ a r. lok a k₂ j₂ r) a_is r_is) (y ∙ ap (λ a. tree_nodes a + k₂) a_is) (z ∙ ap (λ a. tree_attrs a + j₂) a_is)
node-split t after d k j u v e (over a {r} {n} {l} q) h =
    let r_is : r ≡ after = cc in
    stopped n l refl (omega (arith, ap length r_is))
node-split t after d k j u v e fails h = let z : ◌≡◌ {A = ℕ} 0 1 = cc in absurd (omega arith)

pub node_at : (s after : Bytes) (t : Tree) (i : NodeKind) → kind s ≡ as_node i → 0 < length s → node_as (Reads (length s)) i s ≡ ok t after
    → (d k j : ℕ)
    → NodeStep t after k j (node_l in_element i d k j s)
unfolding content_c
node_at [] after t i e g q d k j = absurd (omega (arith, g))
node_at (a ∷ s) after t i e g q d k j =
    let n : ℕ = suc (length s) in
    let L : ℕ → Counted Forest = λ d k j r. content_l n d no_comment k j r in
    let v : View (a ∷ s) (as_node i) = subst (View (a ∷ s)) e (view (a ∷ s)) in
    subst (NodeStep t after k j)
    (node-same (length s) L in_element (λ d k j r h. content_rounds n (suc (length r)) d no_comment k j r (omega arith) (omega arith)) i d k j a s
    (omega arith))
    (node-split t after d k j (node_as (Reads n) i (a ∷ s)) (node_l L i d k j (a ∷ s)) q
    (node-sim (Reads n) L (λ d k j r. content_sim n no_comment d k j r) i d k j (a ∷ s))
    (node-inside (length s) (Reads n) L (λ r h. content_ends n no_comment r (omega arith))
    (λ d k j r h. content_inside n no_comment d k j r (omega arith)) a s i v (omega arith) d k j))

-- ---- an opening that the grammar has

pub data AttributesStep (after : Bytes) (l : List Attr) (k j : ℕ) (v : LRes (List Attr)) : Type 0 where
  stopped : (n i : ℕ) → v ≡ lbad n i → length after < i → AttributesStep after l k j v
  goes : (j₂ : ℕ) → j ≡ length l + j₂ → v ≡ lmap (l ++◌) (attributes_c k j₂ after) → AttributesStep after l k j v

pub map_nil : (v : LRes (List Attr)) → v ≡ lmap (λ l. [] ++ l) v
map_nil (lok l k j r) = refl
map_nil (lbad n i) = refl

pub map_more : (a : Attr) (l : List Attr) (v : LRes (List Attr)) → lmap (a ∷◌) (lmap (l ++◌) v) ≡ lmap ((a ∷ l) ++◌) v
map_more a l (lok x k j r) = refl
map_more a l (lbad n i) = refl

-- one attribute that is read, or may not begin
pub attribute-round : (k j : ℕ) (u s r : Bytes) (a : Attr) → Front u → read_attribute (u ++ s) ≡ ok a r → attributes_c k (suc j) (u ++ s)
    ≡ lmap (a ∷◌) (attributes_c k j (past blank r))
unfolding attributes_step_l attributes_as_l
attribute-round k j u s r a f e = attributes_c_is k (suc j) (u ++ s) (front-stops u s f) ∙ go u f.byte f.rest f.is f.inside e
  where
    go : (u : Bytes) (b : ℕ) (v : Bytes) → u ≡ b ∷ v → tag_end b ≡ false → read_attribute (u ++ s) ≡ ok a r
        → attributes_step_l attributes_c k (suc j) (u ++ s) ≡ lmap (a ∷◌) (attributes_c k j (past blank r))
    go [] b v q i e = absurd (nil≢cons q)
    go (c ∷ u) b v q i e =
        let t : tag_end c ≡ false = ap tag_end (head-eq_of_cons-eq q) ∙ i in
        rw t (rw e)

pub attribute-none : (k : ℕ) (u s : Bytes) → Front u → attributes_c k 0 (u ++ s) ≡ lbad 7 (length (u ++ s))
unfolding attributes_step_l attributes_as_l
attribute-none k u s f = attributes_c_is k 0 (u ++ s) (front-stops u s f) ∙ go u f.byte f.rest f.is f.inside
  where
    go : (u : Bytes) (b : ℕ) (v : Bytes) → u ≡ b ∷ v → tag_end b ≡ false → attributes_step_l attributes_c k 0 (u ++ s) ≡ lbad 7 (length (u ++ s))
    go [] b v q i = absurd (nil≢cons q)
    go (c ∷ u) b v q i =
        let t : tag_end c ≡ false = ap tag_end (head-eq_of_cons-eq q) ∙ i in
        rw t

pub step_more : (after : Bytes) (a : Attr) (l : List Attr) (k j : ℕ) (v x : LRes (List Attr)) → x ≡ lmap (a ∷◌) v → AttributesStep after l k j v
    → AttributesStep after (a ∷ l) k (suc j) x
step_more after a l k j v x e (stopped n i q g) = stopped n i (e ∙ ap (lmap (a ∷◌)) q) g
step_more after a l k j v x e (goes j₂ c q) = goes j₂ (omega arith) (e ∙ ap (lmap (a ∷◌)) q ∙ map_more a l (attributes_c k j₂ after))

pub attributes-step : {after w : Bytes} {l : List Attr} → Stops blank after → Attributes after w l → (k j : ℕ)
    → AttributesStep after l k j (attributes_c k j (w ++ after))
attributes-step {after} h no_attribute k j = goes j (omega arith) (map_nil (attributes_c k j after))
attributes-step {after} h (attribute {u} {b} {w} {a} {l} x y z) k zero =
    let s : Bytes = b ++ (w ++ after) in
    let assoc : (u then b then w) ++ after ≡ u ++ s = simp append_assoc in
    let some_byte : 0 < length u = front_length u (attribute-front x) in
    let longer : length after < length (u ++ s) = simp length-append (omega arith) in
    stopped 7 (length (u ++ s)) (ap (attributes_c k 0) assoc ∙ attribute-none k u s (attribute-front x)) longer
attributes-step {after} h (attribute {u} {b} {w} {a} {l} x y z) k (suc j) =
    let s : Bytes = b ++ (w ++ after) in
    let assoc : (u then b then w) ++ after ≡ u ++ s = simp append_assoc in
    let gv : Gives s u a = attribute-complete x in
    let r_is : past blank gv.0 ≡ w ++ after = gv.2 ∙ past_is blank b (w ++ after) y.all (attributes-stops h z) in
    step_more after a l k j (attributes_c k j (w ++ after)) (attributes_c k (suc j) ((u then b then w) ++ after))
    (ap (attributes_c k (suc j)) assoc ∙ attribute-round k j u s gv.0 a (attribute-front x) gv.1
    ∙ ap (λ q. lmap (a ∷◌) (attributes_c k j q)) r_is)
    (attributes-step h z k j)

-- the start tag from `after` on, where the attributes l₀ are read
abbrev pub tag_c : Counted Forest → Bytes → List Attr → Counted Tree
tag_c rec n l₀ k j s = lnext (attributes_c k j s) (λ l k j r. after_opening_l rec n (l₀ ++ l) k j r)

pub data OpeningStep (rec : Counted Forest) (after n : Bytes) (l : List Attr) (k j : ℕ) (v : LRes Tree) : Type 0 where
  stopped : (m i : ℕ) → v ≡ lbad m i → length after < i → OpeningStep rec after n l k j v
  goes : (j₂ : ℕ) → j ≡ length l + j₂ → v ≡ tag_c rec n l k j₂ after → OpeningStep rec after n l k j v

pub next_map : (rec : Counted Forest) (n : Bytes) (l₀ : List Attr) (v : LRes (List Attr))
    → lnext (lmap (l₀ ++◌) v) (λ l k j r. after_opening_l rec n l k j r) ≡ lnext v (λ l k j r. after_opening_l rec n (l₀ ++ l) k j r)
next_map rec n l₀ (lok l k j r) = refl
next_map rec n l₀ (lbad m i) = refl

pub opening-then : (rec : Counted Forest) (after n : Bytes) (l : List Attr) (k j : ℕ) (v : LRes (List Attr)) (x : LRes Tree)
    → x ≡ lnext v (λ l k j r. after_opening_l rec n l k j r) → AttributesStep after l k j v → OpeningStep rec after n l k j x
opening-then rec after n l k j v x e (stopped m i q g) = stopped m i (e ∙ ap (λ v. lnext v (λ l k j r. after_opening_l rec n l k j r)) q) g
opening-then rec after n l k j v x e (goes j₂ c q) =
    goes j₂ c (e ∙ ap (λ v. lnext v (λ l k j r. after_opening_l rec n l k j r)) q ∙ next_map rec n l (attributes_c k j₂ after))

-- the tag's name is read
pub tag-name : (rec : Counted Forest) (n s r : Bytes) (k j : ℕ) → Name name_byte s n → past blank s ≡ r
    → element_l rec k j (n ++ s) ≡ lnext (attributes_c k j r) (λ l k j r. after_opening_l rec n l k j r)
unfolding element_l after_tag_name_l attributes_c
tag-name rec n s r k j nm e =
    let i : ℕ = suc (length (n ++ s)) in
    ap₂ (λ x y. after_tag_name_l rec i x k j (past blank y)) (run_is name_byte n s nm.run.only nm.run.longest)
    (past_is name_byte n s nm.run.only nm.run.longest)
    ∙ ap (after_tag_name_l rec i n k j) e
    ∙ go n nm.some_byte i
  where
    go : (n : Bytes) → ¬ (n ≡ []) → (i : ℕ) → after_tag_name_l rec i n k j r
        ≡ lnext (attributes_l (suc (length r)) k j r) (λ l k j r. after_opening_l rec n l k j r)
    go [] e i = absurd (e refl)
    go (c ∷ n) e i = refl

pub opening-step : (rec : Counted Forest) {after o n : Bytes} {l : List Attr} → Stops blank after → Opening after o n l → (k j : ℕ)
    → OpeningStep rec after n l k j (element_l rec k j (drop 1 (o ++ after)))
opening-step rec {after} h (opening {n} {b} {w} {l = l} nm bb at) k j =
    let s : Bytes = b ++ (w ++ after) in
    let assoc : (n ++ (b ++ w)) ++ after ≡ n ++ s = simp append_assoc in
    opening-then rec after n l k j (attributes_c k j (w ++ after)) (element_l rec k j ((n ++ (b ++ w)) ++ after))
    (ap (element_l rec k j) assoc ∙ tag-name rec n s (w ++ after) k j nm (past_is blank b (w ++ after) bb.all (attributes-stops h at)))
    (attributes-step h at k j)

-- ---- after a viable prefix

-- what the reader answers for the text x, with how many bytes are left at a refusal's place
abbrev pub answer : (D K J : ℕ) → Bytes → LRes Forest
answer D K J x = nodes_c D K J (past_prolog (suc (length x)) x)

-- `top` is the answer: it has refused before, or a refusal of what goes on is the answer
pub data Reach (D K J : ℕ) (top : LRes Forest) (after w : Bytes) (d₀ k₀ j₀ : ℕ) (p : Before) : Type 0 where
  early : (n l : ℕ) → top ≡ lbad n l → length after < l → 0 < length w → Reach D K J top after w d₀ k₀ j₀ p
  here : (d k j : ℕ) → d₀ + d ≡ D → k₀ + k ≡ K → j₀ + j ≡ J → ((n l : ℕ) → cont d₀ d p k j after ≡ lbad n l → top ≡ lbad n l)
      → Reach D K J top after w d₀ k₀ j₀ p

-- at an element: it has refused before; or it refuses the element itself; or a refusal in the element is the answer
pub data ElementReach (D K J : ℕ) (top : LRes Forest) (s w : Bytes) (d₀ k₀ j₀ : ℕ) : Type 0 where
  early : (n l : ℕ) → top ≡ lbad n l → length s < l → 0 < length w → ElementReach D K J top s w d₀ k₀ j₀
  limit : (n : ℕ) → top ≡ lbad n (length s) → n ≤ 5 → ElementReach D K J top s w d₀ k₀ j₀
  here : (d k j : ℕ) → suc d₀ + d ≡ D → suc k₀ + k ≡ K → j₀ + j ≡ J → ((n l : ℕ) → element_l (in_element d) k j (drop 1 s) ≡ lbad n l → top ≡ lbad n l)
      → ElementReach D K J top s w d₀ k₀ j₀

pub begins_some : (a : ℕ) (m s : Bytes) → Begins (a ∷ m) s → 0 < length s
begins_some a m s h = rw h.1 (omega arith)

pub element-kind : (s : Bytes) → ElementBegins s → kind s ≡ as_node as_element
element-kind s h = rw (not_prefix `</` s h.1, not_prefix `<!--` s h.2, not_prefix `<![CDATA[` s h.3, begins_prefix `<` s h.0)

pub element-reach : (D K J : ℕ) (top : LRes Forest) (s w : Bytes) (d₀ k₀ j₀ : ℕ) (p : Before) → ElementBegins s → Reach D K J top s w d₀ k₀ j₀ p
    → ElementReach D K J top s w d₀ k₀ j₀
unfolding node_l
element-reach D K J top s w d₀ k₀ j₀ p eb (early n l e g q) = early n l e g q
element-reach D K J top s w d₀ k₀ j₀ p eb (here zero k j cd ck cj f) =
    limit 4 (f 4 (length s) (cont_bad d₀ 0 p k j s as_element 4 (length s) (begins_some 60 [] s eb.0) (element-kind s eb) refl)) (omega arith)
element-reach D K J top s w d₀ k₀ j₀ p eb (here (suc d) zero j cd ck cj f) =
    limit 5 (f 5 (length s) (cont_bad d₀ (suc d) p 0 j s as_element 5 (length s) (begins_some 60 [] s eb.0) (element-kind s eb) refl))
    (omega arith)
element-reach D K J top s w d₀ k₀ j₀ p eb (here (suc d) (suc k) j cd ck cj f) =
    here d k j (omega arith) (omega arith) cj
    (λ n l e. f n l (cont_bad d₀ (suc d) p (suc k) j s as_element n l (begins_some 60 [] s eb.0) (element-kind s eb) e))

pub comment-reach : (D K J : ℕ) (top : LRes Forest) (after u w : Bytes) (d₀ k₀ j₀ : ℕ) (p : Before) → Comment after u
    → Reach D K J top (u ++ after) w d₀ k₀ j₀ p
    → Reach D K J top after (w ++ u) d₀ k₀ j₀ a_comment
comment-reach D K J top after u w d₀ k₀ j₀ p c (early n l e g q) =
    early n l e (omega (arith, simp length-append at g)) (simp length-append (omega arith))
comment-reach D K J top after u w d₀ k₀ j₀ p c (here d k j cd ck cj f) = here d k j cd ck cj (λ n l e. f n l (cont_comment d₀ d p k j c ∙ e))

pub node-reach : (D K J : ℕ) (top : LRes Forest) (after u w : Bytes) (d₀ k₀ j₀ : ℕ) (p : Before) (t : Tree) → Node after u t
    → Reach D K J top (u ++ after) w d₀ k₀ j₀ p
    → Reach D K J top after (w ++ u) d₀ (k₀ + tree_nodes t) (j₀ + tree_attrs t) no_comment
node-reach D K J top after u w d₀ k₀ j₀ p t x (early n l e g q) =
    early n l e (omega (arith, simp length-append at g)) (simp length-append (omega arith))
node-reach D K J top after u w d₀ k₀ j₀ p t x (here d k j cd ck cj f) = go (node_at s after t o.sort o.sorted some o.gives d k j)
  where
    s : Bytes
    s = u ++ after

    o : NodeOk (length s) after u t
    o = node-complete x (length s) (omega arith)

    some : 0 < length s
    some = simp length-append (omega (arith, o.some_byte))

    go : NodeStep t after k j (node_l in_element o.sort d k j s) → Reach D K J top after (w ++ u) d₀ (k₀ + tree_nodes t) (j₀ + tree_attrs t) no_comment
    go (stopped n l e g) =
        early n l (f n l (cont_bad d₀ d p k j s o.sort n l some o.sorted e)) g (simp length-append (omega (arith, o.some_byte)))
    go (goes k₂ j₂ e a b) =
        here d k₂ j₂ cd (omega arith) (omega arith)
        (λ n l q. f n l (cont_node d₀ d p k j s o.sort some o.sorted
        ∙ ap (λ v. lnext v (λ t k j r. lmap (more t) (cont d₀ d no_comment k j r))) e ∙ ap (lmap (more t)) q))

-- a start tag that ends goes on with its content
pub opened-here : (rec : Counted Forest) (n : Bytes) (l : List Attr) (k j : ℕ) (after : Bytes) (m i : ℕ) → rec k j after ≡ lbad m i
    → tag_c rec n l k j (62 ∷ after) ≡ lbad m i
unfolding attributes_step_l attributes_as_l after_opening_l opened_as_l
opened-here rec n l k j after m i e =
    ap (λ v. lnext v (λ l₂ k j r. after_opening_l rec n (l ++ l₂) k j r)) (attributes_c_is k j (62 ∷ after) blank-gt) ∙ ap (lmap (element n (l ++ []))) e

pub start-reach : (D K J : ℕ) (top : LRes Forest) (after o w n : Bytes) (l : List Attr) (d₀ k₀ j₀ : ℕ) → Opening (62 ∷ after) o n l
    → ElementReach D K J top (o ++ (62 ∷ after)) w d₀ k₀ j₀ → Reach D K J top after (w ++ (o ++ (62 ∷ []))) (suc d₀) (suc k₀) (j₀ + length l)
    no_comment
start-reach D K J top after o w n l d₀ k₀ j₀ op (early m i e g q) =
    early m i e (omega (arith, simp length-append at g)) (simp length-append (omega arith))
start-reach D K J top after o w n l d₀ k₀ j₀ op (limit m e g) =
    early m (length (o ++ (62 ∷ after))) e (simp length-append (omega arith)) (simp length-append (omega arith))
start-reach D K J top after o w n l d₀ k₀ j₀ op (here d k j cd ck cj f) = go (opening-step (in_element d) blank-gt op k j)
  where
    go : OpeningStep (in_element d) (62 ∷ after) n l k j (element_l (in_element d) k j (drop 1 (o ++ (62 ∷ after))))
        → Reach D K J top after (w ++ (o ++ (62 ∷ []))) (suc d₀) (suc k₀) (j₀ + length l) no_comment
    go (stopped m i e g) = early m i (f m i e) (omega arith) (simp length-append (omega arith))
    go (goes j₂ c e) = here d k j₂ cd ck (omega arith) (λ m i q. f m i (e ∙ opened-here (in_element d) n l k j₂ after m i q))

pub reach : (D K J : ℕ) {after w : Bytes} {d₀ k₀ j₀ : ℕ} {p : Before} → Viable after w d₀ k₀ j₀ p
    → Reach D K J (answer D K J (w ++ after)) after w d₀ k₀ j₀ p
reach D K J (Viable.prolog {after} {w} pr np) =
    here D K J (omega arith) (omega arith) (omega arith)
    (λ n l e. ap (nodes_c D K J) (prolog-complete pr np (suc (length (w ++ after))) (omega arith)) ∙ e)
reach D K J (Viable.comment {after} {w} {u} {d = d₀} {k = k₀} {j = j₀} {p} v c) =
    let x : Bytes = w ++ (u ++ after) in
    subst (λ z. Reach D K J (answer D K J z) after (w ++ u) d₀ k₀ j₀ a_comment) (sym (append_assoc w u after))
    (comment-reach D K J (answer D K J x) after u w d₀ k₀ j₀ p c (reach D K J v))
reach D K J (Viable.node {after} {w} {u} {d = d₀} {k = k₀} {j = j₀} {p} {t} v x) =
    let y : Bytes = w ++ (u ++ after) in
    subst (λ z. Reach D K J (answer D K J z) after (w ++ u) d₀ (k₀ + tree_nodes t) (j₀ + tree_attrs t) no_comment) (sym (append_assoc w u after))
    (node-reach D K J (answer D K J y) after u w d₀ k₀ j₀ p t x (reach D K J v))
reach D K J (Viable.start-tag {after} {w} {o} {n} {d = d₀} {k = k₀} {j = j₀} {p} {l} v eb op) =
    let x : Bytes = w ++ (o ++ (62 ∷ after)) in
    let assoc : (w ++ (o ++ (62 ∷ []))) ++ after ≡ x = simp append_assoc in
    subst (λ z. Reach D K J (answer D K J z) after (w ++ (o ++ (62 ∷ []))) (suc d₀) (suc k₀) (j₀ + length l) no_comment) (sym assoc)
    (start-reach D K J (answer D K J x) after o w n l d₀ k₀ j₀ op
    (element-reach D K J (answer D K J x) (o ++ (62 ∷ after)) w d₀ k₀ j₀ p eb (reach D K J v)))

-- ---- in a start tag

pub data TagReach (J : ℕ) (top : LRes Forest) (after w : Bytes) (j₀ : ℕ) : Type 0 where
  early : (n l : ℕ) → top ≡ lbad n l → length after < l → 0 < length w → TagReach J top after w j₀
  here : (rec : Counted Forest) (name : Bytes) (l₀ : List Attr) (k j : ℕ) → j₀ + j ≡ J
      → ((n l : ℕ) → tag_c rec name l₀ k j after ≡ lbad n l → top ≡ lbad n l)
      → TagReach J top after w j₀

pub opening-some : {after o n : Bytes} {l : List Attr} → Opening after o n l → 0 < length o
opening-some op = let t = opening-tagged op in rw t.is (omega arith)

pub opening-reach : (D K J : ℕ) (top : LRes Forest) (after o w n : Bytes) (l : List Attr) (d₀ k₀ j₀ : ℕ) → Stops blank after → Opening after o n l
    → ElementReach D K J top (o ++ after) w d₀ k₀ j₀ → TagReach J top after (w ++ o) (j₀ + length l)
opening-reach D K J top after o w n l d₀ k₀ j₀ h op (early m i e g q) =
    early m i e (omega (arith, simp length-append at g)) (simp length-append (omega arith))
opening-reach D K J top after o w n l d₀ k₀ j₀ h op (limit m e g) =
    early m (length (o ++ after)) e (simp length-append (omega (arith, opening-some op))) (simp length-append (omega (arith, opening-some op)))
opening-reach D K J top after o w n l d₀ k₀ j₀ h op (here d k j cd ck cj f) = go (opening-step (in_element d) h op k j)
  where
    go : OpeningStep (in_element d) after n l k j (element_l (in_element d) k j (drop 1 (o ++ after))) → TagReach J top after (w ++ o) (j₀ + length l)
    go (stopped m i e g) = early m i (f m i e) g (simp length-append (omega (arith, opening-some op)))
    go (goes j₂ c e) = here (in_element d) n l k j₂ (omega arith) (λ m i q. f m i (e ∙ q))

pub tag-reach : (D K J : ℕ) {after w : Bytes} {j₀ : ℕ} → Stops blank after → InStartTag after w j₀ → TagReach J (answer D K J (w ++ after)) after w j₀
tag-reach D K J {after} h (in_start_tag {w} {o} {n} {d = d₀} {k = k₀} {j = j₀} {p} {l} v eb op) =
    let x : Bytes = w ++ (o ++ after) in
    subst (λ z. TagReach J (answer D K J z) after (w ++ o) (j₀ + length l)) (sym (append_assoc w o after))
    (opening-reach D K J (answer D K J x) after o w n l d₀ k₀ j₀ h op
    (element-reach D K J (answer D K J x) (o ++ after) w d₀ k₀ j₀ p eb (reach D K J v)))

-- ---- the numbers

-- the reader refuses s at an earlier place than q, or at q with no higher number than m
pub record Sooner (D K J : ℕ) (s : Bytes) (m q : ℕ) : Type 0 where
  pub number : ℕ
  pub place : ℕ
  pub answered : read_document_l D K J s ≡ refused number place
  pub no_later : (place < q) ⊎ ((place ≡ q) × (number ≤ m))

pub by_answer : (D K J : ℕ) (x : Bytes) (m q n l : ℕ) → answer D K J x ≡ lbad n l → (length x - l < q) ⊎ ((length x - l ≡ q) × (n ≤ m))
    → Sooner D K J x m q
by_answer D K J x m q n l e h =
    record { number = n; place = length x - l; answered = read_document_l_is D K J x ∙ ap (finish_l (length x)) e; no_later = h }

pub sooner_before : (D K J : ℕ) (w after : Bytes) (m n l : ℕ) → answer D K J (w ++ after) ≡ lbad n l → length after < l → 0 < length w
    → Sooner D K J (w ++ after) m (length w)
sooner_before D K J w after m n l e g h =
    let less : length (w ++ after) - l < length w = simp length-append (omega arith) in
    by_answer D K J (w ++ after) m (length w) n l e (inl less)

pub sooner_here : (D K J : ℕ) (w after : Bytes) (m n : ℕ) → answer D K J (w ++ after) ≡ lbad n (length after) → n ≤ m
    → Sooner D K J (w ++ after) m (length w)
sooner_here D K J w after m n e h =
    let equal : length (w ++ after) - length after ≡ length w = simp length-append (omega arith) in
    by_answer D K J (w ++ after) m (length w) n (length after) e (inr (equal, h))

pub past_all : (p : ℕ → Bool) (s : Bytes) → Only p s → past p s ≡ []
past_all p s o = ap (past p) (sym (append-nil s)) ∙ past_is p s [] o tt

-- 4
pub too_deep-sooner : (D K J : ℕ) (w after : Bytes) (k₀ j₀ : ℕ) (p : Before) → Reach D K J (answer D K J (w ++ after)) after w D k₀ j₀ p
    → ElementBegins after
    → Sooner D K J (w ++ after) 4 (length w)
unfolding node_l
too_deep-sooner D K J w after k₀ j₀ p (early n l e g h) eb = sooner_before D K J w after 4 n l e g h
too_deep-sooner D K J w after k₀ j₀ p (here zero k j cd ck cj f) eb =
    sooner_here D K J w after 4 4
    (f 4 (length after) (cont_bad D 0 p k j after as_element 4 (length after) (begins_some 60 [] after eb.0) (element-kind after eb) refl))
    (omega arith)
too_deep-sooner D K J w after k₀ j₀ p (here (suc d) k j cd ck cj f) eb = absurd (omega (arith, cd))

-- 5
pub node-kind : (s : Bytes) → NodeBegins s → (i : NodeKind) × (kind s ≡ as_node i)
node-kind s h =
    by-test (prefix `<![CDATA[` s) (λ e. (as_section, rw (not_prefix `</` s h.1, not_prefix `<!--` s h.2, e))) (λ e.
    by-test (prefix `<` s) (λ q. (as_element, rw (not_prefix `</` s h.1, not_prefix `<!--` s h.2, e, q)))
    (λ q. (as_text, rw (not_prefix `</` s h.1, not_prefix `<!--` s h.2, e, q))))

pub some_length : (s : Bytes) → ¬ (s ≡ []) → 0 < length s
some_length [] h = absurd (h refl)
some_length (a ∷ s) h = omega arith

pub no_room : (i : NodeKind) (d j : ℕ) (s : Bytes) → (n : ℕ) × (node_l in_element i d 0 j s ≡ lbad n (length s)) × (n ≤ 5)
unfolding node_l
no_room as_text d j s = (5, refl, omega arith)
no_room as_section d j s = (5, refl, omega arith)
no_room as_element zero j s = (4, refl, omega arith)
no_room as_element (suc d) j s = (5, refl, omega arith)

pub too_many_nodes-sooner : (D K J : ℕ) (w after : Bytes) (d₀ j₀ : ℕ) (p : Before) → Reach D K J (answer D K J (w ++ after)) after w d₀ K j₀ p
    → NodeBegins after
    → Sooner D K J (w ++ after) 5 (length w)
too_many_nodes-sooner D K J w after d₀ j₀ p (early n l e g h) nb = sooner_before D K J w after 5 n l e g h
too_many_nodes-sooner D K J w after d₀ j₀ p (here d zero j cd ck cj f) nb =
    let i = node-kind after nb in
    let r = no_room i.0 d j after in
    sooner_here D K J w after 5 r.0
    (f r.0 (length after) (cont_bad d₀ d p 0 j after i.0 r.0 (length after) (some_length after nb.0) i.1 r.1)) r.2
too_many_nodes-sooner D K J w after d₀ j₀ p (here d (suc k) j cd ck cj f) nb = absurd (omega (arith, ck))

-- 6
pub no_name_here : (rec : Counted Forest) (k j : ℕ) (after : Bytes) → Stops name_byte after → element_l rec k j after ≡ lbad 6 (suc (length after))
unfolding element_l after_tag_name_l
no_name_here rec k j after h =
    ap (λ x. after_tag_name_l rec (suc (length after)) x k j (past blank (past name_byte after))) (run_is name_byte [] after tt h)

pub no_tag_name-sooner : (D K J : ℕ) (w after : Bytes) (d₀ k₀ j₀ : ℕ)
    → ElementReach D K J (answer D K J (w ++ (60 ∷ after))) (60 ∷ after) w d₀ k₀ j₀ → Stops name_byte after
    → Sooner D K J (w ++ (60 ∷ after)) 6 (length w)
no_tag_name-sooner D K J w after d₀ k₀ j₀ (early n l e g h) st = sooner_before D K J w (60 ∷ after) 6 n l e g h
no_tag_name-sooner D K J w after d₀ k₀ j₀ (limit n e g) st = sooner_here D K J w (60 ∷ after) 6 n e (omega arith)
no_tag_name-sooner D K J w after d₀ k₀ j₀ (here d k j cd ck cj f) st =
    sooner_here D K J w (60 ∷ after) 6 6 (f 6 (suc (length after)) (no_name_here (in_element d) k j after st)) (omega arith)

-- 7
pub name_begins_front : (s : Bytes) → AttributeBegins s → Front s
unfolding name_byte
name_begins_front s h =
    let k = not_or3 (blank h.0) (eqb h.0 62) (eqb h.0 47) h.3 in
    record { byte = h.0; rest = h.1; is = h.2; unblank = k.0; inside = rw (k.1, k.2) }

pub front-unblank : (s : Bytes) → Front s → Stops blank s
front-unblank s f = rw f.is f.unblank

pub front-none : (k : ℕ) (s : Bytes) → Front s → attributes_c k 0 s ≡ lbad 7 (length s)
front-none k s f = subst (λ z. attributes_c k 0 z ≡ lbad 7 (length z)) (append-nil s) (attribute-none k s [] f)

pub tag-bad : (rec : Counted Forest) (n : Bytes) (l₀ : List Attr) (k j : ℕ) (s : Bytes) (m i : ℕ) → attributes_c k j s ≡ lbad m i
    → tag_c rec n l₀ k j s ≡ lbad m i
tag-bad rec n l₀ k j s m i e = ap (λ v. lnext v (λ l k j r. after_opening_l rec n (l₀ ++ l) k j r)) e

pub too_many_attributes-sooner : (D K J : ℕ) (w after : Bytes) → TagReach J (answer D K J (w ++ after)) after w J → Front after
    → Sooner D K J (w ++ after) 7 (length w)
too_many_attributes-sooner D K J w after (early n l e g h) fr = sooner_before D K J w after 7 n l e g h
too_many_attributes-sooner D K J w after (here rec n l₀ k zero cj f) fr =
    sooner_here D K J w after 7 7 (f 7 (length after) (tag-bad rec n l₀ k 0 after 7 (length after) (front-none k after fr))) (omega arith)
too_many_attributes-sooner D K J w after (here rec n l₀ k (suc j) cj f) fr = absurd (omega (arith, cj))

-- 8
pub blank-slash : blank 47 ≡ false
unfolding blank
blank-slash = refl

pub slash-bad : (i : ℕ) (t : Tree) (s : Bytes) → ((b r : Bytes) → Blanks b → ¬ (s ≡ b then `>` then r)) → after_slash i t (past blank s) ≡ bad 8 i
unfolding after_slash slash_as
slash-bad i t s h = go (past blank s) refl
  where
    go : (z : Bytes) → past blank s ≡ z → after_slash i t z ≡ bad 8 i
    go [] e = refl
    go (c ∷ z) e =
        by-test (eqb c 62)
        (λ q. absurd (h (run blank s) z (all_blanks s) (run_past blank s ∙ ap (run blank s ++◌) (e ∙ ap (◌∷ z) (eqb_eq c 62 q)))))
        (λ q. rw q)

pub slash-here : (rec : Counted Forest) (n : Bytes) (l : List Attr) (k j : ℕ) (after : Bytes)
    → ((b r : Bytes) → Blanks b → ¬ (after ≡ b then `>` then r))
    → tag_c rec n l k j (47 ∷ after) ≡ lbad 8 (suc (length after))
unfolding attributes_step_l attributes_as_l after_opening_l opened_as_l
slash-here rec n l k j after h =
    ap (λ v. lnext v (λ l₂ k j r. after_opening_l rec n (l ++ l₂) k j r)) (attributes_c_is k j (47 ∷ after) blank-slash)
    ∙ ap (λ v. lift v (λ t r. lok t k j r)) (slash-bad (suc (length after)) (element n (l ++ []) none) after h)

pub slash-sooner : (D K J : ℕ) (w after : Bytes) (j₀ : ℕ) → TagReach J (answer D K J (w ++ (47 ∷ after))) (47 ∷ after) w j₀
    → ((b r : Bytes) → Blanks b → ¬ (after ≡ b then `>` then r)) → Sooner D K J (w ++ (47 ∷ after)) 8 (length w)
slash-sooner D K J w after j₀ (early n l e g h) un = sooner_before D K J w (47 ∷ after) 8 n l e g h
slash-sooner D K J w after j₀ (here rec n l₀ k j cj f) un =
    sooner_here D K J w (47 ∷ after) 8 8 (f 8 (suc (length after)) (slash-here rec n l₀ k j after un)) (omega arith)

-- 11
pub open_close_here : (d k j : ℕ) (after : Bytes) → Only (other 62) after → content_c d no_comment k j (`</` ++ after)
    ≡ lbad 11 (length (`</` ++ after))
unfolding content_as_l after_close
open_close_here d k j after o =
    let s : Bytes = `</` ++ after in
    content_c_is d no_comment k j s ∙ content_some content_c d no_comment k j s (omega arith)
    ∙ ap (λ i. content_as_l content_c d no_comment i k j s) (kind_close s (after, refl))
    ∙ ap (λ z. lift (after_close (length s) z) (λ f r. lok f k j r)) (past_all (other 62) s (refl, (refl, o)))

pub open_close_sooner : (D K J : ℕ) (w after : Bytes) (d₀ k₀ j₀ : ℕ)
    → Reach D K J (answer D K J (w ++ (`</` ++ after))) (`</` ++ after) w (suc d₀) k₀ j₀ no_comment
    → Only (other 62) after → Sooner D K J (w ++ (`</` ++ after)) 11 (length w)
open_close_sooner D K J w after d₀ k₀ j₀ (early n l e g h) o = sooner_before D K J w (`</` ++ after) 11 n l e g h
open_close_sooner D K J w after d₀ k₀ j₀ (here d k j cd ck cj f) o =
    sooner_here D K J w (`</` ++ after) 11 11 (f 11 (length (`</` ++ after)) (open_close_here d k j after o)) (omega arith)

-- 9
abbrev pub NameOrNone : (n b c : Bytes) → Type 0
NameOrNone n b c = Name attr_name_byte (b then `=` then c) n ⊎ ((n ≡ []) × (b ≡ []))

pub equals-front : (n b c : Bytes) → NameOrNone n b c → Front (n then b then `=` then c)
unfolding blank
equals-front n b c (inl h) = front-append n (b then `=` then c) (name_front n h)
equals-front n b c (inr h) = record { byte = 61; rest = c; is = ap₂ (λ x y. x ++ (y ++ (61 ∷ c))) h.0 h.1; unblank = refl; inside = refl }

pub equals-name : (n b c : Bytes) → NameOrNone n b c → Run attr_name_byte (b then `=` then c) n
equals-name n b c (inl h) = h.run
equals-name n b c (inr h) = record {
  only = subst (Only attr_name_byte) (sym h.0) tt;
  longest = subst (λ z. Stops attr_name_byte (z ++ (61 ∷ c))) (sym h.1) equals-no_name;
}

pub no_value_here : (n b c : Bytes) → NameOrNone n b c → Blanks b → Blanks c → read_attribute (n then b then `=` then c) ≡ bad 9 (suc (length c))
unfolding read_attribute after_name after_name_as read_value
no_value_here n b c h bb bc =
    let s : Bytes = b then `=` then c in
    let r : Run attr_name_byte s n = equals-name n b c h in
    ap₂ (λ x y. after_name x (past blank y)) (run_is attr_name_byte n s r.only r.longest) (past_is attr_name_byte n s r.only r.longest)
    ∙ ap (after_name n) (past_is blank b (61 ∷ c) bb.all blank-equals)
    ∙ ap (λ z. map_res (attr n) (read_value (suc (length c)) z)) (past_all blank c bc.all)

pub attribute-bad : (k j : ℕ) (s : Bytes) (m i : ℕ) → Front s → read_attribute s ≡ bad m i → attributes_c k (suc j) s ≡ lbad m i
unfolding attributes_step_l attributes_as_l
attribute-bad k j s m i f e = attributes_c_is k (suc j) s (front-unblank s f) ∙ go s f.byte f.rest f.is f.inside e
  where
    go : (s : Bytes) (b : ℕ) (v : Bytes) → s ≡ b ∷ v → tag_end b ≡ false → read_attribute s ≡ bad m i → attributes_step_l attributes_c k (suc j) s
        ≡ lbad m i
    go [] b v q t e = absurd (nil≢cons q)
    go (c ∷ s) b v q t e =
        let t₂ : tag_end c ≡ false = ap tag_end (head-eq_of_cons-eq q) ∙ t in
        rw t₂ (rw e)

-- where bytes stand before the `=`, an attribute too many begins before it; else both have the same place
pub at_or_before : (a b n m : ℕ) → n ≤ m → (a < a + b) ⊎ ((a ≡ a + b) × (n ≤ m))
at_or_before a zero n m h = inr (omega arith, h)
at_or_before a (suc b) n m h = inl (omega arith)

pub no_value_sooner : (D K J : ℕ) (w n b c : Bytes) (j₀ : ℕ)
    → TagReach J (answer D K J (w then n then b then `=` then c)) (n then b then `=` then c) w j₀
    → NameOrNone n b c → Blanks b → Blanks c → Sooner D K J (w then n then b then `=` then c) 9 (length (w then n then b))
no_value_sooner D K J w n b c j₀ (early m i e g q) h bb bc =
    let x : Bytes = w then n then b then `=` then c in
    let less : length x - i < length (w then n then b) = simp length-append (omega (arith, simp length-append at g)) in
    by_answer D K J x 9 (length (w then n then b)) m i e (inl less)
no_value_sooner D K J w n b c j₀ (here rec name l₀ k zero cj f) h bb bc =
    let s : Bytes = n then b then `=` then c in
    let x : Bytes = w then s in
    let left : length x - length s ≡ length w = simp length-append (omega arith) in
    let all : length (w then n then b) ≡ length w + length (n then b) = length-append w (n then b) in
    by_answer D K J x 9 (length (w then n then b)) 7 (length s)
    (f 7 (length s) (tag-bad rec name l₀ k 0 s 7 (length s) (front-none k s (equals-front n b c h))))
    (rw (left, all) (at_or_before (length w) (length (n then b)) 7 9 (omega arith)))
no_value_sooner D K J w n b c j₀ (here rec name l₀ k (suc j) cj f) h bb bc =
    let s : Bytes = n then b then `=` then c in
    let x : Bytes = w then s in
    let equal : length x - suc (length c) ≡ length (w then n then b) = simp length-append (omega arith) in
    by_answer D K J x 9 (length (w then n then b)) 9 (suc (length c))
    (f 9 (suc (length c)) (tag-bad rec name l₀ k (suc j) s 9 (suc (length c))
    (attribute-bad k j s 9 (suc (length c)) (equals-front n b c h) (no_value_here n b c h bb bc))))
    (inr (equal, omega arith))

-- 10

-- no number of a start tag's attributes is higher
abbrev pub Ten : LRes (List Attr) → Type 0
Ten (lok l k j r) = Unit {0}
Ten (lbad m i) = m ≤ 10

pub ten_map : (a : Attr) (v : LRes (List Attr)) → Ten v → Ten (lmap (a ∷◌) v)
ten_map a (lok l k j r) h = tt
ten_map a (lbad m i) h = h

pub ten_then : (rec : Counted (List Attr)) → ((k j : ℕ) (r : Bytes) → Stops blank r → Ten (rec k j r)) → (k j : ℕ) (s : Bytes) (x : Res Attr)
    → AttributeF s x
    → Ten (lift x (λ a r. lmap (a ∷◌) (rec k j (past blank r))))
ten_then rec ih k j s (ok a r) h = ten_map a (rec k j (past blank r)) (ih k j (past blank r) (past-stops blank r))
ten_then rec ih k j s (bad m i) h = omega (arith, h.number)

pub ten_as : (rec : Counted (List Attr)) → ((k j : ℕ) (r : Bytes) → Stops blank r → Ten (rec k j r)) → (k j a : ℕ) (s : Bytes) → blank a ≡ false
    → tag_end a ≡ false
    → Ten (attributes_as_l rec false k j (a ∷ s))
unfolding attributes_as_l
ten_as rec ih k zero a s u i = omega arith
ten_as rec ih k (suc j) a s u i = ten_then rec ih k j (a ∷ s) (read_attribute (a ∷ s)) (attribute-fails a s u i)

pub attributes-ten : (n k j : ℕ) (s : Bytes) → Stops blank s → Ten (attributes_l n k j s)
unfolding attributes_l attributes_step_l attributes_as_l
attributes-ten zero k j s h = omega arith
attributes-ten (suc n) k j [] h = omega arith
attributes-ten (suc n) k j (a ∷ s) h =
    by-test (tag_end a) (λ e. rw e tt) (λ e. rw e (ten_as (λ k j r. attributes_l n k j r) (λ k j r g. attributes-ten n k j r g) k j a s h e))

abbrev pub NoOpening : (n after : Bytes) → Type 0
NoOpening n after = (o r m : Bytes) (l : List Attr) → `<` then n then after ≡ o then r → Opening r o m l → ¬ (Begins `>` r ⊎ Begins `/` r)

-- attributes that are read end where the tag does
pub unread : (n after : Bytes) (l : List Attr) (r : Bytes) → Name name_byte after n → NoOpening n after → AttributesS (past blank after) (ok l r) → ⊥
unread n after l r nm no-open h =
    let b : Bytes = run blank after in
    let w : Bytes = h.1.0 in
    let a : ℕ = h.0.0 in
    let after_is : after ≡ b ++ (w ++ r) = run_past blank after ∙ ap (b ++◌) h.1.1 in
    let assoc : (n ++ (b ++ w)) ++ r ≡ n ++ (b ++ (w ++ r)) = simp append_assoc in
    no-open (60 ∷ (n ++ (b ++ w))) r n l (ap (λ z. 60 ∷ (n ++ z)) after_is ∙ ap (60 ∷◌) (sym assoc))
    (opening (subst (λ z. Name name_byte z n) after_is nm) (all_blanks after) h.1.2) (go (or_true (eqb a 62) (eqb a 47) h.0.3))
  where
    go : (eqb h.0.0 62 ≡ true) ⊎ (eqb h.0.0 47 ≡ true) → Begins `>` r ⊎ Begins `/` r
    go (inl e) = inl (h.0.1, h.0.2 ∙ ap (◌∷ h.0.1) (eqb_eq h.0.0 62 e))
    go (inr e) = inr (h.0.1, h.0.2 ∙ ap (◌∷ h.0.1) (eqb_eq h.0.0 47 e))

pub unread_fails : (n after : Bytes) (k j : ℕ) (u : Res (List Attr)) (v : LRes (List Attr)) → Name name_byte after n → NoOpening n after → SimA k j u v
    → AttributesS (past blank after) u → Ten v → (m : ℕ) × (i : ℕ) × (v ≡ lbad m i) × (m ≤ 10)
unread_fails n after k j u v nm no-open (same l k₂ j₂ {r} x y z) h t = absurd (unread n after l r nm no-open h)
unread_fails n after k j u v nm no-open (over l {r} q) h t = absurd (unread n after l r nm no-open h)
unread_fails n after k j u v nm no-open (fails {n' = m} {l' = i}) h t = (m, i, refl, t)

pub attributes-unread : (n after : Bytes) (k j : ℕ) → Name name_byte after n → NoOpening n after
    → (m : ℕ) × (i : ℕ) × (attributes_c k j (past blank after) ≡ lbad m i) × (m ≤ 10)
unfolding attributes_c
attributes-unread n after k j nm no-open =
    let r : Bytes = past blank after in
    unread_fails n after k j (read_attributes (suc (length r)) r) (attributes_l (suc (length r)) k j r) nm no-open
    (attributes-sim (suc (length r)) k j r)
    (attributes-sound (suc (length r)) r (past-stops blank after)) (attributes-ten (suc (length r)) k j r (past-stops blank after))

pub end_of_text : (x i m : ℕ) → 0 < x → m ≤ 10 → (x - i < x) ⊎ ((x - i ≡ x) × (m ≤ 10))
end_of_text x zero m g h = inr (omega arith, h)
end_of_text x (suc i) m g h = inl (omega arith)

pub end_in_tag-sooner : (D K J : ℕ) (w n after : Bytes) (d₀ k₀ j₀ : ℕ)
    → ElementReach D K J (answer D K J (w ++ (60 ∷ (n ++ after)))) (60 ∷ (n ++ after)) w d₀ k₀ j₀
    → Name name_byte after n → NoOpening n after → Sooner D K J (w ++ (60 ∷ (n ++ after))) 10 (length (w ++ (60 ∷ (n ++ after))))
end_in_tag-sooner D K J w n after d₀ k₀ j₀ (early m i e g q) nm no-open =
    let x : Bytes = w ++ (60 ∷ (n ++ after)) in
    let less : length x - i < length x = simp length-append (omega arith) in
    by_answer D K J x 10 (length x) m i e (inl less)
end_in_tag-sooner D K J w n after d₀ k₀ j₀ (limit m e g) nm no-open =
    let x : Bytes = w ++ (60 ∷ (n ++ after)) in
    let less : length x - suc (length (n ++ after)) < length x = simp length-append (omega arith) in
    by_answer D K J x 10 (length x) m (suc (length (n ++ after))) e (inl less)
end_in_tag-sooner D K J w n after d₀ k₀ j₀ (here d k j cd ck cj f) nm no-open =
    let x : Bytes = w ++ (60 ∷ (n ++ after)) in
    let r : Bytes = past blank after in
    let some_byte : 0 < length x = simp length-append (omega arith) in
    let a = read in
    by_answer D K J x 10 (length x) a.0 a.1
    (f a.0 a.1 (tag-name (in_element d) n after r k j nm refl ∙ ap (λ v. lnext v (λ l k j r. after_opening_l (in_element d) n l k j r)) a.2))
    (end_of_text (length x) a.1 a.0 some_byte a.3)
  where
    read : (m : ℕ) × (i : ℕ) × (attributes_c k j (past blank after) ≡ lbad m i) × (m ≤ 10)
    read = attributes-unread n after k j nm no-open

-- ---- which of them is answered

pub meets-sooner : (D K J : ℕ) {s : Bytes} {m q : ℕ} → Meets D K J s m q → Sooner D K J s m q
meets-sooner D K J (too_deep {after} {w} {k₀} {j₀} {p} v eb) = too_deep-sooner D K J w after k₀ j₀ p (reach D K J v) eb
meets-sooner D K J (too_many_nodes {after} {w} {d₀} {j₀} {p} v nb) = too_many_nodes-sooner D K J w after d₀ j₀ p (reach D K J v) nb
meets-sooner D K J (no_tag_name {after} {w} {d₀} {k₀} {j₀} {p} v eb st) =
    no_tag_name-sooner D K J w after d₀ k₀ j₀ (element-reach D K J (answer D K J (w ++ (60 ∷ after))) (60 ∷ after) w d₀ k₀ j₀ p eb (reach D K J v)) st
meets-sooner D K J (too_many_attributes {after} {w} t ab) =
    let f : Front after = name_begins_front after ab in
    too_many_attributes-sooner D K J w after (tag-reach D K J (front-unblank after f) t) f
meets-sooner D K J (slash {after} {w} {j₀} t un) = slash-sooner D K J w after j₀ (tag-reach D K J blank-slash t) un
meets-sooner D K J (no_value {w} {n} {b} {c} {j₀} t h bb bc) =
    no_value_sooner D K J w n b c j₀ (tag-reach D K J (front-unblank (n then b then `=` then c) (equals-front n b c h)) t) h bb bc
meets-sooner D K J (end_in_tag {after} {w} {n} {d₀} {k₀} {j₀} {p} v eb nm no-open) =
    end_in_tag-sooner D K J w n after d₀ k₀ j₀
    (element-reach D K J (answer D K J (w ++ (60 ∷ (n ++ after)))) (60 ∷ (n ++ after)) w d₀ k₀ j₀ p eb (reach D K J v)) nm no-open
meets-sooner D K J (open_close_tag {after} {w} {d₀} {k₀} {j₀} v o) = open_close_sooner D K J w after d₀ k₀ j₀ (reach D K J v) o

-- two answers are one
pub as_first : (D K J : ℕ) (s : Bytes) (n p m q : ℕ) → read_document_l D K J s ≡ refused n p → Sooner D K J s m q → (p < q) ⊎ ((p ≡ q) × (n ≤ m))
as_first D K J s n p m q e h =
    let same_answer : ◌≡◌ {A = Result} (refused h.number h.place) (refused n p) = sym h.answered ∙ e in
    let n_is : h.number ≡ n = cc in
    let p_is : h.place ≡ p = cc in
    subst (λ z. (z < q) ⊎ ((z ≡ q) × (n ≤ m))) p_is (subst (λ z. (h.place < q) ⊎ ((h.place ≡ q) × (z ≤ m))) n_is h.no_later)

pub no_other : (n p m q : ℕ) → (p < q) ⊎ ((p ≡ q) × (n ≤ m)) → (q < p) ⊎ ((q ≡ p) × (m ≤ n)) → (n ≡ m) × (p ≡ q)
no_other n p m q (inl a) (inl b) = absurd (omega (arith, a, b))
no_other n p m q (inl a) (inr b) = absurd (omega (arith, a, b.0))
no_other n p m q (inr a) (inl b) = absurd (omega (arith, a.0, b))
no_other n p m q (inr a) (inr b) = (omega (arith, a.1, b.1), a.0)

-- The reader refuses a text with a number and a place exactly if it is the first number that the text meets.
pub exactly : (D K J : ℕ) (s : Bytes) (n p : ℕ) → (read_document_l D K J s ≡ refused n p) ↔ FirstMet D K J s n p
exactly D K J s n p = (
  (λ e. record { met = refused-meets D K J s n p e; first = λ m q h. as_first D K J s n p m q e (meets-sooner D K J h) }),
  (λ h.
      let a = meets-sooner D K J h.met in
      let b = no_other a.number a.place n p a.no_later
      (h.first a.number a.place (refused-meets D K J s a.number a.place a.answered)) in
      a.answered ∙ ap₂ refused b.0 b.1),
)
