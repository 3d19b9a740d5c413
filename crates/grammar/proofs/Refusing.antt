-- A number that the reader with the limits answers is met at its place. Assumes nothing.
--     attribute-fails        what an attribute that fails has met
--     attributes-snoc, opening-snoc, tag-snoc          a start tag, an attribute later
--     attributes-refused, element-refused, node-refused, content_refused, nodes-refused   after a viable prefix
--     refused-meets
use mathlib.Core.Path.{◌≡◌, refl, sym, ap, ap₂, ◌∙◌, subst}
use Prim.Native.Nat.{ℕ, zero, suc, ◌+◌, ◌-◌, ◌≤◌, ◌<◌}
use native.Mathlib.Omega.{arith}
use mathlib.Core.Logic.{◌⊎◌, inl, inr}
use mathlib.Core.Bool.{false}
use mathlib.Core.List.{List, [], ◌∷◌, ◌++◌, append-nil, append_assoc, cons≢nil, nil≢cons, head-eq_of_cons-eq}
use lib.ListN.{length, drop, length-append}
use lib.Dec.{eqb}
use Rattle.scan.specs.Bytes.{blank, name_byte, attr_name_byte, other}
use Rattle.grammar.specs.Words.{Bytes, ◌then◌, Only, Stops, Run, Begins}
use Rattle.grammar.specs.Tree.{Attr, attr, Tree, element, Forest, none, more, quote}
use Rattle.grammar.specs.Tree.{`<`, `>`, `/`, `=`, `</`, `<!--`, `-->`}
use Rattle.grammar.specs.Grammar.{Blanks, Name, Attribute, Attributes, no_attribute, attribute, Opening, opening, Before, a_comment, no_comment}
use Rattle.grammar.specs.Limits.{tree_nodes, tree_attrs}
use Rattle.grammar.specs.Demand.{refused}
use Rattle.grammar.specs.Scan.{run, past, beyond}
use Rattle.grammar.proofs.Reader.{Res, next, map_res, value_as, read_value, after_name_as, after_name, read_attribute, tag_end, attributes_as}
use Rattle.grammar.proofs.Reader.{attributes_step, read_attributes, slash_as, after_slash, opened_as, after_opening, after_tag_name, read_element}
use Rattle.grammar.proofs.Reader.{NodeKind, Kind, kind, node_as, after_close, read_content, past_prolog, ok, bad, as_text, as_section}
use Rattle.grammar.proofs.Reader.{as_element, as_close, as_comment, as_node}
use Rattle.grammar.proofs.Counted.{LRes, lnext, lmap, lift, Counted, attributes_as_l, attributes_step_l, attributes_l, opened_as_l, after_opening_l}
use Rattle.grammar.proofs.Counted.{after_tag_name_l, element_l, node_l, content_as_l, content_step_l, content_l, nodes_as_l, nodes_step_l, nodes_l}
use Rattle.grammar.proofs.Counted.{finish_l, read_document_l, lok, lbad}
use Rattle.grammar.specs.Refusals.{ElementBegins, NodeBegins, AttributeBegins, Viable, InStartTag, in_start_tag, Meets, too_deep}
use Rattle.grammar.specs.Refusals.{too_many_nodes, no_tag_name, too_many_attributes, slash, no_value, end_in_tag, open_close_tag}
use Rattle.scan.proofs.Every.{by-test}
use Rattle.grammar.proofs.Tests.{not_both, eqb_eq, equals-byte, or_else}
use Rattle.grammar.proofs.Scans.{run_past, run_only, past-stops, run_is, past_is}
use Rattle.grammar.proofs.Complete.{blank-gt, AtTagEnd, opening-complete, kind_close, kind_comment}
use Rattle.grammar.proofs.Sound.{AttributeS, AttributesS, all_blanks, begins_name, attribute-sound, attributes-sound, ContentS, View, view}
use Rattle.grammar.proofs.Sound.{NodeS, node-sound, comment-sound, content_sound, prolog-sound, closes, comments, elements}
use Rattle.grammar.proofs.Simulation.{SimA, SimT, attributes-sim, InStep, node-sim, content_sim, same, over, fails}
use Rattle.grammar.proofs.Ends.{Ends, past-length, attribute-ends, comment-ends}
use Rattle.grammar.proofs.CountedEnds.{EndsL, ContentEnds, node_end, content_end}

-- ---- what an attribute that fails has met

-- a name or none, blanks, `=`, and only blanks to the end; k bytes are left at the `=`
pub record NoValue (s : Bytes) (m k : ℕ) : Type 0 where
  pub number : m ≡ 9
  pub name : Bytes
  pub gap : Bytes
  pub rest : Bytes
  pub is : s ≡ name then gap then `=` then rest
  pub left : k ≡ suc (length rest)
  pub name_is : Name attr_name_byte (gap then `=` then rest) name ⊎ ((name ≡ []) × (gap ≡ []))
  pub gap_blank : Blanks gap
  pub rest-blank : Blanks rest

abbrev pub AttributeF : Bytes → Res Attr → Type 0
AttributeF s (ok a r) = Unit {0}
AttributeF s (bad m l) = NoValue s m l

pub value-fails : (n b t : Bytes) → Name attr_name_byte (b then `=` then t) n ⊎ ((n ≡ []) × (b ≡ [])) → Blanks b
    → AttributeF (n then b then `=` then t) (map_res (attr n) (read_value (suc (length t)) (past blank t)))
unfolding read_value value_as
value-fails n b t h bb = go (past blank t) refl
  where
    go : (z : Bytes) → past blank t ≡ z → AttributeF (n then b then `=` then t) (map_res (attr n) (read_value (suc (length t)) z))
    go [] e = record {
      number = refl;
      name = n;
      gap = b;
      rest = t;
      is = refl;
      left = refl;
      name_is = h;
      gap_blank = bb;
      rest-blank = subst Blanks (sym (run_past blank t ∙ ap (run blank t ++◌) e ∙ append-nil (run blank t))) (all_blanks t);
    }
    go (q ∷ z) e = by-test (quote q) (λ u. rw u tt) (λ u. rw u tt)

pub name_fails : (n m : Bytes) → Name attr_name_byte m n → AttributeF (n ++ m) (after_name n (past blank m))
unfolding after_name after_name_as
name_fails n m nm = go (past blank m) refl
  where
    go : (t : Bytes) → past blank m ≡ t → AttributeF (n ++ m) (after_name n t)
    go [] e = tt
    go (c ∷ t) e =
        by-test (eqb c 61)
        (λ q.
        let m_is : m ≡ run blank m ++ (61 ∷ t) = run_past blank m ∙ ap (run blank m ++◌) (e ∙ ap (◌∷ t) (eqb_eq c 61 q)) in
        rw q (subst (λ z. AttributeF (n ++ z) (map_res (attr n) (read_value (suc (length t)) (past blank t)))) (sym m_is)
        (value-fails n (run blank m) t (inl (subst (λ z. Name attr_name_byte z n) m_is nm)) (all_blanks m))))
        (λ q. rw q tt)

pub nameless-fails : (s : Bytes) → AttributeF (61 ∷ s) (read_attribute (61 ∷ s))
unfolding read_attribute after_name after_name_as run past attr_name_byte blank
nameless-fails s = value-fails [] [] s (inr (refl, refl)) (record { all = tt })

pub attribute-fails : (a : ℕ) (s : Bytes) → blank a ≡ false → tag_end a ≡ false → AttributeF (a ∷ s) (read_attribute (a ∷ s))
unfolding read_attribute attr_name_byte
attribute-fails a s u i =
    by-test (attr_name_byte a)
    (λ e. subst (λ z. AttributeF z (read_attribute (a ∷ s))) (sym (run_past attr_name_byte (a ∷ s)))
    (name_fails (run attr_name_byte (a ∷ s)) (past attr_name_byte (a ∷ s))
    (record { run = record { only = run_only attr_name_byte (a ∷ s); longest = past-stops attr_name_byte (a ∷ s) }; some_byte = begins_name a s e })))
    (λ e. subst (λ z. AttributeF (z ∷ s) (read_attribute (z ∷ s)))
    (sym (eqb_eq a 61 (equals-byte (blank a) (eqb a 62) (eqb a 47) (eqb a 61) e u i)))
    (nameless-fails s))

-- ---- an attribute more

pub attributes-snoc : {after w : Bytes} {l : List Attr} (u b r : Bytes) (a : Attr) → after ≡ u then b then r → Attributes after w l
    → Attribute (b then r) u a
    → Blanks b → Attributes r (w then u then b) (l ++ (a ∷ []))
attributes-snoc u b r a e no_attribute x y = subst (λ z. Attributes r z (a ∷ [])) (ap (u ++◌) (append-nil b)) (attribute x y no_attribute)
attributes-snoc {after} u b r a e (attribute {u = u₁} {b = b₁} {w = w₁} {a = a₁} {l = l₁} x₁ y₁ z₁) x y =
    let assoc : b₁ ++ (w₁ ++ (u ++ (b ++ r))) ≡ b₁ ++ ((w₁ ++ (u ++ b)) ++ r) = simp append_assoc in
    let assoc₂ : (u₁ ++ (b₁ ++ w₁)) ++ (u ++ b) ≡ u₁ ++ (b₁ ++ (w₁ ++ (u ++ b))) = simp append_assoc in
    subst (λ z. Attributes r z (a₁ ∷ (l₁ ++ (a ∷ [])))) (sym assoc₂)
    (attribute (subst (λ z. Attribute z u₁ a₁) (ap (λ z. b₁ ++ (w₁ ++ z)) e ∙ assoc) x₁) y₁ (attributes-snoc u b r a e z₁ x y))

pub opening-snoc : {after o n : Bytes} {l : List Attr} (u b r : Bytes) (a : Attr) → after ≡ u then b then r → Opening after o n l
    → Attribute (b then r) u a
    → Blanks b → Opening r (o then u then b) n (l ++ (a ∷ []))
opening-snoc {after} u b r a e (opening {n} {b = b₁} {w = w₁} {l} nm bb at) x y =
    let assoc : (60 ∷ (n ++ (b₁ ++ w₁))) ++ (u ++ b) ≡ 60 ∷ (n ++ (b₁ ++ (w₁ ++ (u ++ b)))) = simp append_assoc in
    let assoc₂ : b₁ ++ (w₁ ++ (u ++ (b ++ r))) ≡ b₁ ++ ((w₁ ++ (u ++ b)) ++ r) = simp append_assoc in
    subst (λ z. Opening r z n (l ++ (a ∷ []))) (sym assoc)
    (opening (subst (λ z. Name name_byte z n) (ap (λ z. b₁ ++ (w₁ ++ z)) e ∙ assoc₂) nm) bb (attributes-snoc u b r a e at x y))

pub tag-snoc : {after w : Bytes} {j : ℕ} (u b r : Bytes) (a : Attr) → after ≡ u then b then r → InStartTag after w j → Attribute (b then r) u a
    → Blanks b
    → InStartTag r (w then u then b) (j + 1)
tag-snoc u b r a e (in_start_tag {w = w} {o = o} {n = n} {d = d} {k = k} {j = j} {p = p} {l = l} v eb op) x y =
    let assoc : (o ++ (u ++ b)) ++ r ≡ o ++ (u ++ (b ++ r)) = simp append_assoc in
    let assoc₂ : (w ++ o) ++ (u ++ b) ≡ w ++ (o ++ (u ++ b)) = simp append_assoc in
    let all = ap (o ++◌) e ∙ sym assoc in
    let count : j + length (l ++ (a ∷ [])) ≡ j + length l + 1 = simp length-append (omega arith) in
    subst (λ z. InStartTag r z (j + length l + 1)) (sym assoc₂)
    (subst (λ z. InStartTag r (w ++ (o ++ (u ++ b))) z) count
    (in_start_tag (subst (λ z. Viable z w d k j p) all v) (subst (λ z. ElementBegins z) all eb) (opening-snoc u b r a e op x y)))

-- ---- numbers and their places

pub meets_at : (D K J : ℕ) (x y : Bytes) (m q q₂ : ℕ) → x ≡ y → q ≡ q₂ → Meets D K J x m q → Meets D K J y m q₂
meets_at D K J x y m q q₂ e f h = subst (λ z. Meets D K J z m q₂) e (subst (λ z. Meets D K J x m z) f h)

-- what is answered for the text x
abbrev pub RefusedS : {A : Type 0} → (D K J : ℕ) → Bytes → LRes A → Type 0
RefusedS D K J x (lok a k j r) = Unit {0}
RefusedS D K J x (lbad m l) = Meets D K J x m (length x - l)

pub refused-map : {A B : Type 0} (D K J : ℕ) (x : Bytes) (f : A → B) (v : LRes A) → RefusedS D K J x v → RefusedS D K J x (lmap f v)
refused-map D K J x f (lok a k j r) h = h
refused-map D K J x f (lbad m l) h = h

pub place : (w s : Bytes) → length w ≡ length (w ++ s) - length s
place w s = simp length-append (omega arith)

-- ---- attributes

-- the attributes of the text x: the reader without limits gives u
abbrev pub AttributesF : (D K J : ℕ) → Bytes → Res (List Attr) → LRes (List Attr) → Type 0
AttributesF D K J x u (lok l k j r) = Unit {0}
AttributesF D K J x u (lbad m l) = Meets D K J x m (length x - l) ⊎ ((u ≡ bad 10 0) × (m ≡ 10) × (l ≡ 0))

pub attributes-map : (D K J : ℕ) (x : Bytes) (a : Attr) (u : Res (List Attr)) (v : LRes (List Attr)) → AttributesF D K J x u v
    → AttributesF D K J x (map_res (a ∷◌) u) (lmap (a ∷◌) v)
attributes-map D K J x a u (lok l k j r) h = tt
attributes-map D K J x a u (lbad m l) (inl h) = inl h
attributes-map D K J x a u (lbad m l) (inr h) = inr (ap (map_res (a ∷◌)) h.0, h.1, h.2)

pub attributes-over : (D K J : ℕ) (x : Bytes) (n k j : ℕ) → 0 < n → AttributesF D K J x (read_attributes n []) (attributes_l n k j [])
unfolding read_attributes attributes_step attributes_l attributes_step_l
attributes-over D K J x zero k j g = absurd (omega (arith, g))
attributes-over D K J x (suc n) k j g = inr (refl, refl, refl)

-- the attributes from r on, in a start tag
abbrev pub AttributesR : (D K J n : ℕ) → Bytes → Type 0
AttributesR D K J n x = (k j j₀ : ℕ) (w r : Bytes) → x ≡ w ++ r → InStartTag r w j₀ → j₀ + j ≡ J → Stops blank r → length r < n
    → AttributesF D K J x (read_attributes n r) (attributes_l n k j r)

pub no_value_met : (D K J : ℕ) (x w s : Bytes) (j₀ m l : ℕ) → x ≡ w ++ s → InStartTag s w j₀ → NoValue s m l → Meets D K J x m (length x - l)
no_value_met D K J x w s j₀ m l e t h =
    let n : Bytes = h.name in
    let b : Bytes = h.gap in
    let c : Bytes = h.rest in
    let y : Bytes = w then n then b then `=` then c in
    let all : x ≡ y = e ∙ ap (w ++◌) h.is in
    let at : length (w then n then b) ≡ length x - l =
    rw (ap length all, h.left) (simp length-append (omega arith)) in
    subst (λ z. Meets D K J x z (length x - l)) (sym h.number)
    (meets_at D K J y x 9 (length (w then n then b)) (length x - l) (sym all) at
    (no_value (subst (λ z. InStartTag z w j₀) h.is t) h.name_is h.gap_blank h.rest-blank))

pub attribute-begins : (a : ℕ) (s : Bytes) → blank a ≡ false → tag_end a ≡ false → AttributeBegins (a ∷ s)
unfolding name_byte
attribute-begins a s u i = (a, s, refl, rw (u, i))

module _ (D K J : ℕ) (n : ℕ) (x : Bytes) (ih : AttributesR D K J n x) where
  pub attribute-then_refused : (k j j₀ N : ℕ) (w s : Bytes) (y : Res Attr) → x ≡ w ++ s → InStartTag s w j₀ → j₀ + suc j ≡ J → N < n → Ends N y
      → AttributeS s y → AttributeF s y
      → AttributesF D K J x (next y (λ a r. map_res (a ∷◌) (read_attributes n (past blank r))))
      (lift y (λ a r. lmap (a ∷◌) (attributes_l n k j (past blank r))))
  attribute-then_refused k j j₀ N w s (bad m l) e t c g en so fa = inl (no_value_met D K J x w s j₀ m l e t fa)
  attribute-then_refused k j j₀ N w s (ok a r) e t c g en so fa = go (past blank r) refl
    where
      go : (z : Bytes) → past blank r ≡ z → AttributesF D K J x (map_res (a ∷◌) (read_attributes n (past blank r)))
          (lmap (a ∷◌) (attributes_l n k j (past blank r)))
      go [] q =
          subst (λ z. AttributesF D K J x (map_res (a ∷◌) (read_attributes n z)) (lmap (a ∷◌) (attributes_l n k j z))) (sym q)
          (attributes-map D K J x a (read_attributes n []) (attributes_l n k j []) (attributes-over D K J x n k j (omega arith)))
      go (f ∷ z) q =
          let h = so (λ v. cons≢nil (sym q ∙ v)) in
          let u : Bytes = h.0 in
          let b : Bytes = h.1 in
          let assoc : (w ++ (u ++ b)) ++ past blank r ≡ w ++ (u ++ (b ++ past blank r)) = simp append_assoc in
          attributes-map D K J x a (read_attributes n (past blank r)) (attributes_l n k j (past blank r))
          (ih k j (j₀ + 1) (w then u then b) (past blank r) (e ∙ ap (w ++◌) h.2 ∙ sym assoc) (tag-snoc u b (past blank r) a h.2 t h.3 h.4)
          (omega arith) (past-stops blank r) (omega (arith, past-length blank r)))

  pub attributes-as_refused : (k j j₀ : ℕ) (w : Bytes) (a : ℕ) (s : Bytes) → x ≡ w ++ (a ∷ s) → InStartTag (a ∷ s) w j₀ → j₀ + j ≡ J → blank a
      ≡ false → tag_end a ≡ false
      → length s < n
      → AttributesF D K J x (attributes_as (λ r. read_attributes n r) false (a ∷ s)) (attributes_as_l (λ k j r. attributes_l n k j r) false k j (a ∷ s))
  unfolding attributes_as attributes_as_l
  attributes-as_refused k zero j₀ w a s e t c u i g =
      let j_is : j₀ ≡ J = omega arith in
      inl (meets_at D K J (w ++ (a ∷ s)) x 7 (length w) (length x - length (a ∷ s)) (sym e) (place w (a ∷ s)
      ∙ ap (λ z. length z - length (a ∷ s)) (sym e))
      (too_many_attributes (subst (λ z. InStartTag (a ∷ s) w z) j_is t) (attribute-begins a s u i)))
  attributes-as_refused k (suc j) j₀ w a s e t c u i g =
      attribute-then_refused k j j₀ (length s) w (a ∷ s) (read_attribute (a ∷ s)) e t c g (attribute-ends a s u i) (attribute-sound a s u i)
      (attribute-fails a s u i)

pub attributes-refused : (D K J n : ℕ) (x : Bytes) → AttributesR D K J n x
unfolding read_attributes attributes_step attributes_as attributes_l attributes_step_l attributes_as_l
attributes-refused D K J zero x k j j₀ w r e t c h g = absurd (omega (arith, g))
attributes-refused D K J (suc n) x k j j₀ w [] e t c h g = inr (refl, refl, refl)
attributes-refused D K J (suc n) x k j j₀ w (a ∷ s) e t c h g =
    by-test (tag_end a) (λ i. rw i tt)
    (λ i. rw i (attributes-as_refused D K J n x (λ k j j₀ w r e t c h g. attributes-refused D K J n x k j j₀ w r e t c h g) k j j₀ w a s e t c h i
    (omega arith)))

-- ---- start tags

-- where the attributes are read, the reader without limits reads the same ones
abbrev pub AttributesL : (k j : ℕ) → Res (List Attr) → LRes (List Attr) → Type 0
AttributesL k j u (lok l k₂ j₂ r) = (u ≡ ok l r) × (k ≡ k₂) × (j ≡ length l + j₂)
AttributesL k j u (lbad m l) = Unit {0}

pub attributes-l : (k j : ℕ) (u : Res (List Attr)) (v : LRes (List Attr)) → SimA k j u v → AttributesL k j u v
attributes-l k j u v (same l k₂ j₂ x y z) = (refl, omega (arith, y), z)
attributes-l k j u v (over l h) = tt
attributes-l k j u v fails = tt

-- a start tag that ends is not refused by 10
pub not_ten : (n : Bytes) (l : List Attr) (r : Bytes) → Begins `>` r ⊎ Begins `/` r → after_opening (λ s. ok none s) n l r ≡ bad 10 0 → ⊥
unfolding after_opening opened_as after_slash slash_as
not_ten n l r (inl h) e =
    let q : ◌≡◌ {A = Res Tree} (ok (element n l none) h.0) (bad 10 0) = sym (ap (after_opening (λ s. ok none s) n l) h.1) ∙ e in
    let z : ◌≡◌ {A = ℕ} 0 1 = cc in omega arith
not_ten n l r (inr h) e = go (past blank h.0) (sym (ap (after_opening (λ s. ok none s) n l) h.1) ∙ e)
  where
    go : (s : Bytes) → after_slash (suc (length h.0)) (element n l none) s ≡ bad 10 0 → ⊥
    go [] q = let z : ◌≡◌ {A = ℕ} 8 10 = cc in omega arith
    go (a ∷ s) q =
        by-test (eqb a 62)
        (λ t. let y : ◌≡◌ {A = Res Tree} (ok (element n l none) s) (bad 10 0) =
        ap (λ b. slash_as b (suc (length h.0)) (element n l none) s) (sym t) ∙ q in let z : ◌≡◌ {A = ℕ} 0 1 = cc in omega arith)
        (λ t. let y : ◌≡◌ {A = Res Tree} (bad 8 (suc (length h.0))) (bad 10 0) =
        ap (λ b. slash_as b (suc (length h.0)) (element n l none) s) (sym t) ∙ q in let z : ◌≡◌ {A = ℕ} 8 10 = cc in omega arith)

pub at_tag_end : (r : Bytes) → Begins `>` r ⊎ Begins `/` r → AtTagEnd r
at_tag_end r (inl h) = (62, h.0, h.1, refl)
at_tag_end r (inr h) = (47, h.0, h.1, refl)

pub no_opening : (c : ℕ) (n m : Bytes) → Run name_byte m (c ∷ n) → read_attributes (suc (length (past blank m))) (past blank m) ≡ bad 10 0
    → (o r name : Bytes) (l : List Attr) → `<` then (c ∷ n) then m ≡ o then r → Opening r o name l → ¬ (Begins `>` r ⊎ Begins `/` r)
unfolding read_element after_tag_name
no_opening c n m h e o r name l q op end =
    let rec : Bytes → Res Forest = λ s. ok none s in
    let s : Bytes = (c ∷ n) ++ m in
    let ten : read_element rec s ≡ bad 10 0 =
    ap₂ (λ y z. after_tag_name rec (suc (length s)) y (past blank z)) (run_is name_byte (c ∷ n) m h.only h.longest)
    (past_is name_byte (c ∷ n) m h.only h.longest)
    ∙ ap (λ y. next y (after_opening rec (c ∷ n))) e in
    not_ten name l r end (sym (opening-complete rec (at_tag_end r end) op) ∙ ap (λ y. read_element rec (drop 1 y)) (sym q) ∙ ten)

-- a reader of content inside one more element
abbrev pub ContentR : (D K J N d₀ : ℕ) → Before → Counted Forest → Type 0
ContentR D K J N d₀ p rec =
    (w s : Bytes) (k₀ j₀ k j : ℕ) → Viable s w d₀ k₀ j₀ p → k₀ + k ≡ K → j₀ + j ≡ J → length s < N → RefusedS D K J (w ++ s) (rec k j s)

module _ (D K J N d₀ : ℕ) (rec : Counted Forest) (ih : ContentR D K J N (suc d₀) no_comment rec) (w : Bytes) (k₀ j₀ : ℕ) (p : Before) where
  pub slash-refused : (o n : Bytes) (l : List Attr) (k j : ℕ) (t : Bytes) → Viable (o then `/` then t) w d₀ k₀ j₀ p
      → ElementBegins (o then `/` then t)
      → Opening (`/` then t) o n l
      → RefusedS D K J (w ++ (o ++ (47 ∷ t))) (lift (after_slash (suc (length t)) (element n l none) (past blank t)) (λ t r. lok t k j r))
  unfolding after_slash slash_as
  slash-refused o n l k j t v eb op = go (past blank t) refl
    where
      x : Bytes
      x = w ++ (o ++ (47 ∷ t))

      met : ((b r : Bytes) → Blanks b → ¬ (t ≡ b then `>` then r)) → Meets D K J x 8 (length x - suc (length t))
      met h =
          let assoc : (w ++ o) ++ (47 ∷ t) ≡ x = append_assoc w o (47 ∷ t) in
          meets_at D K J ((w ++ o) ++ (47 ∷ t)) x 8 (length (w ++ o)) (length x - suc (length t)) assoc
          (place (w ++ o) (47 ∷ t) ∙ ap (λ z. length z - suc (length t)) assoc) (slash (in_start_tag v eb op) h)

      past-mark : (b r : Bytes) → Blanks b → t ≡ b then `>` then r → past blank t ≡ 62 ∷ r
      past-mark b r bb e = ap (past blank) e ∙ past_is blank b (62 ∷ r) bb.all blank-gt

      go : (z : Bytes) → past blank t ≡ z → RefusedS D K J x (lift (after_slash (suc (length t)) (element n l none) z) (λ t r. lok t k j r))
      go [] q = met (λ b r bb e. nil≢cons (sym q ∙ past-mark b r bb e))
      go (c ∷ z) q =
          by-test (eqb c 62) (λ h. rw h tt)
          (λ h. rw h (met (λ b r bb e. not_both (eqb c 62) (rw (head-eq_of_cons-eq (sym q ∙ past-mark b r bb e)) refl) h)))

  pub opened-refused : (o n : Bytes) (l : List Attr) (k j : ℕ) (r : Bytes) → Viable (o then r) w d₀ k₀ j₀ p → ElementBegins (o then r)
      → Opening r o n l → AtTagEnd r
      → k₀ + suc k ≡ K → j₀ + (length l + j) ≡ J → length r ≤ N → RefusedS D K J (w ++ (o ++ r)) (after_opening_l rec n l k j r)
  unfolding after_opening_l opened_as_l
  opened-refused o n l k j [] v eb op end ck cj g = absurd (nil≢cons end.2)
  opened-refused o n l k j (a ∷ t) v eb op end ck cj g =
      by-test (eqb a 62)
      (λ h.
      let a_is : a ≡ 62 = eqb_eq a 62 h in
      let vt : Viable (o ++ (62 ∷ t)) w d₀ k₀ j₀ p = subst (λ z. Viable (o ++ (z ∷ t)) w d₀ k₀ j₀ p) a_is v in
      let et : ElementBegins (o ++ (62 ∷ t)) = subst (λ z. ElementBegins (o ++ (z ∷ t))) a_is eb in
      let ot : Opening (62 ∷ t) o n l = subst (λ z. Opening (z ∷ t) o n l) a_is op in
      let assoc : (w ++ (o ++ (62 ∷ []))) ++ t ≡ w ++ (o ++ (62 ∷ t)) = simp append_assoc in
      rw h (refused-map D K J (w ++ (o ++ (a ∷ t))) (element n l) (rec k j t)
      (subst (λ z. RefusedS D K J z (rec k j t)) (assoc ∙ ap (λ z. w ++ (o ++ (z ∷ t))) (sym a_is))
      (ih (w ++ (o ++ (62 ∷ []))) t (suc k₀) (j₀ + length l) k j (Viable.start-tag vt et ot) (omega arith) (omega arith) (omega arith)))))
      (λ h.
      let a_is : a ≡ 47 = eqb_eq a 47 (or_else (eqb a 62) (eqb a 47) (ap tag_end (head-eq_of_cons-eq end.2) ∙ end.3) h) in
      rw h (subst (λ z. RefusedS D K J (w ++ (o ++ (z ∷ t)))
      (lift (after_slash (suc (length t)) (element n l none) (past blank t)) (λ t r. lok t k j r))) (sym a_is)
      (slash-refused o n l k j t (subst (λ z. Viable (o ++ (z ∷ t)) w d₀ k₀ j₀ p) a_is v) (subst (λ z. ElementBegins (o ++ (z ∷ t))) a_is eb)
      (subst (λ z. Opening (z ∷ t) o n l) a_is op))))

  pub attributes-then_refused : (n b a t m : Bytes) (l : List Attr) (k j : ℕ) → m ≡ b ++ (a ++ t) → Viable (60 ∷ (n ++ m)) w d₀ k₀ j₀ p
      → ElementBegins (60 ∷ (n ++ m))
      → Name name_byte m n → Blanks b → Attributes t a l → AtTagEnd t → k₀ + suc k ≡ K → j₀ + (length l + j) ≡ J → length t ≤ N
      → RefusedS D K J (w ++ (60 ∷ (n ++ m))) (after_opening_l rec n l k j t)
  attributes-then_refused n b a t m l k j e v eb nm bb at end ck cj g =
      let assoc : (60 ∷ (n ++ (b ++ a))) ++ t ≡ 60 ∷ (n ++ (b ++ (a ++ t))) = simp append_assoc in
      let here : 60 ∷ (n ++ m) ≡ (60 ∷ (n ++ (b ++ a))) ++ t = ap (λ z. 60 ∷ (n ++ z)) e ∙ sym assoc in
      subst (λ z. RefusedS D K J (w ++ z) (after_opening_l rec n l k j t)) (sym here)
      (opened-refused (60 ∷ (n ++ (b ++ a))) n l k j t (subst (λ z. Viable z w d₀ k₀ j₀ p) here v) (subst (λ z. ElementBegins z) here eb)
      (opening (subst (λ z. Name name_byte z n) e nm) bb at) end ck cj g)

  pub tag-refused : (n m : Bytes) (k j : ℕ) → Viable (60 ∷ (n ++ m)) w d₀ k₀ j₀ p → ElementBegins (60 ∷ (n ++ m)) → Run name_byte m n → k₀ + suc k
      ≡ K → j₀ + j ≡ J
      → length m ≤ N → RefusedS D K J (w ++ (60 ∷ (n ++ m))) (after_tag_name_l rec (suc (length (n ++ m))) n k j (past blank m))
  unfolding after_tag_name_l
  tag-refused [] m k j v eb h ck cj g =
      meets_at D K J (w ++ (60 ∷ m)) (w ++ (60 ∷ m)) 6 (length w) (length (w ++ (60 ∷ m)) - suc (length m)) refl (place w (60 ∷ m))
      (no_tag_name v eb h.longest)
  tag-refused (c ∷ n) m k j v eb h ck cj g =
      go (read_attributes (suc (length r)) r) refl (attributes_l (suc (length r)) k j r)
      (attributes-refused D K J (suc (length r)) x k j (j₀ + 0) (w ++ (`<` then name then b)) r all
      (in_start_tag {l = []} v₂ eb₂ (op [] no_attribute)) (omega arith) (past-stops blank m) (omega arith))
      (attributes-l k j (read_attributes (suc (length r)) r) (attributes_l (suc (length r)) k j r) (attributes-sim (suc (length r)) k j r))
      (attributes-sound (suc (length r)) r (past-stops blank m))
    where
      name : Bytes
      name = c ∷ n

      b : Bytes
      b = run blank m

      r : Bytes
      r = past blank m

      x : Bytes
      x = w ++ (60 ∷ (name ++ m))

      m_is : m ≡ b ++ r
      m_is = run_past blank m

      assoc : (`<` then name then b) ++ r ≡ 60 ∷ (name ++ (b ++ r))
      assoc = simp append_assoc

      all : x ≡ (w ++ (`<` then name then b)) ++ r
      all = ap (λ z. w ++ (60 ∷ (name ++ z))) m_is ∙ ap (w ++◌) (sym assoc) ∙ sym (append_assoc w (`<` then name then b) r)

      v₂ : Viable ((`<` then name then b) ++ r) w d₀ k₀ j₀ p
      v₂ = subst (λ z. Viable z w d₀ k₀ j₀ p) (ap (λ z. 60 ∷ (name ++ z)) m_is ∙ sym assoc) v

      eb₂ : ElementBegins ((`<` then name then b) ++ r)
      eb₂ = subst (λ z. ElementBegins z) (ap (λ z. 60 ∷ (name ++ z)) m_is ∙ sym assoc) eb

      op : (l : List Attr) → Attributes r [] l → Opening r (`<` then name then b) name l
      op l at =
          subst (λ z. Opening r (60 ∷ (name ++ z)) name l) (append-nil b)
          (opening (record { run = subst (λ z. Run name_byte z name) m_is h; some_byte = cons≢nil }) (all_blanks m) at)

      go : (u : Res (List Attr)) → read_attributes (suc (length r)) r ≡ u → (y : LRes (List Attr)) → AttributesF D K J x u y → AttributesL k j u y
          → AttributesS r u
          → RefusedS D K J x (lnext y (λ l k j r. after_opening_l rec name l k j r))
      go u e (lbad i q) (inl f) s z = f
      go u e (lbad i q) (inr f) s z =
          subst (λ a. Meets D K J x a (length x - q)) (sym f.1)
          (meets_at D K J x x 10 (length x) (length x - q) refl (rw f.2 (omega arith))
          (end_in_tag v eb (record { run = h; some_byte = cons≢nil }) (no_opening c n m h (e ∙ f.0))))
      go u e (lok l k₂ j₂ t) f s z =
          let q = subst (AttributesS r) s.0 z in
          let short : length t ≤ N = omega (arith, ap length q.1.1, length-append q.1.0 t, past-length blank m) in
          attributes-then_refused name b q.1.0 t m l k₂ j₂ (m_is ∙ ap (b ++◌) q.1.1) v eb (record { run = h; some_byte = cons≢nil })
          (all_blanks m) q.1.2 q.0
          (omega (arith, s.1)) (omega (arith, s.2)) short

  pub element-refused : (k j : ℕ) (s : Bytes) → Viable (60 ∷ s) w d₀ k₀ j₀ p → ElementBegins (60 ∷ s) → k₀ + suc k ≡ K → j₀ + j ≡ J → length s ≤ N
      → RefusedS D K J (w ++ (60 ∷ s)) (element_l rec k j s)
  unfolding element_l
  element-refused k j s v eb ck cj g =
      let n : Bytes = run name_byte s in
      let m : Bytes = past name_byte s in
      let s_is : s ≡ n ++ m = run_past name_byte s in
      subst (λ z. RefusedS D K J (w ++ (60 ∷ z)) (after_tag_name_l rec (suc (length z)) n k j (past blank m))) (sym s_is)
      (tag-refused n m k j (subst (λ z. Viable (60 ∷ z) w d₀ k₀ j₀ p) s_is v) (subst (λ z. ElementBegins (60 ∷ z)) s_is eb)
      (record { only = run_only name_byte s; longest = past-stops name_byte s }) ck cj (omega (arith, past-length name_byte s)))

-- ---- nodes

pub no_close : (s : Bytes) (i : NodeKind) → kind s ≡ as_node i → ¬ Begins `</` s
no_close s i e h = let q = kind_close s h in let z : ◌≡◌ {A = ℕ} 0 1 = cc in omega arith

pub no_comment-here : (s : Bytes) (i : NodeKind) → kind s ≡ as_node i → ¬ Begins `<!--` s
no_comment-here s i e h = let q = kind_comment s h in let z : ◌≡◌ {A = ℕ} 0 1 = cc in omega arith

pub node-begins : (a : ℕ) (s : Bytes) (i : NodeKind) → kind (a ∷ s) ≡ as_node i → NodeBegins (a ∷ s)
node-begins a s i e = (cons≢nil, no_close (a ∷ s) i e, no_comment-here (a ∷ s) i e)

pub element-begins : (a : ℕ) (s : Bytes) → kind (a ∷ s) ≡ as_node as_element → View (a ∷ s) (as_node as_element) → ElementBegins (a ∷ s)
element-begins a s e (elements h k l) = (h, no_close (a ∷ s) as_element e, k, l)

module _ (D K J : ℕ) (w : Bytes) (d₀ k₀ j₀ : ℕ) (p : Before) where
  pub too_many_met : (a : ℕ) (s : Bytes) (i : NodeKind) → kind (a ∷ s) ≡ as_node i → Viable (a ∷ s) w d₀ k₀ j₀ p → k₀ + 0 ≡ K
      → Meets D K J (w ++ (a ∷ s)) 5 (length (w ++ (a ∷ s)) - length (a ∷ s))
  too_many_met a s i e v c =
      let k_is : k₀ ≡ K = omega arith in
      meets_at D K J (w ++ (a ∷ s)) (w ++ (a ∷ s)) 5 (length w) (length (w ++ (a ∷ s)) - length (a ∷ s)) refl (place w (a ∷ s))
      (too_many_nodes (subst (λ z. Viable (a ∷ s) w d₀ z j₀ p) k_is v) (node-begins a s i e))

  pub too_deep-met : (a : ℕ) (s : Bytes) → kind (a ∷ s) ≡ as_node as_element → View (a ∷ s) (as_node as_element) → Viable (a ∷ s) w d₀ k₀ j₀ p
      → d₀ + 0 ≡ D
      → Meets D K J (w ++ (a ∷ s)) 4 (length (w ++ (a ∷ s)) - length (a ∷ s))
  too_deep-met a s e h v c =
      let d_is : d₀ ≡ D = omega arith in
      meets_at D K J (w ++ (a ∷ s)) (w ++ (a ∷ s)) 4 (length w) (length (w ++ (a ∷ s)) - length (a ∷ s)) refl (place w (a ∷ s))
      (too_deep (subst (λ z. Viable (a ∷ s) w z k₀ j₀ p) d_is v) (element-begins a s e h))

  pub node-refused : (N : ℕ) (rec : ℕ → Counted Forest) → ((d : ℕ) → suc d₀ + d ≡ D → ContentR D K J N (suc d₀) no_comment (rec d))
      → (a : ℕ) (s : Bytes) (i : NodeKind) → kind (a ∷ s) ≡ as_node i → View (a ∷ s) (as_node i) → Viable (a ∷ s) w d₀ k₀ j₀ p
      → (d k j : ℕ) → d₀ + d ≡ D → k₀ + k ≡ K → j₀ + j ≡ J → length s ≤ N → RefusedS D K J (w ++ (a ∷ s)) (node_l rec i d k j (a ∷ s))
  unfolding node_l
  node-refused N rec ih a s as_text e h v d zero j cd ck cj g = too_many_met a s as_text e v ck
  node-refused N rec ih a s as_text e h v d (suc k) j cd ck cj g = tt
  node-refused N rec ih a s as_section e h v d zero j cd ck cj g = too_many_met a s as_section e v ck
  node-refused N rec ih a s as_section e h v d (suc k) j cd ck cj g = tt
  node-refused N rec ih a s as_element e h v zero k j cd ck cj g = too_deep-met a s e h v cd
  node-refused N rec ih a s as_element e h v (suc d) zero j cd ck cj g = too_many_met a s as_element e v ck
  node-refused N rec ih a s as_element e h v (suc d) (suc k) j cd ck cj g =
      let eb : ElementBegins (a ∷ s) = element-begins a s e h in
      let a_is : a ≡ 60 = head-eq_of_cons-eq eb.0.1 in
      subst (λ z. RefusedS D K J (w ++ (z ∷ s)) (element_l (rec d) k j s)) (sym a_is)
      (element-refused D K J N d₀ (rec d) (ih d (omega arith)) w k₀ j₀ p k j s (subst (λ z. Viable (z ∷ s) w d₀ k₀ j₀ p) a_is v)
      (subst (λ z. ElementBegins (z ∷ s)) a_is eb) ck cj g)

-- where a node is read, the grammar has it, and the counts have fallen by it
abbrev pub NodeL : Bytes → (k j : ℕ) → LRes Tree → Type 0
NodeL s k j (lok t k₂ j₂ r) = NodeS s (ok t r) × (k ≡ tree_nodes t + k₂) × (j ≡ tree_attrs t + j₂)
NodeL s k j (lbad m l) = Unit {0}

pub node-l : (s : Bytes) (d k j : ℕ) (u : Res Tree) (v : LRes Tree) → SimT d k j u v → NodeS s u → NodeL s k j v
node-l s d k j u v (same t k₂ j₂ x y z) h = (h, y, z)
node-l s d k j u v (over t q) h = tt
node-l s d k j u v fails h = tt

pub node-then_refused : (D K J N d₀ k₀ j₀ : ℕ) (p : Before) (w s : Bytes) (rec : Counted Forest) → ContentR D K J N d₀ no_comment rec
    → (k j M : ℕ) (v : LRes Tree)
    → Viable s w d₀ k₀ j₀ p → k₀ + k ≡ K → j₀ + j ≡ J → M < N → EndsL M v → NodeL s k j v → RefusedS D K J (w ++ s) v
    → RefusedS D K J (w ++ s) (lnext v (λ t k j r. lmap (more t) (rec k j r)))
node-then_refused D K J N d₀ k₀ j₀ p w s rec ih k j M (lbad m l) v ck cj g e n h = h
node-then_refused D K J N d₀ k₀ j₀ p w s rec ih k j M (lok t k₂ j₂ r) v ck cj g e n h =
    let u : Bytes = n.0.0 in
    let s_is : s ≡ u ++ r = n.0.1 in
    refused-map D K J (w ++ s) (more t) (rec k₂ j₂ r)
    (subst (λ z. RefusedS D K J z (rec k₂ j₂ r)) (append_assoc w u r ∙ ap (w ++◌) (sym s_is))
    (ih (w ++ u) r (k₀ + tree_nodes t) (j₀ + tree_attrs t) k₂ j₂ (Viable.node (subst (λ z. Viable z w d₀ k₀ j₀ p) s_is v) n.0.2)
    (omega (arith, n.1)) (omega (arith, n.2)) (omega arith)))

-- ---- content

pub close_refused : (D K J d₀ k₀ j₀ k j : ℕ) (w s : Bytes) → Viable s w d₀ k₀ j₀ no_comment → 0 < d₀ → Begins `</` s
    → RefusedS D K J (w ++ s) (lift (after_close (length s) (past (other 62) s)) (λ f r. lok f k j r))
unfolding after_close
close_refused D K J zero k₀ j₀ k j w s v g h = absurd (omega (arith, g))
close_refused D K J (suc d₀) k₀ j₀ k j w s v g h = go (past (other 62) s) refl
  where
    x : Bytes
    x = h.0

    go : (z : Bytes) → past (other 62) s ≡ z → RefusedS D K J (w ++ s) (lift (after_close (length s) z) (λ f r. lok f k j r))
    go [] e =
        let only : Only (other 62) s = subst (Only (other 62))
        (sym (run_past (other 62) s ∙ ap (run (other 62) s ++◌) e ∙ append-nil (run (other 62) s))) (run_only (other 62) s) in
        let only_x = subst (Only (other 62)) h.1 only in
        meets_at D K J (w ++ (`</` ++ x)) (w ++ s) 11 (length w) (length (w ++ s) - length s) (ap (w ++◌) (sym h.1)) (place w s)
        (open_close_tag (subst (λ z. Viable z w (suc d₀) k₀ j₀ no_comment) h.1 v) only_x.1.1)
    go (c ∷ z) e = tt

pub content_as_refused : (D K J N : ℕ) (d₀ : ℕ) → 0 < d₀ → (rec : ℕ → Before → Counted Forest)
    → ((d : ℕ) (p : Before) → ContentEnds N (rec d p)) → (un : Before → Bytes → Res Forest) → ((p : Before) → InStep (un p) (λ d. rec d p))
    → ((p : Before) (s : Bytes) → ContentS p s (un p s))
    → ((d : ℕ) → suc d₀ + d ≡ D → ContentR D K J N (suc d₀) no_comment (rec d no_comment)) → (d : ℕ) → d₀ + d ≡ D
    → ((q : Before) → ContentR D K J N d₀ q (rec d q))
    → (p : Before) (w : Bytes) (k₀ j₀ k j a : ℕ) (s : Bytes) → Viable (a ∷ s) w d₀ k₀ j₀ p → k₀ + k ≡ K → j₀ + j ≡ J → length s < N
    → (i : Kind) → kind (a ∷ s) ≡ i → View (a ∷ s) i → RefusedS D K J (w ++ (a ∷ s)) (content_as_l rec d p i k j (a ∷ s))
unfolding content_as_l
content_as_refused D K J N d₀ pos rec ends un sim so deeper d cd ih no_comment w k₀ j₀ k j a s v ck cj g as_close e (closes h) =
    close_refused D K J d₀ k₀ j₀ k j w (a ∷ s) v pos h
content_as_refused D K J N d₀ pos rec ends un sim so deeper d cd ih a_comment w k₀ j₀ k j a s v ck cj g as_close e h = tt
content_as_refused D K J N d₀ pos rec ends un sim so deeper d cd ih p w k₀ j₀ k j a s v ck cj g as_comment e (comments h) =
    let c = comment-sound (a ∷ s) h in
    let r : Bytes = beyond `-->` (a ∷ s) in
    subst (λ z. RefusedS D K J z (rec d a_comment k j r)) (append_assoc w c.0 r ∙ ap (w ++◌) (sym c.1))
    (ih a_comment (w ++ c.0) r k₀ j₀ k j (Viable.comment (subst (λ z. Viable z w d₀ k₀ j₀ p) c.1 v) c.2) ck cj
    (omega (arith, comment-ends a s h)))
content_as_refused D K J N d₀ pos rec ends un sim so deeper d cd ih p w k₀ j₀ k j a s v ck cj g (as_node i) e h =
    node-then_refused D K J N d₀ k₀ j₀ p w (a ∷ s) (rec d no_comment) (ih no_comment) k j (length s) (node_l (λ d. rec d no_comment) i d k j (a ∷ s))
    v ck cj g
    (node_end (λ d. rec d no_comment) N (λ d. ends d no_comment) a s i h d k j (omega arith))
    (node-l (a ∷ s) d k j (node_as (un no_comment) i (a ∷ s)) (node_l (λ d. rec d no_comment) i d k j (a ∷ s))
    (node-sim (un no_comment) (λ d. rec d no_comment) (sim no_comment) i d k j (a ∷ s)) (node-sound (un no_comment) (so no_comment) a s i h))
    (node-refused D K J w d₀ k₀ j₀ p N (λ d. rec d no_comment) deeper a s i e h v d k j cd ck cj (omega arith))

pub content_refused : (D K J n d₀ : ℕ) → 0 < d₀ → (d : ℕ) → d₀ + d ≡ D → (p : Before) → ContentR D K J n d₀ p (content_l n d p)
unfolding content_l content_step_l
content_refused D K J zero d₀ pos d cd p w s k₀ j₀ k j v ck cj g = absurd (omega (arith, g))
content_refused D K J (suc n) d₀ pos d cd p w [] k₀ j₀ k j v ck cj g = tt
content_refused D K J (suc n) d₀ pos d cd p w (a ∷ s) k₀ j₀ k j v ck cj g =
    content_as_refused D K J n d₀ pos (λ d p k j r. content_l n d p k j r) (λ d p k j r h. content_end n d p k j r h) (read_content n) (content_sim n)
    (content_sound n)
    (λ d c w s k₀ j₀ k j v x y z. content_refused D K J n (suc d₀) (omega arith) d c no_comment w s k₀ j₀ k j v x y z) d cd
    (λ q w s k₀ j₀ k j v x y z. content_refused D K J n d₀ pos d cd q w s k₀ j₀ k j v x y z) p w k₀ j₀ k j a s v ck cj (omega arith) (kind (a ∷ s))
    refl (view (a ∷ s))

-- ---- documents

-- a reader of the document's nodes
abbrev pub NodesR : (D K J N : ℕ) → Counted Forest → Type 0
NodesR D K J N rec = (p : Before) → ContentR D K J N 0 p rec

pub nodes-as_refused : (D K J N : ℕ) (content rec : ℕ → Counted Forest) → ((d : ℕ) → ContentEnds N (content d)) → (un : Bytes → Res Forest)
    → InStep un content → ((s : Bytes) → ContentS no_comment s (un s))
    → ((d : ℕ) → 1 + d ≡ D → ContentR D K J N 1 no_comment (content d)) → NodesR D K J N (rec D)
    → (p : Before) (w : Bytes) (k₀ j₀ k j a : ℕ) (s : Bytes) → Viable (a ∷ s) w 0 k₀ j₀ p → k₀ + k ≡ K → j₀ + j ≡ J → length s < N
    → (i : Kind) → kind (a ∷ s) ≡ i → View (a ∷ s) i → RefusedS D K J (w ++ (a ∷ s)) (nodes_as_l content rec D i k j (a ∷ s))
unfolding nodes_as_l
nodes-as_refused D K J N content rec ends un sim so deeper ih p w k₀ j₀ k j a s v ck cj g as_close e h = tt
nodes-as_refused D K J N content rec ends un sim so deeper ih p w k₀ j₀ k j a s v ck cj g as_comment e (comments h) =
    let c = comment-sound (a ∷ s) h in
    let r : Bytes = beyond `-->` (a ∷ s) in
    subst (λ z. RefusedS D K J z (rec D k j r)) (append_assoc w c.0 r ∙ ap (w ++◌) (sym c.1))
    (ih a_comment (w ++ c.0) r k₀ j₀ k j (Viable.comment (subst (λ z. Viable z w 0 k₀ j₀ p) c.1 v) c.2) ck cj
    (omega (arith, comment-ends a s h)))
nodes-as_refused D K J N content rec ends un sim so deeper ih p w k₀ j₀ k j a s v ck cj g (as_node i) e h =
    node-then_refused D K J N 0 k₀ j₀ p w (a ∷ s) (rec D) (ih no_comment) k j (length s) (node_l content i D k j (a ∷ s)) v ck cj g
    (node_end content N ends a s i h D k j (omega arith))
    (node-l (a ∷ s) D k j (node_as un i (a ∷ s)) (node_l content i D k j (a ∷ s)) (node-sim un content sim i D k j (a ∷ s)) (node-sound un so a s i h))
    (node-refused D K J w 0 k₀ j₀ p N content deeper a s i e h v D k j (omega arith) ck cj (omega arith))

pub nodes-refused : (D K J n : ℕ) → NodesR D K J n (nodes_l n D)
unfolding nodes_l nodes_step_l
nodes-refused D K J zero p w s k₀ j₀ k j v ck cj g = absurd (omega (arith, g))
nodes-refused D K J (suc n) p w [] k₀ j₀ k j v ck cj g = tt
nodes-refused D K J (suc n) p w (a ∷ s) k₀ j₀ k j v ck cj g =
    nodes-as_refused D K J n (λ d k j r. content_l n d no_comment k j r) (λ d k j r. nodes_l n d k j r)
    (λ d k j r h. content_end n d no_comment k j r h)
    (λ r. read_content n no_comment r) (content_sim n no_comment) (content_sound n no_comment)
    (λ d c w s k₀ j₀ k j v x y z. content_refused D K J n 1 (omega arith) d c no_comment w s k₀ j₀ k j v x y z)
    (λ q w s k₀ j₀ k j v x y z. nodes-refused D K J n q w s k₀ j₀ k j v x y z) p w k₀ j₀ k j a s v ck cj (omega arith) (kind (a ∷ s)) refl
    (view (a ∷ s))

pub finish_refused : (D K J : ℕ) (x : Bytes) (v : LRes Forest) (m q : ℕ) → RefusedS D K J x v → finish_l (length x) v ≡ refused m q → Meets D K J x m q
finish_refused D K J x (lok f k j r) m q h e = let z : ◌≡◌ {A = ℕ} 0 1 = cc in absurd (omega arith)
finish_refused D K J x (lbad n l) m q h e =
    let n_is : n ≡ m = cc in
    let q_is : length x - l ≡ q = cc in
    subst (λ z. Meets D K J x z q) n_is (subst (λ z. Meets D K J x n z) q_is h)

-- A number that is answered is met at its place.
pub refused-meets : (D K J : ℕ) (s : Bytes) (m q : ℕ) → read_document_l D K J s ≡ refused m q → Meets D K J s m q
unfolding read_document_l
refused-meets D K J s m q e =
    let r : Bytes = past_prolog (suc (length s)) s in
    let h = prolog-sound (suc (length s)) s (omega arith) in
    finish_refused D K J s (nodes_l (suc (length r)) D K J r) m q
    (subst (λ z. RefusedS D K J z (nodes_l (suc (length r)) D K J r)) (sym h.1)
    (nodes-refused D K J (suc (length r)) no_comment h.0 r 0 0 K J (Viable.prolog h.2 h.3) (omega arith) (omega arith) (omega arith))) e
