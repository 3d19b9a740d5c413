-- What the grammar derives, the reader without limits gives; so no text has two trees. Assumes nothing.
--     value-complete, attribute-complete, attributes-complete, opening-complete, node-complete, prolog-complete, nodes-complete
--     complete, unique
use mathlib.Core.Path.{◌≡◌, refl, sym, ap, ap₂, ◌∙◌, subst}
use Prim.Native.Nat.{ℕ, zero, suc, ◌≤◌, ◌<◌}
use native.Mathlib.Omega.{arith}
use mathlib.Core.Logic.{◌⊎◌, inl, inr}
use mathlib.Core.Bool.{Bool, true, false, true≢false}
use mathlib.Core.List.{List, [], ◌∷◌, ◌++◌, append-nil, append_assoc, nil≢cons, head-eq_of_cons-eq, tail-eq_of_cons-eq}
use lib.ListN.{length, drop, length-append}
use lib.Dec.{eqb}
use Rattle.scan.specs.Bytes.{blank, text_byte, name_byte, attr_name_byte, other}
use Rattle.grammar.specs.Words.{Bytes, ◌then◌, Only, Stops, Run, Begins, Lacks, EndsAtFirst, UpTo, closed, unclosed}
use Rattle.grammar.specs.Tree.{Attr, attr, Tree, text, section, element, Forest, none, more, quote}
use Rattle.grammar.specs.Tree.{`>`, `/`, `=`, `</`, `<?`, `<!`, `<!--`, `<![CDATA[`, `]]>`}
use Rattle.grammar.specs.Grammar.{Blanks, Piece, one_blank, instruction, declaration, Prolog, no_piece, piece, NoPiece, Name, Value, quoted}
use Rattle.grammar.specs.Grammar.{unquoted, Attribute, alone, named, nameless, Attributes, no_attribute, attribute, Opening, opening}
use Rattle.grammar.specs.Grammar.{Comment, Before, a_comment, no_comment, Node, a_text, a_section, last_section, an_element, Element}
use Rattle.grammar.specs.Grammar.{without-content, with_content, Content, Nodes, Document, document}
use Rattle.grammar.specs.Demand.{tree}
use Rattle.grammar.specs.Scan.{run, past, prefix, from, before, beyond}
use Rattle.grammar.proofs.Reader.{Res, next, map_res, value_as, read_value, after_name_as, after_name, read_attribute, tag_end, attributes_as}
use Rattle.grammar.proofs.Reader.{attributes_step, read_attributes, slash_as, after_slash, opened_as, after_opening, after_tag_name, read_element}
use Rattle.grammar.proofs.Reader.{NodeKind, kind, node_as, after_close, content_as_lem, content_step_lem, read_content, nodes_as, nodes_step, read_nodes_lem}
use Rattle.grammar.proofs.Reader.{piece_kind, prolog_as, past_prolog, finish, read_document, ok, as_text, as_section, as_element, as_close}
use Rattle.grammar.proofs.Reader.{as_comment, as_node, to_mark, no_more}
use Rattle.scan.proofs.Every.{by-test}
use Rattle.grammar.proofs.Tests.{eqb_same, eqb_eq, test_sym, not_true, or_true, not_or3, not_or4}
use Rattle.grammar.proofs.Scans.{run_past, run_only, past-stops, run_is, past_is, prefix-begins, not_prefix, prefix-not, from_first}
use Rattle.grammar.proofs.Scans.{before-first, from-lacks, before-lacks, beyond-is, up_to}

-- ---- values

pub stop_at : (q : ℕ) → other q q ≡ false
stop_at q = rw (eqb_same q)

pub empty-value : (after : Bytes) (k : ℕ) → Begins `>` after ⊎ Begins `/` after → read_value k after ≡ ok [] after
unfolding read_value value_as quote name_byte blank run past
empty-value after k (inl h) = rw h.1
empty-value after k (inr h) = rw h.1

pub value-complete : {after w v : Bytes} (k : ℕ) → Value after w v → read_value k (w ++ after) ≡ ok v after
unfolding read_value value_as
value-complete {after} k (quoted {q} {v} h o) =
    rw h
    (ap (λ s. ok (run (other q) s) (drop 1 (past (other q) s))) (append_assoc v (q ∷ []) after)
    ∙ ap₂ (λ x y. ok x (drop 1 y)) (run_is (other q) v (q ∷ after) o (stop_at q)) (past_is (other q) v (q ∷ after) o (stop_at q)))
value-complete {after} k (unquoted {v} f r e) = go v f r e
  where
    go : (v : Bytes) → Stops quote v → Run name_byte after v → (v ≡ [] → Begins `>` after ⊎ Begins `/` after) → read_value k (v ++ after) ≡ ok v after
    go [] f r e = empty-value after k (e refl)
    go (a ∷ v) f r e = rw f (ap₂ ok (run_is name_byte (a ∷ v) after r.only r.longest) (past_is name_byte (a ∷ v) after r.only r.longest))

-- ---- attributes

-- the first byte of an attribute ends neither blanks nor the tag
pub record Front (u : Bytes) : Type 0 where
  pub byte : ℕ
  pub rest : Bytes
  pub is : u ≡ byte ∷ rest
  pub unblank : blank byte ≡ false
  pub inside : tag_end byte ≡ false

pub front-append : (n s : Bytes) → Front n → Front (n ++ s)
front-append n s f = record { byte = f.byte; rest = f.rest ++ s; is = ap (◌++ s) f.is; unblank = f.unblank; inside = f.inside }

pub name_front : {after : Bytes} (n : Bytes) → Name attr_name_byte after n → Front n
unfolding attr_name_byte
name_front [] h = absurd (h.some_byte refl)
name_front (a ∷ n) h =
    let k = not_or4 (blank a) (eqb a 62) (eqb a 47) (eqb a 61) h.run.only.0 in
    record { byte = a; rest = n; is = refl; unblank = k.0; inside = rw (k.1, k.2) }

pub attribute-front : {after u : Bytes} {a : Attr} → Attribute after u a → Front u
unfolding blank
attribute-front (alone {n} h e) = name_front n h
attribute-front (named {n} h x y z) = front-append n _ (name_front n h)
attribute-front (nameless {c} {w} y z) = record { byte = 61; rest = c ++ w; is = refl; unblank = refl; inside = refl }

pub front-stops : (u s : Bytes) → Front u → Stops blank (u ++ s)
front-stops u s f = rw f.is f.unblank

pub quote-unblank : (q : ℕ) → quote q ≡ true → blank q ≡ false
unfolding quote blank
quote-unblank q h = go (or_true (eqb q 34) (eqb q 39) h)
  where
    go : (eqb q 34 ≡ true) ⊎ (eqb q 39 ≡ true) → blank q ≡ false
    go (inl e) = rw (eqb_eq q 34 e)
    go (inr e) = rw (eqb_eq q 39 e)

pub begins_unblank : {after : Bytes} → Begins `>` after ⊎ Begins `/` after → Stops blank after
unfolding blank
begins_unblank (inl h) = rw h.1 refl
begins_unblank (inr h) = rw h.1 refl

pub name_unblank : (a : ℕ) → name_byte a ≡ true → blank a ≡ false
unfolding name_byte
name_unblank a h = (not_or3 (blank a) (eqb a 62) (eqb a 47) h).0

pub value-stops : {after w v : Bytes} → Value after w v → Stops blank (w ++ after)
value-stops (quoted {q} h o) = quote-unblank q h
value-stops {after} (unquoted {v} f r e) = go v r.only e
  where
    go : (v : Bytes) → Only name_byte v → (v ≡ [] → Begins `>` after ⊎ Begins `/` after) → Stops blank (v ++ after)
    go [] o e = begins_unblank (e refl)
    go (a ∷ v) o e = name_unblank a o.0

pub past-none : (p : ℕ → Bool) (s : Bytes) → Stops p s → past p s ≡ s
past-none p s h = past_is p [] s tt h

pub blank-equals : blank 61 ≡ false
unfolding blank
blank-equals = refl

pub blank-gt : blank 62 ≡ false
unfolding blank
blank-gt = refl

pub equals-no_name : attr_name_byte 61 ≡ false
unfolding attr_name_byte
equals-no_name = refl

-- a name that no `=` follows
pub alone_rest : (n after : Bytes) → ((b r : Bytes) → Blanks b → ¬ (after ≡ b then `=` then r)) → after_name n (past blank after)
    ≡ ok (attr n []) (past blank after)
unfolding after_name after_name_as
alone_rest n after h = go (past blank after) refl
  where
    go : (s : Bytes) → past blank after ≡ s → after_name n s ≡ ok (attr n []) s
    go [] e = refl
    go (a ∷ s) e =
        by-test (eqb a 61)
        (λ t. absurd (h (run blank after) s (record { all = run_only blank after }) (run_past blank after
        ∙ ap (run blank after ++◌) (e ∙ ap (◌∷ s) (eqb_eq a 61 t)))))
        (λ t. rw t)

pub with_value : (n c w after v : Bytes) → Blanks c → Value after w v → after_name n (`=` then c then w then after) ≡ ok (attr n v) after
unfolding after_name after_name_as
with_value n c w after v cc val =
    ap (λ s. map_res (attr n) (read_value (suc (length (c ++ (w ++ after)))) s)) (past_is blank c (w ++ after) cc.all (value-stops val))
    ∙ ap (map_res (attr n)) (value-complete (suc (length (c ++ (w ++ after)))) val)

abbrev pub Gives : (after u : Bytes) → Attr → Type 0
Gives after u a = (r : Bytes) × (read_attribute (u ++ after) ≡ ok a r) × (past blank r ≡ past blank after)

pub attribute-complete : {after u : Bytes} {a : Attr} → Attribute after u a → Gives after u a
unfolding read_attribute
attribute-complete {after} (alone {n} h e) = (
  past blank after,
  ap₂ (λ x y. after_name x (past blank y)) (run_is attr_name_byte n after h.run.only h.run.longest)
      (past_is attr_name_byte n after h.run.only h.run.longest)
      ∙ alone_rest n after e,
  past-none blank (past blank after) (past-stops blank after),
)
attribute-complete {after} (named {n} {b} {c} {w} {v} h bb cc val) =
    let s : Bytes = b then `=` then c then w then after in
    let assoc : (n then b then `=` then c then w) ++ after ≡ n ++ s = simp append_assoc in (
      after,
      ap read_attribute assoc
          ∙ ap₂ (λ x y. after_name x (past blank y)) (run_is attr_name_byte n s h.run.only h.run.longest)
          (past_is attr_name_byte n s h.run.only h.run.longest)
          ∙ ap (after_name n) (past_is blank b (`=` then c then w then after) bb.all blank-equals)
          ∙ with_value n c w after v cc val,
      refl,
    )
attribute-complete {after} (nameless {c} {w} {v} cc val) =
    let s : Bytes = `=` then c then w then after in
    let assoc : (`=` then c then w) ++ after ≡ s = simp append_assoc in (
      after,
      ap read_attribute assoc
          ∙ ap₂ (λ x y. after_name x (past blank y)) (run_is attr_name_byte [] s tt equals-no_name) (past_is attr_name_byte [] s tt equals-no_name)
          ∙ ap (after_name []) (past-none blank s blank-equals)
          ∙ with_value [] c w after v cc val,
      refl,
    )

-- what an attribute gives, one round of the loop takes
pub attributes-round : (rec : Bytes → Res (List Attr)) (u s r : Bytes) (a : Attr) → Front u → read_attribute (u ++ s) ≡ ok a r
    → attributes_step rec (u ++ s) ≡ map_res (a ∷◌) (rec (past blank r))
unfolding attributes_step attributes_as
attributes-round rec u s r a f e = go u s f.byte f.rest f.is f.inside e
  where
    go : (u s : Bytes) (b : ℕ) (v : Bytes) → u ≡ b ∷ v → tag_end b ≡ false → read_attribute (u ++ s) ≡ ok a r
        → attributes_step rec (u ++ s) ≡ map_res (a ∷◌) (rec (past blank r))
    go [] s b v q i e = absurd (nil≢cons q)
    go (c ∷ u) s b v q i e =
        let t : tag_end c ≡ false = ap tag_end (head-eq_of_cons-eq q) ∙ i in
        rw t (rw e)

pub attributes-stops : {after w : Bytes} {l : List Attr} → Stops blank after → Attributes after w l → Stops blank (w ++ after)
attributes-stops h no_attribute = h
attributes-stops {after} h (attribute {u} {b} {w} x y z) = rw append_assoc (front-stops u ((b ++ w) ++ after) (attribute-front x))

pub front_length : (u : Bytes) → Front u → 0 < length u
front_length u f = rw f.is (omega arith)

abbrev pub AtTagEnd : Bytes → Type 0
AtTagEnd s = (a : ℕ) × (r : Bytes) × (s ≡ a ∷ r) × (tag_end a ≡ true)

pub tag-end_stops : {s : Bytes} → AtTagEnd s → Stops blank s
unfolding blank
tag-end_stops h = rw h.2 (go (or_true (eqb h.0 62) (eqb h.0 47) h.3))
  where
    go : (eqb h.0 62 ≡ true) ⊎ (eqb h.0 47 ≡ true) → blank h.0 ≡ false
    go (inl e) = rw (eqb_eq h.0 62 e)
    go (inr e) = rw (eqb_eq h.0 47 e)

pub attributes-complete : {after w : Bytes} {l : List Attr} → AtTagEnd after → Attributes after w l → (n : ℕ) → length (w ++ after) < n
    → read_attributes n (w ++ after) ≡ ok l after
unfolding read_attributes
attributes-complete h d zero g = absurd (omega (arith, g))
attributes-complete {after} h no_attribute (suc n) g = last
  where
    last : attributes_step (λ r. read_attributes n r) after ≡ ok [] after
    last = rw h.2 (rw h.3)
attributes-complete {after} h (attribute {u} {b} {w} {a} {l} x y z) (suc n) g =
    let s : Bytes = b ++ (w ++ after) in
    let assoc : (u then b then w) ++ after ≡ u ++ s = simp append_assoc in
    let gv : Gives s u a = attribute-complete x in
    let some_byte : 0 < length u = front_length u (attribute-front x) in
    let short : length (w ++ after) < n = simp length-append (omega (arith, simp length-append at g)) in
    let r_is : past blank gv.0 ≡ w ++ after = gv.2 ∙ past_is blank b (w ++ after) y.all (attributes-stops (tag-end_stops h) z) in
    ap (attributes_step (λ r. read_attributes n r)) assoc
    ∙ attributes-round (λ r. read_attributes n r) u s gv.0 a (attribute-front x) gv.1
    ∙ ap (λ q. map_res (a ∷◌) (read_attributes n q)) r_is
    ∙ ap (map_res (a ∷◌)) (attributes-complete h z n short)

-- ---- openings

pub opening-complete : {after o n : Bytes} {l : List Attr} (rec : Bytes → Res Forest) → AtTagEnd after → Opening after o n l
    → read_element rec (drop 1 (o ++ after)) ≡ after_opening rec n l after
unfolding read_element after_tag_name
opening-complete {after} rec h (opening {n} {b} {w} {l = l} nm bb at) =
    let s : Bytes = b ++ (w ++ after) in
    let assoc : (n ++ (b ++ w)) ++ after ≡ n ++ s = simp append_assoc in
    let k : ℕ = suc (length (n ++ s)) in
    ap (read_element rec) assoc
    ∙ ap₂ (λ x y. after_tag_name rec k x (past blank y)) (run_is name_byte n s nm.run.only nm.run.longest)
    (past_is name_byte n s nm.run.only nm.run.longest)
    ∙ ap (after_tag_name rec k n) (past_is blank b (w ++ after) bb.all (attributes-stops (tag-end_stops h) at))
    ∙ go n nm.some_byte k
  where
    go : (n : Bytes) → ¬ (n ≡ []) → (k : ℕ) → after_tag_name rec k n (w ++ after) ≡ after_opening rec n l after
    go [] e k = absurd (e refl)
    go (c ∷ n) e k = ap (λ q. next q (after_opening rec (c ∷ n))) (attributes-complete h at (suc (length (w ++ after))) (omega arith))

-- ---- what begins here

pub kind_text : (a : ℕ) (s : Bytes) → text_byte a ≡ true → kind (a ∷ s) ≡ as_node as_text
unfolding text_byte
kind_text a s h = rw (test_sym a 60 (not_true (eqb a 60) h))

pub kind_close : (s : Bytes) → Begins `</` s → kind s ≡ as_close
kind_close s h = rw h.1

pub kind_comment : (s : Bytes) → Begins `<!--` s → kind s ≡ as_comment
kind_comment s h = rw h.1

pub kind_element : (c : ℕ) (s : Bytes) → eqb c 47 ≡ false → ¬ Begins `<!--` (60 ∷ c ∷ s) → ¬ Begins `<![CDATA[` (60 ∷ c ∷ s) → kind (60 ∷ c ∷ s)
    ≡ as_node as_element
kind_element c s h k l = rw (test_sym c 47 h, not_prefix `<!--` (60 ∷ c ∷ s) k, not_prefix `<![CDATA[` (60 ∷ c ∷ s) l)

-- what begins x ++ y begins x, or goes past it
pub begins_left : (m x y : Bytes) → Begins m (x ++ y) → Begins m x ⊎ ((k : Bytes) × (m ≡ x ++ k))
begins_left [] x y h = inl (x, refl)
begins_left (a ∷ m) [] y h = inr (a ∷ m, refl)
begins_left (a ∷ m) (b ∷ x) y h = go (begins_left m x y (h.0, tail-eq_of_cons-eq h.1))
  where
    e : b ≡ a
    e = head-eq_of_cons-eq h.1

    go : Begins m x ⊎ ((k : Bytes) × (m ≡ x ++ k)) → Begins (a ∷ m) (b ∷ x) ⊎ ((k : Bytes) × (a ∷ m ≡ (b ∷ x) ++ k))
    go (inl g) = inl (g.0, ap₂ ◌∷◌ e g.1)
    go (inr g) = inr (g.0, ap₂ ◌∷◌ (sym e) g.1)

pub only-mid : (p : ℕ → Bool) (x y : Bytes) (a : ℕ) → Only p (x ++ (a ∷ y)) → p a ≡ true
only-mid p [] y a o = o.0
only-mid p (b ∷ x) y a o = only-mid p x y a o.1

-- a mark without `>` cannot begin what follows an element before it begins the element
pub not_begins : (m w after x y : Bytes) → Only (other 62) m → w ≡ x ++ (62 ∷ y) → ¬ Begins m w → ¬ Begins m (w ++ after)
not_begins m w after x y o e h g = go (begins_left m w after g)
  where
    go : Begins m w ⊎ ((k : Bytes) × (m ≡ w ++ k)) → ⊥
    go (inl b) = h b
    go (inr k) =
        true≢false (sym (only-mid (other 62) x (y ++ k.0) 62 (subst (Only (other 62)) (k.1 ∙ ap (◌++ k.0) e ∙ append_assoc x (62 ∷ y) k.0) o)))

pub element-mark : {after w : Bytes} {t : Tree} → Element after w t → (x : Bytes) × (y : Bytes) × (w ≡ x ++ (62 ∷ y))
element-mark (without-content {o} {b} x y) = (o ++ (47 ∷ b), [], sym (append_assoc o (47 ∷ b) (62 ∷ [])))
element-mark (with_content {o} {c} x y) = (o, c, refl)

-- an element is `<` and a byte of a name
pub record Tagged (w : Bytes) : Type 0 where
  pub byte : ℕ
  pub rest : Bytes
  pub is : w ≡ 60 ∷ byte ∷ rest
  pub no_slash : eqb byte 47 ≡ false

pub tagged-append : (w s : Bytes) → Tagged w → Tagged (w ++ s)
tagged-append w s h = record { byte = h.byte; rest = h.rest ++ s; is = ap (◌++ s) h.is; no_slash = h.no_slash }

pub opening-tagged : {after o n : Bytes} {l : List Attr} → Opening after o n l → Tagged o
unfolding name_byte
opening-tagged (opening {n} {b} {w} nm bb at) = go n nm.some_byte nm.run.only
  where
    go : (n : Bytes) → ¬ (n ≡ []) → Only name_byte n → Tagged (60 ∷ (n ++ (b ++ w)))
    go [] e o = absurd (e refl)
    go (c ∷ n) e o = record { byte = c; rest = n ++ (b ++ w); is = refl; no_slash = (not_or3 (blank c) (eqb c 62) (eqb c 47) o.0).2 }

pub element-tagged : {after w : Bytes} {t : Tree} → Element after w t → Tagged w
element-tagged (without-content {o} x y) = tagged-append o _ (opening-tagged x)
element-tagged (with_content {o} x y) = tagged-append o _ (opening-tagged x)

-- ---- nodes

abbrev pub Reads : ℕ → Bytes → Res Forest
Reads n r = read_content n no_comment r

pub record NodeOk (n : ℕ) (after w : Bytes) (t : Tree) : Type 0 where
  pub sort : NodeKind
  pub sorted : kind (w ++ after) ≡ as_node sort
  pub gives : node_as (Reads n) sort (w ++ after) ≡ ok t after
  pub some_byte : 0 < length w

abbrev pub NodeC : (after w : Bytes) (t : Tree) → Node after w t → Type 0
NodeC after w t d = (n : ℕ) → length (w ++ after) ≤ n → NodeOk n after w t

abbrev pub ElementC : (after w : Bytes) (t : Tree) → Element after w t → Type 0
ElementC after w t d = (n : ℕ) → length (w ++ after) ≤ n → read_element (Reads n) (drop 1 (w ++ after)) ≡ ok t after

abbrev pub ContentC : (p : Before) (after w : Bytes) (f : Forest) → Content p after w f → Type 0
ContentC p after w f d = (n : ℕ) → length (w ++ after) < n → read_content n p (w ++ after) ≡ ok f after

pub text-c : (after w : Bytes) → Name text_byte after w → (n : ℕ) → NodeOk n after w (text w)
unfolding node_as
text-c after [] h n = absurd (h.some_byte refl)
text-c after (a ∷ w) h n = record {
  sort = as_text;
  sorted = kind_text a (w ++ after) h.run.only.0;
  gives =
      ap₂ (λ x y. ok (text x) y) (run_is text_byte (a ∷ w) after h.run.only h.run.longest)
      (past_is text_byte (a ∷ w) after h.run.only h.run.longest);
  some_byte = omega arith;
}

pub section-c : (after d : Bytes) → EndsAtFirst `]]>` (d then `]]>`) → (n : ℕ) → NodeOk n after (`<![CDATA[` then d then `]]>`) (section d)
unfolding node_as beyond
section-c after d e n =
    let first : (u v : Bytes) → d ++ `]]>` ≡ u ++ (`]]>` ++ v) → v ≡ [] = e.first in
    record {
      sort = as_section;
      sorted = refl;
      gives = ap₂ (λ x y. ok (section x) (drop 3 y)) (before-first 93 (93 ∷ 62 ∷ []) d after first) (from_first 93 (93 ∷ 62 ∷ []) d after first);
      some_byte = omega arith;
    }

pub last_section-c : (d : Bytes) → Lacks `]]>` d → (n : ℕ) → NodeOk n [] (`<![CDATA[` then d) (section d)
unfolding node_as beyond
last_section-c d l n = record {
  sort = as_section;
  sorted = refl;
  gives =
      ap (λ s. ok (section (before `]]>` s)) (drop 3 (from `]]>` s))) (append-nil d)
      ∙ ap₂ (λ x y. ok (section x) (drop 3 y)) (before-lacks `]]>` d l) (from-lacks `]]>` d l);
  some_byte = omega arith;
}

pub element-c : {after w : Bytes} {t : Tree} → ¬ Begins `<!--` w → ¬ Begins `<![CDATA[` w → (d : Element after w t) → ElementC after w t d
    → (n : ℕ) → length (w ++ after) ≤ n → NodeOk n after w t
unfolding node_as
element-c {after} {w} h k d ih n g =
    let tg : Tagged (w ++ after) = tagged-append w after (element-tagged d) in
    let mk = element-mark d in
    let h' : ¬ Begins `<!--` (w ++ after) = not_begins `<!--` w after mk.0 mk.1 (refl, (refl, (refl, (refl, tt)))) mk.2 h in
    let k' : ¬ Begins `<![CDATA[` (w ++ after) =
    not_begins `<![CDATA[` w after mk.0 mk.1 (refl, (refl, (refl, (refl, (refl, (refl, (refl, (refl, (refl, tt))))))))) mk.2 k in
    record {
      sort = as_element;
      sorted =
          ap kind tg.is
          ∙ kind_element tg.byte tg.rest tg.no_slash (subst (λ s. ¬ Begins `<!--` s) tg.is h')
          (subst (λ s. ¬ Begins `<![CDATA[` s) tg.is k');
      gives = ih n g;
      some_byte = rw (element-tagged d).is (omega arith);
    }

pub without-c : {after o b n : Bytes} {l : List Attr} → Opening (`/` then b then `>` then after) o n l → Blanks b
    → (k : ℕ) → read_element (Reads k) (drop 1 ((o then `/` then b then `>`) ++ after)) ≡ ok (element n l none) after
unfolding after_opening opened_as after_slash slash_as
without-c {after} {o} {b} {n} {l} x y k =
    let s : Bytes = b ++ (62 ∷ after) in
    let assoc : (o then `/` then b then `>`) ++ after ≡ o ++ (47 ∷ s) = simp append_assoc in
    ap (λ z. read_element (Reads k) (drop 1 z)) assoc
    ∙ opening-complete (Reads k) (47, s, refl, refl) x
    ∙ ap (after_slash (suc (length s)) (element n l none)) (past_is blank b (62 ∷ after) y.all blank-gt)

pub with_c : {after o c n : Bytes} {l : List Attr} {f : Forest} → Opening (`>` then c then after) o n l → (d : Content no_comment after c f)
    → ContentC no_comment after c f d
    → (k : ℕ) → length ((o then `>` then c) ++ after) ≤ k → read_element (Reads k) (drop 1 ((o then `>` then c) ++ after)) ≡ ok (element n l f) after
unfolding after_opening opened_as
with_c {after} {o} {c} {n} {l} x d ih k g =
    let assoc : (o then `>` then c) ++ after ≡ o ++ (62 ∷ (c ++ after)) = simp append_assoc in
    let short : length (c ++ after) < k = simp length-append (omega (arith, simp length-append at g)) in
    ap (λ z. read_element (Reads k) (drop 1 z)) assoc
    ∙ opening-complete (Reads k) (62, c ++ after, refl, refl) x
    ∙ ap (map_res (element n l)) (ih k short)

-- ---- content

pub content_some : (rec : Before → Bytes → Res Forest) (p : Before) (s : Bytes) → 0 < length s → content_step_lem rec p s ≡ content_as_lem rec p (kind s) s
unfolding content_step_lem
content_some rec p [] h = absurd (omega (arith, h))
content_some rec p (a ∷ s) h = refl

pub close_c : (after d : Bytes) → Only (other 62) d → (n : ℕ) → length ((`</` then d then `>`) ++ after) < n
    → read_content n no_comment ((`</` then d then `>`) ++ after) ≡ ok none after
unfolding read_content content_step_lem content_as_lem after_close
close_c after d o zero g = absurd (omega (arith, g))
close_c after d o (suc n) g = ap (after_close _) (ap (past (other 62)) (append_assoc d (62 ∷ []) after) ∙ past_is (other 62) d (62 ∷ after) o refl)

pub end_c : (p : Before) (n : ℕ) → 0 < n → read_content n p [] ≡ ok none []
unfolding read_content content_step_lem
end_c p zero g = absurd (omega (arith, g))
end_c p (suc n) g = refl

pub before_close-c : (after : Bytes) → Begins `</` after → (n : ℕ) → length after < n → read_content n a_comment after ≡ ok none after
unfolding read_content content_step_lem content_as_lem
before_close-c after h zero g = absurd (omega (arith, g))
before_close-c after h (suc n) g = rw h.1

pub comment-length : {after u : Bytes} → Comment after u → 0 < length u
comment-length c = rw c.opens.1 (omega arith)

pub begins_more : (m s t : Bytes) → Begins m s → Begins m (s ++ t)
begins_more m s t h = (h.0 ++ t, ap (◌++ t) h.1 ∙ append_assoc m h.0 t)

pub comment-c : (p : Before) {after u w : Bytes} {f : Forest} → Comment (w then after) u → (d : Content a_comment after w f)
    → ContentC a_comment after w f d
    → (n : ℕ) → length ((u then w) ++ after) < n → read_content n p ((u then w) ++ after) ≡ ok f after
unfolding read_content content_as_lem
comment-c p c d ih zero g = absurd (omega (arith, g))
comment-c p {after} {u} {w} c d ih (suc n) g =
    let rec : Before → Bytes → Res Forest = λ q r. read_content n q r in
    let some_byte : 0 < length u = comment-length c in
    let all : length (u ++ (w ++ after)) < suc n = simp length-append (omega (arith, simp length-append at g)) in
    let short : length (w ++ after) < n = simp length-append (omega (arith, simp length-append at g)) in
    let any : 0 < length (u ++ (w ++ after)) = simp length-append (omega arith) in
    ap (content_step_lem rec p) (append_assoc u w after)
    ∙ content_some rec p (u ++ (w ++ after)) any
    ∙ ap (λ k. content_as_lem rec p k (u ++ (w ++ after))) (kind_comment (u ++ (w ++ after)) (begins_more `<!--` u (w ++ after) c.opens))
    ∙ ap (read_content n a_comment) (beyond-is 45 (45 ∷ 62 ∷ []) (w ++ after) u c.ends)
    ∙ ih n short

pub node-c : (p : Before) {after u w : Bytes} {t : Tree} {f : Forest} (x : Node (w then after) u t) → NodeC (w then after) u t x
    → (d : Content no_comment after w f) → ContentC no_comment after w f d
    → (n : ℕ) → length ((u then w) ++ after) < n → read_content n p ((u then w) ++ after) ≡ ok (more t f) after
unfolding read_content content_as_lem
node-c p x hx d ih zero g = absurd (omega (arith, g))
node-c p {after} {u} {w} {t} x hx d ih (suc n) g =
    let rec : Before → Bytes → Res Forest = λ q r. read_content n q r in
    let fits : length (u ++ (w ++ after)) ≤ n = simp length-append (omega (arith, simp length-append at g)) in
    let k : NodeOk n (w ++ after) u t = hx n fits in
    let some_byte : 0 < length u = k.some_byte in
    let short : length (w ++ after) < n = simp length-append (omega (arith, simp length-append at g)) in
    let any : 0 < length (u ++ (w ++ after)) = simp length-append (omega arith) in
    ap (content_step_lem rec p) (append_assoc u w after)
    ∙ content_some rec p (u ++ (w ++ after)) any
    ∙ ap (λ z. content_as_lem rec p z (u ++ (w ++ after))) k.sorted
    ∙ ap (λ z. next z (λ t r. map_res (more t) (read_content n no_comment r))) k.gives
    ∙ ap (map_res (more t)) (ih n short)

pub node-complete : {after w : Bytes} {t : Tree} (d : Node after w t) → NodeC after w t d
node-complete d = elim d as NodeC ElementC ContentC [
  | a_text h ↦ λ n g. text-c _ _ h n
  | a_section e ↦ λ n g. section-c _ _ e n
  | last_section l ↦ λ n g. last_section-c _ l n
  | an_element h k (e → ih) ↦ element-c h k e ih
  | without-content x y ↦ λ n g. without-c x y n
  | with_content x (d → ih) ↦ with_c x d ih
  | Content.close_tag d o ↦ λ n g. close_c _ d o n g
  | Content.end_of_text ↦ λ n g. end_c _ n g
  | Content.before-close h ↦ λ n g. before_close-c _ h n g
  | Content.comment c (d → ih) ↦ comment-c _ c d ih
  | Content.node (x → hx) (d → ih) ↦ node-c _ x hx d ih
]

-- ---- the prolog

-- an opening without `>` that begins what a piece begins, begins the piece
pub begins_piece : (o m after u : Bytes) → Only (other 62) o → UpTo (m ++ (62 ∷ [])) after u → Begins o (u ++ after) → Begins o u
begins_piece o m after u q (unclosed l) h = subst (Begins o) (append-nil u) h
begins_piece o m after u q (closed c) h = go (begins_left o u after h)
  where
    go : Begins o u ⊎ ((k : Bytes) × (o ≡ u ++ k)) → Begins o u
    go (inl b) = b
    go (inr k) =
        let e : o ≡ (c.front ++ m) ++ (62 ∷ k.0) = k.1 ∙ ap (◌++ k.0) c.ends ∙ simp append_assoc in
        absurd (true≢false (sym (only-mid (other 62) (c.front ++ m) k.0 62 (subst (Only (other 62)) e q))))

pub open_comment : Only (other 62) `<!--`
open_comment = (refl, (refl, (refl, (refl, tt))))

pub open_instruction : Only (other 62) `<?`
open_instruction = (refl, (refl, tt))

pub open_declaration : Only (other 62) `<!`
open_declaration = (refl, (refl, tt))

pub piece-length : {after u : Bytes} → Piece after u → 0 < length u
piece-length (one_blank h) = omega arith
piece-length (instruction h x) = rw h.1 (omega arith)
piece-length (Piece.comment h x) = rw h.1 (omega arith)
piece-length (declaration h k x) = rw h.1 (omega arith)

pub kind_instruction : (s : Bytes) → Begins `<?` s → piece_kind s ≡ to_mark 63 (62 ∷ [])
unfolding blank
kind_instruction s h = rw h.1

pub kind_comment_piece : (s : Bytes) → Begins `<!--` s → piece_kind s ≡ to_mark 45 (45 ∷ 62 ∷ [])
unfolding blank
kind_comment_piece s h = rw h.1

pub kind_declaration : (s : Bytes) → Begins `<!` s → ¬ Begins `<!--` s → piece_kind s ≡ to_mark 62 []
unfolding blank
kind_declaration s h k = ap piece_kind h.1 ∙ rw (not_prefix `<!--` (60 ∷ 33 ∷ h.0) (subst (λ z. ¬ Begins `<!--` z) h.1 k))

pub piece-complete : (rec : Bytes → Bytes) {r u : Bytes} → Piece r u → prolog_as rec (piece_kind (u ++ r)) (u ++ r) ≡ rec r
unfolding prolog_as
piece-complete rec (one_blank h) = rw h
piece-complete rec {r} {u} (instruction h x) =
    ap (λ k. prolog_as rec k (u ++ r)) (kind_instruction (u ++ r) (begins_more `<?` u r h)) ∙ ap rec (beyond-is 63 (62 ∷ []) r u x)
piece-complete rec {r} {u} (Piece.comment h x) =
    ap (λ k. prolog_as rec k (u ++ r)) (kind_comment_piece (u ++ r) (begins_more `<!--` u r h)) ∙ ap rec (beyond-is 45 (45 ∷ 62 ∷ []) r u x)
piece-complete rec {r} {u} (declaration h k x) =
    ap (λ z. prolog_as rec z (u ++ r))
    (kind_declaration (u ++ r) (begins_more `<!` u r h) (λ b. k (begins_piece `<!--` [] r u open_comment x b)))
    ∙ ap rec (beyond-is 62 [] r u x)

-- where no piece stands, the reader sees none
pub no_more_here : (s : Bytes) → NoPiece s → piece_kind s ≡ no_more
no_more_here [] h = refl
no_more_here (a ∷ s) h =
    let t : Bytes = a ∷ s in
    by-test (blank a) (λ e. absurd (h (a ∷ []) s refl (one_blank e))) (λ e.
    by-test (prefix `<?` t)
    (λ q. let b = prefix-begins `<?` t q in let w = up_to 63 (62 ∷ []) t in
    absurd (h w.0 _ w.1 (instruction (begins_piece `<?` (63 ∷ []) _ w.0 open_instruction w.2 (subst (Begins `<?`) w.1 b)) w.2)))
    (λ q₁.
    by-test (prefix `<!--` t)
    (λ q. let b = prefix-begins `<!--` t q in let w = up_to 45 (45 ∷ 62 ∷ []) t in
    absurd (h w.0 _ w.1 (Piece.comment (begins_piece `<!--` (45 ∷ 45 ∷ []) _ w.0 open_comment w.2 (subst (Begins `<!--`) w.1 b))
    w.2))) (λ q₂.
    by-test (prefix `<!` t)
    (λ q. let b = prefix-begins `<!` t q in let w = up_to 62 [] t in
    absurd (h w.0 _ w.1 (declaration (begins_piece `<!` [] _ w.0 open_declaration w.2 (subst (Begins `<!`) w.1 b))
    (λ z. prefix-not `<!--` t q₂ (subst (Begins `<!--`) (sym w.1) (begins_more `<!--` w.0 _ z))) w.2)))
    (λ q₃. rw (e, q₁, q₂, q₃)))))

pub prolog-complete : {s p : Bytes} → Prolog s p → NoPiece s → (n : ℕ) → length (p ++ s) < n → past_prolog n (p ++ s) ≡ s
unfolding past_prolog prolog_as
prolog-complete d h zero g = absurd (omega (arith, g))
prolog-complete {s} no_piece h (suc n) g = rw (no_more_here s h)
prolog-complete {s} (piece {u} {w} x d) h (suc n) g =
    let some_byte : 0 < length u = piece-length x in
    let short : length (w ++ s) < n = simp length-append (omega (arith, simp length-append at g)) in
    ap (λ z. prolog_as (λ r. past_prolog n r) (piece_kind z) z) (append_assoc u w s)
    ∙ piece-complete (λ r. past_prolog n r) x
    ∙ prolog-complete d h n short

-- ---- documents

pub nodes-some : (content rec : Bytes → Res Forest) (s : Bytes) → 0 < length s → nodes_step content rec s ≡ nodes_as content rec (kind s) s
unfolding nodes_step
nodes-some content rec [] h = absurd (omega (arith, h))
nodes-some content rec (a ∷ s) h = refl

pub nodes-complete : {s : Bytes} {f : Forest} → Nodes s f → (n : ℕ) → length s < n → (r : Bytes) × (read_nodes_lem n s ≡ ok f r)
unfolding read_nodes_lem nodes_step nodes_as
nodes-complete d zero g = absurd (omega (arith, g))
nodes-complete Nodes.end_of_text (suc n) g = ([], refl)
nodes-complete {s} (Nodes.before-close h) (suc n) g = (s, rw h.1)
nodes-complete (Nodes.comment {u} {s} c d) (suc n) g =
    let some_byte : 0 < length u = comment-length c in
    let short : length s < n = omega (arith, simp length-append at g) in
    let any : 0 < length (u ++ s) = simp length-append (omega arith) in
    let ih = nodes-complete d n short in (
      ih.0,
      nodes-some (Reads n) (λ r. read_nodes_lem n r) (u ++ s) any
          ∙ ap (λ k. nodes_as (Reads n) (λ r. read_nodes_lem n r) k (u ++ s)) (kind_comment (u ++ s) (begins_more `<!--` u s c.opens))
          ∙ ap (read_nodes_lem n) (beyond-is 45 (45 ∷ 62 ∷ []) s u c.ends)
          ∙ ih.1,
    )
nodes-complete (Nodes.node {u} {s} {t} x d) (suc n) g =
    let fits : length (u ++ s) ≤ n = omega arith in
    let k : NodeOk n s u t = node-complete x n fits in
    let some_byte : 0 < length u = k.some_byte in
    let short : length s < n = omega (arith, simp length-append at g) in
    let any : 0 < length (u ++ s) = simp length-append (omega arith) in
    let ih = nodes-complete d n short in (
      ih.0,
      nodes-some (Reads n) (λ r. read_nodes_lem n r) (u ++ s) any
          ∙ ap (λ z. nodes_as (Reads n) (λ r. read_nodes_lem n r) z (u ++ s)) k.sorted
          ∙ ap (λ z. next z (λ t r. map_res (more t) (read_nodes_lem n r))) k.gives
          ∙ ap (map_res (more t)) ih.1,
    )

-- What the grammar derives for a text is what the reader gives.
pub complete : {s : Bytes} {f : Forest} → Document s f → read_document s ≡ tree f
unfolding read_document
complete (document {p} {s} pr np ns) =
    let e : past_prolog (suc (length (p ++ s))) (p ++ s) ≡ s = prolog-complete pr np (suc (length (p ++ s))) (omega arith) in
    let k = nodes-complete ns (suc (length s)) (omega arith) in
    ap (λ r. finish (length (p ++ s)) (read_nodes_lem (suc (length r)) r)) e ∙ ap (finish (length (p ++ s))) k.1

-- No text has two trees.
pub unique : {s : Bytes} {f g : Forest} → Document s f → Document s g → f ≡ g
unique d e = let p = complete d in let q = complete e in cc
