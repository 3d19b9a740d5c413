-- The reader by places reads a derived tree where its derivation says that it stands. Assumes nothing.
--     element_placed, content_placed   the places of elements and contents, as `node_placed` has them
--     Right, Ahead                   an answer by places: that forest, or a refusal; past a place
--     node-read, nodes-read          a node, and the nodes of a document
--     placed_as_derived              the whole text
use Prim.Native.Nat.{ℕ, zero, suc, ◌+◌, ◌-◌, ◌≤◌, ◌<◌}
use mathlib.Core.Path.{◌≡◌, refl, sym, ap, ◌∙◌, subst, subst⁻¹}
use mathlib.Core.Logic.{inl, inr}
use mathlib.Core.Bool.{true, false}
use mathlib.Core.List.{List, [], ◌∷◌, ◌++◌, append_assoc, append-nil}
use native.Mathlib.Omega.{arith}
use lib.ListN.{length, drop, length-append}
use lib.Dec.{ltb}
use borrow.Author.Tests.{lt-ltb, le-ltb, ltb-true, ltb-false}
use Rattle.scan.specs.Loop.{Next, halt, more}
use Rattle.scan.specs.Bytes.{blank, text_byte, other, run_end_of}
use Rattle.scan.specs.Marks as marks
use Rattle.scan.specs.Marks.{starts_at, seek}
use Rattle.scan.specs.Posts.{Passed}
use Rattle.scan.proofs.Loop.{loop-out, loop-halt, loop-more}
use Rattle.grammar.specs.Words.{Bytes, ◌then◌, Only, Stops, Begins, Lacks, EndsAtFirst, closed, unclosed}
use Rattle.grammar.specs.Tree.{Tree, Forest, Attr}
use Rattle.grammar.specs.Tree.{`>`, `/`, `</`, `<!--`, `<![CDATA[`, `]]>`}
use Rattle.grammar.specs.Grammar.{Blanks, Name, Opening, Comment, Before, a_comment, no_comment, Node, a_text, a_section, last_section}
use Rattle.grammar.specs.Grammar.{an_element, Element, without-content, with_content, Content, Nodes, Document, document}
use Rattle.grammar.specs.Scan.{prefix, from}
use Rattle.grammar.proofs.Reader.{NodeKind, as_text, as_section, as_element, Kind, as_close, as_comment, as_node, kind}
use Rattle.scan.proofs.Every.{by-test}
use Rattle.grammar.proofs.Scans.{begins_prefix, from_first, from-lacks}
use Rattle.grammar.proofs.Complete.{blank-gt, tag-end_stops, kind_text, kind_close, kind_element, Tagged, tagged-append, element-tagged}
use Rattle.grammar.proofs.Complete.{element-mark, not_begins, comment-length, begins_more, node-complete, prolog-complete}
use Rattle.derivation.proofs.SearchLaws.{from_at, sought, passed}
use Rattle.derivation.proofs.NodeKinds.{comment-only, Here, closes, here}
use Rattle.derivation.proofs.NodeKinds as kinds
use Rattle.derivation.proofs.Prologs.{prolog-agrees}
use Rattle.tree.specs.Trees as placed
use Rattle.tree.specs.Trees.{join}
use Rattle.tree.specs.Read.{Out, got, nothing, bad, opened, shut, TagState, gt, close_mark, comment_mark, comment_end, cdata_end, skip, slash}
use Rattle.tree.specs.Read.{tag_turn, tag_from, start_at, Reader, text_at, section_at, node_here, node_at_of, State, node_next, close_at, inner_turn}
use Rattle.tree.specs.Read.{outer_turn, row_of, fresh, enclose, tagged, element_by, element_of, content_of, prolog_end, meaning}
use Rattle.tree.specs.Posts.{Fits}
use Rattle.tree.proofs.NodeLaws.{comment-on, comment-here, comment-out}
use Rattle.tree.proofs.Whole.{in_range}
use Rattle.xml.specs.Where.{opening_placed, NodePlaced, ElementPlaced, ContentPlaced, node_placed, nodes_placed, document_placed}
use Rattle.xml.proofs.Standing.{At, at_length, at_one, at_on, at_same, at_some, at_byte, at_starts, run-to, beyond-to, name_to, StartAt}
use Rattle.xml.proofs.Standing.{start-at}

-- ---- the places of elements and contents
module _ (long : Bytes → ℕ) where
  unfoldable pub element_placed : {after w : Bytes} {t : Tree} → Element after w t → ℕ → placed.Forest → placed.Forest
  unfolding opening_placed
  element_placed d = elim d as NodePlaced ElementPlaced ContentPlaced [
    | a_text {w = w} h ↦ λ p later. placed.text p (long w) later
    | a_section {d = d} e ↦ λ p later. placed.section (p + 9) (length d) later
    | last_section {d} e ↦ λ p later. placed.section (p + 9) (length d) later
    | an_element h k (e → at) ↦ at
    | without-content {n = n} x y ↦ λ p later. placed.elem p (length n) (opening_placed long x p) placed.nil later
    | with_content {o = o} {n = n} x (d → at) ↦ λ p later. placed.elem p (length n) (opening_placed long x p) (at (p + length o + 1)) later
    | Content.close_tag d o ↦ λ p. placed.nil
    | Content.end_of_text ↦ λ p. placed.nil
    | Content.before-close h ↦ λ p. placed.nil
    | Content.comment {u = u} c (d → at) ↦ λ p. at (p + length u)
    | Content.node {u = u} (x → first) (d → at) ↦ λ p. first p (at (p + length u))
  ]

  unfoldable pub content_placed : {b : Before} {after w : Bytes} {f : Forest} → Content b after w f → ℕ → placed.Forest
  unfolding opening_placed
  content_placed d = elim d as NodePlaced ElementPlaced ContentPlaced [
    | a_text {w = w} h ↦ λ p later. placed.text p (long w) later
    | a_section {d = d} e ↦ λ p later. placed.section (p + 9) (length d) later
    | last_section {d} e ↦ λ p later. placed.section (p + 9) (length d) later
    | an_element h k (e → at) ↦ at
    | without-content {n = n} x y ↦ λ p later. placed.elem p (length n) (opening_placed long x p) placed.nil later
    | with_content {o = o} {n = n} x (d → at) ↦ λ p later. placed.elem p (length n) (opening_placed long x p) (at (p + length o + 1)) later
    | Content.close_tag d o ↦ λ p. placed.nil
    | Content.end_of_text ↦ λ p. placed.nil
    | Content.before-close h ↦ λ p. placed.nil
    | Content.comment {u = u} c (d → at) ↦ λ p. at (p + length u)
    | Content.node {u = u} (x → first) (d → at) ↦ λ p. first p (at (p + length u))
  ]

-- ---- answers by places
abbrev Right : placed.Forest → (ℕ → Type 0) → Out → Type 0
Right g P (got f q k a) = (f ≡ g) × P q
Right g P (nothing q) = ⊥
Right g P (bad n q) = Unit {0}

abbrev Ahead : ℕ → Out → Type 0
Ahead p (got f q k a) = p < q
Ahead p (nothing q) = Unit {0}
Ahead p (bad n q) = Unit {0}

join-nil : (f : placed.Forest) → join f placed.nil ≡ f
unfolding join
join-nil placed.nil = refl
join-nil (placed.text p n f) = ap (placed.text p n) (join-nil f)
join-nil (placed.section p n f) = ap (placed.section p n) (join-nil f)
join-nil (placed.elem p n l c f) = ap (placed.elem p n l c) (join-nil f)

join-assoc : (f g h : placed.Forest) → join (join f g) h ≡ join f (join g h)
unfolding join
join-assoc placed.nil g h = refl
join-assoc (placed.text p n f) g h = ap (placed.text p n) (join-assoc f g h)
join-assoc (placed.section p n f) g h = ap (placed.section p n) (join-assoc f g h)
join-assoc (placed.elem p n l c f) g h = ap (placed.elem p n l c) (join-assoc f g h)

-- ---- which node stands at a place
module _ (s : List ℕ) (el : Reader) (q k a : ℕ) where
  abbrev picked : Kind → Out
  picked as_close = nothing q
  picked as_comment = nothing q
  picked (as_node as_text) = text_at s q k a
  picked (as_node as_section) = section_at s q k a
  picked (as_node as_element) = el q k a

  picked_is : Here s el q k a → node_here s el q k a ≡ picked (kind (drop q s))
  picked_is (closes e w) = w ∙ ap picked (sym e)
  picked_is (kinds.a_text e w n) = w ∙ ap picked (sym e)
  picked_is (kinds.a_section e w n) = w ∙ ap picked (sym e)
  picked_is (kinds.an_element e w) = w ∙ ap picked (sym e)

  -- a node or a close tag, and no comment
  stands_here : (z : Bytes) → At s q z → 0 < length z → prefix `<!--` z ≡ false → node_at_of s el q k a ≡ picked (kind z)
  unfolding node_at_of
  stands_here z h g e =
      let l : q < length s = omega (arith, at_length s h) in
      let n : starts_at s q comment_mark ≡ false = at_starts s comment_mark z h ∙ e in
      rw (comment-here s q l n) (picked_is (here s el q k a l n) ∙ ap picked (ap kind h.is))

node-no_comment : (z : Bytes) (i : NodeKind) → kind z ≡ as_node i → (prefix `<!--` z ≡ false) × (prefix `</` z ≡ false)
node-no_comment z i e =
    by-test (prefix `</` z)
    (λ c. let d : as_close ≡ as_node i = rw c at e in let x : ◌≡◌ {A = ℕ} 0 1 = cc in absurd (omega arith))
    (λ c. by-test (prefix `<!--` z)
    (λ b. let d : as_comment ≡ as_node i = rw (c, b) at e in let x : ◌≡◌ {A = ℕ} 0 1 = cc in absurd (omega arith))
    (λ b. (b, c)))

element-kind : {after w : Bytes} {t : Tree} → ¬ Begins `<!--` w → ¬ Begins `<![CDATA[` w → Element after w t → kind (w ++ after) ≡ as_node as_element
element-kind {after} {w} h k d =
    let tg : Tagged (w ++ after) = tagged-append w after (element-tagged d) in
    let mk = element-mark d in
    let h' : ¬ Begins `<!--` (w ++ after) = not_begins `<!--` w after mk.0 mk.1 (refl, (refl, (refl, (refl, tt)))) mk.2 h in
    let k' : ¬ Begins `<![CDATA[` (w ++ after) =
    not_begins `<![CDATA[` w after mk.0 mk.1 (refl, (refl, (refl, (refl, (refl, (refl, (refl, (refl, (refl, tt))))))))) mk.2 k in
    ap kind tg.is
    ∙ kind_element tg.byte tg.rest tg.no_slash (subst (λ s. ¬ Begins `<!--` s) tg.is h') (subst (λ s. ¬ Begins `<![CDATA[` s) tg.is k')

-- ---- texts and sections
text-read : (s : List ℕ) (p k a : ℕ) (w after : Bytes) → Name text_byte after w → At s p (w ++ after)
    → Right (placed.text p (length w) placed.nil) (λ q. q ≡ p + length w) (text_at s p k a)
unfolding text_at
text-read s p k a w after f h =
    let e : run_end_of text_byte s p ≡ p + length w = run-to s text_byte w after h f.run.only f.run.longest in
    let n : p + length w - p ≡ length w = omega arith in
    by-test (ltb k 8192) (λ x. rw (x, e, n) (refl, refl)) (λ x. rw x tt)

section-as : (s : List ℕ) (p k a n e r : ℕ) → seek cdata_end s (p + 9) ≡ p + 9 + n → marks.past cdata_end s (p + 9) ≡ e → e ≡ r
    → Right (placed.section (p + 9) n placed.nil) (λ q. q ≡ r) (section_at s p k a)
unfolding section_at
section-as s p k a n e r f g h =
    let m : p + 9 + n - (p + 9) ≡ n = omega arith in
    by-test (ltb k 8192) (λ x. rw (x, f, g, m) (refl, h)) (λ x. rw x tt)

section-read : (s : List ℕ) (p k a : ℕ) (d after : Bytes) → EndsAtFirst `]]>` (d then `]]>`) → At s p ((`<![CDATA[` then d then `]]>`) ++ after)
    → Right (placed.section (p + 9) (length d) placed.nil) (λ q. q ≡ p + length (`<![CDATA[` then d then `]]>`)) (section_at s p k a)
section-read s p k a d after f h =
    let first : (u v : Bytes) → d ++ `]]>` ≡ u ++ (`]]>` ++ v) → v ≡ [] = f.first in
    let i : At s (p + 9) ((d ++ `]]>`) ++ after) = at_on s `<![CDATA[` ((d ++ `]]>`) ++ after) h in
    let j : At s (seek cdata_end s (p + 9)) (`]]>` ++ after) =
    record {
      is = sym (from_at cdata_end s (p + 9)) ∙ ap (from cdata_end) i.is ∙ from_first 93 (93 ∷ 62 ∷ []) d after first;
      within =
          (sought cdata_end s (p + 9) i.within).within;
    } in
    let e : seek cdata_end s (p + 9) ≡ p + 9 + length d = at_one s j (at_on s d (`]]>` ++ after) (at_same s refl (append_assoc d `]]>` after) i)) in
    section-as s p k a (length d) (p + 9 + length (d ++ `]]>`)) _ e (beyond-to s 93 (93 ∷ 62 ∷ []) (d ++ `]]>`) after i (closed f)) (omega arith)

last_read : (s : List ℕ) (p k a : ℕ) (d : Bytes) → Lacks `]]>` d → At s p ((`<![CDATA[` then d) ++ [])
    → Right (placed.section (p + 9) (length d) placed.nil) (λ q. q ≡ p + length (`<![CDATA[` then d)) (section_at s p k a)
last_read s p k a d f h =
    let i : At s (p + 9) (d ++ []) = at_on s `<![CDATA[` (d ++ []) h in
    let j : At s (seek cdata_end s (p + 9)) [] =
    record {
      is = sym (from_at cdata_end s (p + 9)) ∙ ap (from cdata_end) (i.is ∙ append-nil d) ∙ from-lacks cdata_end d f;
      within =
          (sought cdata_end s (p + 9) i.within).within;
    } in
    let e : seek cdata_end s (p + 9) ≡ p + 9 + length d = at_one s j (at_on s d [] i) in
    section-as s p k a (length d) (p + 9 + length d) _ e (beyond-to s 93 (93 ∷ 62 ∷ []) d [] i (unclosed f)) (omega arith)

-- ---- elements
module _ (s : List ℕ) where
  open_tag : (q : ℕ) (x : TagState) (z : Bytes) → At s q (62 ∷ z) → tag_from s q x ≡ opened x.list (q + 1) x.count
  unfolding tag_from tag_turn
  open_tag q x z h = loop-halt (length s) (tag_turn s) _ q x _ (at_some s 62 z h) (rw (at_byte s 62 z h))

  shut-tag : (q : ℕ) (x : TagState) (b z : Bytes) → At s q (47 ∷ (b ++ (62 ∷ z))) → Only blank b → tag_from s q x
      ≡ shut x.list (q + 1 + length b + 1) x.count
  unfolding tag_from tag_turn slash
  shut-tag q x b z h o =
      let a : At s (q + 1) (b ++ (62 ∷ z)) = at_on s (47 ∷ []) (b ++ (62 ∷ z)) h in
      let e : skip s (q + 1) ≡ q + 1 + length b = run-to s blank b (62 ∷ z) a o blank-gt in
      let t : starts_at s (q + 1 + length b) gt ≡ true = at_starts s gt (62 ∷ z) (at_on s b (62 ∷ z) a) in
      loop-halt (length s) (tag_turn s) _ q x _ (at_some s 47 (b ++ (62 ∷ z)) h) (rw (at_byte s 47 (b ++ (62 ∷ z)) h, e, t))

  element-by : {p : ℕ} {after o n : Bytes} {l : List Attr} (x : Opening after o n l) → Stops blank after → At s p (o ++ after)
      → (inner : Reader) (k a : ℕ)
      (g : placed.Forest) (P : ℕ → Type 0) → ((j : ℕ) → Right g P
      (tagged inner p (length n) k (tag_from s (p + length o) (record { list = opening_placed length x p; count = j }))))
      → Right g P (element_by s inner p k a)
  unfolding element_by tagged
  element-by {p} {o = o} {n = n} x t h inner k a g P r =
      let m : p + 1 + length n - (p + 1) ≡ length n = omega arith in
      by-test (ltb k 8192) (λ e. rw (e, name_to s x h, m) (go (start-at s x t h a))) (λ e. rw e tt)
    where
      go : StartAt s p (p + 1 + length n) a (p + length o) (opening_placed length x p)
          → Right g P (tagged inner p (length n) k (start_at s p (p + 1 + length n) a))
      go (inl w) = rw w.2 tt
      go (inr w) = rw w.1 (r w.0)

  enclosed : (p n : ℕ) (l : List placed.Attr) (c : placed.Forest) (P : ℕ → Type 0) (o : Out) → Right c P o
      → Right (placed.elem p n l c placed.nil) P (enclose p n l o)
  unfolding enclose
  enclosed p n l c P (got f q k a) r = (ap (λ f. placed.elem p n l f placed.nil) r.0, r.1)
  enclosed p n l c P (nothing q) r = r
  enclosed p n l c P (bad m q) r = tt

  without-read : (p : ℕ) (after o b n : Bytes) {l : List Attr} (x : Opening (`/` then b then `>` then after) o n l) → Blanks b
      → At s p ((o then `/` then b then `>`) ++ after) → (D k a : ℕ)
      → Right (placed.elem p (length n) (opening_placed length x p) placed.nil placed.nil) (λ q. q ≡ p + length (o then `/` then b then `>`))
      (element_of D s p k a)
  unfolding element_of tagged
  without-read p after o b n x y h zero k a = tt
  without-read p after o b n x y h (suc D) k a =
      let assoc : (o then `/` then b then `>`) ++ after ≡ o ++ (47 ∷ (b ++ (62 ∷ after))) = simp append_assoc in
      let i : At s p (o ++ (47 ∷ (b ++ (62 ∷ after)))) = at_same s refl assoc h in
      let q : At s (p + length o) (47 ∷ (b ++ (62 ∷ after))) = at_on s o (47 ∷ (b ++ (62 ∷ after))) i in
      let m : p + length o + 1 + length b + 1 ≡ p + length (o then `/` then b then `>`) = simp length-append (omega arith) in
      element-by x (tag-end_stops (47, b ++ (62 ∷ after), refl, refl)) i (content_of D s) k a _ _
      (λ j. rw (shut-tag (p + length o) (record { list = opening_placed length x p; count = j }) b after q y.all) (refl, m))

  with_read : (p : ℕ) (after o c n : Bytes) {l : List Attr} (x : Opening (`>` then c then after) o n l) (g : ℕ → placed.Forest)
      → ((q D j b : ℕ) → At s q (c ++ after) → Right (g q) (λ r. r ≡ q + length c) (content_of D s q j b))
      → At s p ((o then `>` then c) ++ after) → (D k a : ℕ)
      → Right (placed.elem p (length n) (opening_placed length x p) (g (p + length o + 1)) placed.nil) (λ q. q ≡ p + length (o then `>` then c))
      (element_of D s p k a)
  unfolding element_of tagged
  with_read p after o c n x g r h zero k a = tt
  with_read p after o c n x g r h (suc D) k a =
      let assoc : (o then `>` then c) ++ after ≡ o ++ (62 ∷ (c ++ after)) = simp append_assoc in
      let i : At s p (o ++ (62 ∷ (c ++ after))) = at_same s refl assoc h in
      let q : At s (p + length o) (62 ∷ (c ++ after)) = at_on s o (62 ∷ (c ++ after)) i in
      let m : p + length o + 1 + length c ≡ p + length (o then `>` then c) = simp length-append (omega arith) in
      element-by x (tag-end_stops (62, c ++ after, refl, refl)) i (content_of D s) k a _ _
      (λ j. rw (open_tag (p + length o) (record { list = opening_placed length x p; count = j }) (c ++ after) q, ← m)
      (enclosed p (length n) (opening_placed length x p) (g (p + length o + 1)) _ _
      (r (p + length o + 1) D (k + 1) j (at_on s (62 ∷ []) (c ++ after) q))))

-- ---- nodes in a row
module _ (s : List ℕ) (el : Reader) (turn : ℕ → State → Next State Out) where
  abbrev here_out : ℕ → State → Out
  here_out p x = node_at_of s el p x.nodes x.attrs

  abbrev finish : Next State Out → Out
  finish (halt o) = o
  finish (more q y) = row_of s turn q y

  -- from p on, after a comment of this same content or at its start: the nodes g more, where reading stops at a place in P
  abbrev Open : ℕ → State → placed.Forest → (ℕ → Type 0) → Type 0
  Open p x g P = Ahead p (here_out p x) × Right (join x.forest g) P (finish (node_next x (here_out p x)))

  ahead_next : (p : ℕ) (x : State) (o : Out) → Ahead p o → (q : ℕ) (y : State) → node_next x o ≡ more q y → p < q
  unfolding node_next
  ahead_next p x (got f r k a) h q y e = let z : r ≡ q = cc in omega arith
  ahead_next p x (nothing r) h q y e = let z : ◌≡◌ {A = ℕ} 0 1 = cc in absurd (omega arith)
  ahead_next p x (bad n r) h q y e = let z : ◌≡◌ {A = ℕ} 0 1 = cc in absurd (omega arith)

  -- the loop goes on with the node
  row_open : (p : ℕ) (x : State) → p < length s → turn p x ≡ node_next x (here_out p x) → Ahead p (here_out p x) → row_of s turn p x
      ≡ finish (node_next x (here_out p x))
  unfolding row_of
  row_open p x h t d = by (node_next x (here_out p x)) refl
    where
      by : (n : Next State Out) → node_next x (here_out p x) ≡ n → row_of s turn p x ≡ finish n
      by (halt o) e = loop-halt (length s) turn _ p x o h (t ∙ e)
      by (more q y) e = loop-more (length s) turn _ p x q y h (t ∙ e) (ahead_next p x (here_out p x) d q y e)

  -- nothing more
  none_open : (p : ℕ) (x : State) (P : ℕ → Type 0) → here_out p x ≡ nothing p → P p → Open p x placed.nil P
  unfolding node_next
  none_open p x P e h = rw e (tt, (sym (join-nil x.forest), h))

  comment-open : (p r : ℕ) (x : State) (g : placed.Forest) (P : ℕ → Type 0) → here_out p x ≡ here_out r x → p ≤ r → Open r x g P → Open p x g P
  comment-open p r x g P e h o = rw e (lower (here_out r x) o.0, o.1)
    where
      lower : (o : Out) → Ahead r o → Ahead p o
      lower (got f q k a) d = omega arith
      lower (nothing q) d = tt
      lower (bad n q) d = tt

  node-open : (p r : ℕ) (x : State) (f g : placed.Forest) (P : ℕ → Type 0) → p < r → Right f (λ q. q ≡ r) (here_out p x)
      → ((y : State) → Right (join y.forest g) P (row_of s turn r y)) → Open p x (join f g) P
  unfolding node_next
  node-open p r x f g P h d rest = go (here_out p x) d
    where
      go : (o : Out) → Right f (λ q. q ≡ r) o → Ahead p o × Right (join x.forest (join f g)) P (finish (node_next x o))
      go (got f' q k a) e = (
        omega (arith, e.1),
        rw (e.0, e.1) (subst (λ z.
            Right z P (row_of s turn r (record { forest = join x.forest f; nodes = k; attrs = a }))) (join-assoc x.forest f g)
            (rest (record { forest = join x.forest f; nodes = k; attrs = a }))),
      )
      go (nothing q) e = absurd e
      go (bad n q) e = (tt, tt)

-- ---- a node and its later siblings
element-joined : {after w : Bytes} {t : Tree} (e : Element after w t) (p : ℕ) (later : placed.Forest) → element_placed length e p later
    ≡ join (element_placed length e p placed.nil) later
unfolding element_placed join
element-joined (without-content x y) p later = refl
element-joined (with_content x d) p later = refl

node-joined : {after w : Bytes} {t : Tree} (d : Node after w t) (p : ℕ) (later : placed.Forest) → node_placed length d p later
    ≡ join (node_placed length d p placed.nil) later
unfolding node_placed element_placed join
node-joined (a_text h) p later = refl
node-joined (a_section e) p later = refl
node-joined (last_section e) p later = refl
node-joined (an_element h k e) p later = element-joined e p later

-- ---- content
abbrev Rests : Before → List ℕ → ℕ → ℕ → State → placed.Forest → (ℕ → Type 0) → Type 0
Rests a_comment s D p x g P = Open s (element_of D s) (inner_turn s (element_of D s)) p x g P
Rests no_comment s D p x g P = Right (join x.forest g) P (row_of s (inner_turn s (element_of D s)) p x)

module _ (s : List ℕ) (D p : ℕ) (x : State) where
  rests : (b : Before) (g : placed.Forest) (P : ℕ → Type 0) → p < length s → starts_at s p close_mark ≡ false
      → Open s (element_of D s) (inner_turn s (element_of D s)) p x g P → Rests b s D p x g P
  unfolding inner_turn
  rests a_comment g P h e o = o
  rests no_comment g P h e o = rw (row_open s (element_of D s) (inner_turn s (element_of D s)) p x h (rw e) o.0) o.1

  close_read : (d after : Bytes) → Only (other 62) d → At s p ((`</` then d then `>`) ++ after)
      → Right (join x.forest placed.nil) (λ q. q ≡ p + length (`</` then d then `>`)) (row_of s (inner_turn s (element_of D s)) p x)
  unfolding row_of inner_turn close_at
  close_read d after o h =
      let assoc : (`</` then d then `>`) ++ after ≡ (`</` ++ d) ++ (62 ∷ after) = ap (`</` ++◌) (append_assoc d (62 ∷ []) after) in
      let i : At s p ((`</` ++ d) ++ (62 ∷ after)) = at_same s refl assoc h in
      let g : run_end_of (other 62) s p ≡ p + length (`</` ++ d) = run-to s (other 62) (`</` ++ d) (62 ∷ after) i (refl, (refl, o)) refl in
      let l : p + length (`</` ++ d) < length s = at_some s 62 after (at_on s (`</` ++ d) (62 ∷ after) i) in
      let t : starts_at s p close_mark ≡ true = at_starts s close_mark ((`</` ++ d) ++ (62 ∷ after)) i in
      let m : p + length (`</` ++ d) + 1 ≡ p + length (`</` then d then `>`) = omega (arith, length-append d (62 ∷ [])) in
      rw (
        loop-halt (length s) (inner_turn s (element_of D s)) _ p x (close_at s p x) (omega arith) (rw t),
        g,
        lt-ltb (p + length (`</` ++ d)) (length s) l,
      )
      (sym (join-nil x.forest), m)

  end_here : (el : Reader) → length s ≤ p → node_at_of s el p x.nodes x.attrs ≡ nothing p
  unfolding node_at_of node_here
  end_here el h = rw (comment-out s p h, le-ltb p (length s) h)

  close_here : (el : Reader) (z : Bytes) → Begins `</` z → At s p z → node_at_of s el p x.nodes x.attrs ≡ nothing p
  close_here el z b h =
      stands_here s el p x.nodes x.attrs z h (rw b.1 (omega arith)) (rw b.1 refl)
      ∙ ap (picked s el p x.nodes x.attrs) (kind_close z b)

  comment-here_out : (el : Reader) (u after : Bytes) → Comment after u → At s p (u ++ after)
      → node_at_of s el p x.nodes x.attrs ≡ node_at_of s el (p + length u) x.nodes x.attrs
  unfolding node_at_of
  comment-here_out el u after c h =
      let e : marks.past comment_end s p ≡ p + length u = beyond-to s 45 (45 ∷ 62 ∷ []) u after h c.ends in
      let w : Passed comment_end s p (p + length u) = subst (Passed comment_end s p) e (passed comment_end s p h.within) in
      let t : starts_at s p comment_mark ≡ true = at_starts s comment_mark (u ++ after) h
      ∙ begins_prefix `<!--` (u ++ after) (begins_more `<!--` u after c.opens) in
      rw (comment-on s p (p + length u) (omega (arith, at_length s h, length-append u after, comment-length c)) t w)

  comment-starts : (u after : Bytes) → Comment after u → At s p (u ++ after) → (p < length s) × (starts_at s p close_mark ≡ false)
  comment-starts u after c h = (
    omega (arith, at_length s h, length-append u after, comment-length c),
    comment-only s p (at_starts s comment_mark (u ++ after) h ∙ begins_prefix `<!--` (u ++ after) (begins_more `<!--` u after c.opens)),
  )

  node-starts : (u after : Bytes) {t : Tree} → Node after u t → At s p (u ++ after) → (p < p + length u) × (p < length s)
      × (starts_at s p close_mark ≡ false)
  node-starts u after d h =
      let k = node-complete d (length (u ++ after)) (omega arith) in (
        omega (arith, k.some_byte),
        omega (arith, at_length s h, length-append u after, k.some_byte),
        at_starts s close_mark (u ++ after) h ∙ (node-no_comment (u ++ after) k.sort k.sorted).1,
      )

-- ---- the theorem of a node, by its derivation
abbrev NodeR : (after w : Bytes) (t : Tree) → Node after w t → Type 0
NodeR after w t d =
    (s : List ℕ) (p : ℕ) → At s p (w ++ after) → (D k a : ℕ)
    → Right (node_placed length d p placed.nil) (λ q. q ≡ p + length w) (node_at_of s (element_of D s) p k a)

abbrev ElementR : (after w : Bytes) (t : Tree) → Element after w t → Type 0
ElementR after w t d =
    (s : List ℕ) (p : ℕ) → At s p (w ++ after) → (D k a : ℕ)
    → Right (element_placed length d p placed.nil) (λ q. q ≡ p + length w) (element_of D s p k a)

abbrev ContentR : (b : Before) (after w : Bytes) (f : Forest) → Content b after w f → Type 0
ContentR b after w f d =
    (s : List ℕ) (p : ℕ) → At s p (w ++ after) → (D : ℕ) (x : State) → Rests b s D p x (content_placed length d p) (λ q. q ≡ p + length w)

node-as : (s : List ℕ) (p D k a : ℕ) (z : Bytes) (i : NodeKind) (g : placed.Forest) (P : ℕ → Type 0) → At s p z → 0 < length z → kind z ≡ as_node i
    → Right g P (picked s (element_of D s) p k a (as_node i)) → Right g P (node_at_of s (element_of D s) p k a)
node-as s p D k a z i g P h l e r =
    rw (stands_here s (element_of D s) p k a z h l (node-no_comment z i e).0, e) r

text-r : (after w : Bytes) (h : Name text_byte after w) → NodeR after w _ (a_text h)
unfolding node_placed
text-r after [] h s p at D k a = absurd (h.some_byte refl)
text-r after (c ∷ w) h s p at D k a =
    node-as s p D k a (c ∷ (w ++ after)) as_text _ _ at (omega arith) (kind_text c (w ++ after) h.run.only.0)
    (text-read s p k a (c ∷ w) after h at)

section-r : (after d : Bytes) (e : EndsAtFirst `]]>` (d then `]]>`)) → NodeR after (`<![CDATA[` then d then `]]>`) _ (a_section {d = d} e)
unfolding node_placed
section-r after d e s p at D k a = node-as s p D k a _ as_section _ _ at (omega arith) refl (section-read s p k a d after e at)

last_r : (d : Bytes) (e : Lacks `]]>` d) → NodeR [] (`<![CDATA[` then d) _ (last_section e)
unfolding node_placed
last_r d e s p at D k a = node-as s p D k a _ as_section _ _ at (omega arith) refl (last_read s p k a d e at)

element-r : (after w : Bytes) {t : Tree} (h : ¬ Begins `<!--` w) (k : ¬ Begins `<![CDATA[` w) (e : Element after w t) → ElementR after w t e
    → NodeR after w t (an_element h k e)
unfolding node_placed element_placed
element-r after w h k e ih s p at D i a =
    node-as s p D i a (w ++ after) as_element _ _ at (rw (tagged-append w after (element-tagged e)).is (omega arith)) (element-kind h k e)
    (ih s p at D i a)

without-r : (after o b n : Bytes) {l : List Attr} (x : Opening (`/` then b then `>` then after) o n l) (y : Blanks b)
    → ElementR after (o then `/` then b then `>`) _ (without-content x y)
unfolding element_placed
without-r after o b n x y s p at D k a = without-read s p after o b n x y at D k a

with_r : (after o c n : Bytes) {l : List Attr} {f : Forest} (x : Opening (`>` then c then after) o n l) (d : Content no_comment after c f)
    → ContentR no_comment after c f d
    → ElementR after (o then `>` then c) _ (with_content x d)
unfolding element_placed content_placed join
with_r after o c n x d ih s p at D k a = with_read s p after o c n x (content_placed length d) (λ q E j b h. ih s q h E (fresh j b)) at D k a

close_r : (after d : Bytes) (o : Only (other 62) d) → ContentR no_comment after (`</` then d then `>`) _ (Content.close_tag d o)
unfolding content_placed
close_r after d o s p at D x = close_read s D p x d after o at

end_r : (b : Before) → ContentR b [] [] _ Content.end_of_text
unfolding content_placed row_of
end_r a_comment s p at D x =
    none_open s (element_of D s) (inner_turn s (element_of D s)) p x _ (end_here s D p x (element_of D s) (omega (arith, at_length s at))) (omega arith)
end_r no_comment s p at D x =
    rw (loop-out (length s) (inner_turn s (element_of D s)) _ p x (omega (arith, at_length s at))) (sym (join-nil x.forest), omega arith)

before-r : (after : Bytes) (h : Begins `</` after) → ContentR a_comment after [] _ (Content.before-close h)
unfolding content_placed
before-r after h s p at D x =
    none_open s (element_of D s) (inner_turn s (element_of D s)) p x _ (close_here s D p x (element_of D s) after h at) (omega arith)

comment-r : (b : Before) (after u w : Bytes) {f : Forest} (c : Comment (w then after) u) (d : Content a_comment after w f)
    → ContentR a_comment after w f d
    → ContentR b after (u then w) f (Content.comment {p = b} c d)
unfolding content_placed
comment-r b after u w c d ih s p at D x =
    let i : At s p (u ++ (w ++ after)) = at_same s refl (append_assoc u w after) at in
    let z = comment-starts s D p x u (w ++ after) c i in
    let m : p + length u + length w ≡ p + length (u then w) = omega (arith, length-append u w) in
    rests s D p x b _ _ z.0 z.1
    (comment-open s (element_of D s) (inner_turn s (element_of D s)) p (p + length u) x _ _
    (comment-here_out s D p x (element_of D s) u (w ++ after) c i) (omega arith)
    (rw (← m) (ih s (p + length u) (at_on s u (w ++ after) i) D x)))

node-r : (b : Before) (after u w : Bytes) {t : Tree} {f : Forest} (n : Node (w then after) u t) → NodeR (w then after) u t n
    → (d : Content no_comment after w f)
    → ContentR no_comment after w f d → ContentR b after (u then w) _ (Content.node {p = b} n d)
unfolding content_placed node_placed
node-r b after u w n hn d ih s p at D x =
    let i : At s p (u ++ (w ++ after)) = at_same s refl (append_assoc u w after) at in
    let z = node-starts s D p x u (w ++ after) n i in
    let m : p + length u + length w ≡ p + length (u then w) = omega (arith, length-append u w) in
    rests s D p x b _ _ z.1 z.2
    (rw (← m) (subst⁻¹ (λ g. Open s (element_of D s) (inner_turn s (element_of D s)) p x g (λ q. q ≡ p + length u + length w))
    (node-joined n p (content_placed length d (p + length u)))
    (node-open s (element_of D s) (inner_turn s (element_of D s)) p (p + length u) x (node_placed length n p placed.nil)
    (content_placed length d (p + length u)) _ z.0 (hn s p i D x.nodes x.attrs)
    (λ y. ih s (p + length u) (at_on s u (w ++ after) i) D y))))

pub node-read : {after w : Bytes} {t : Tree} (d : Node after w t) → NodeR after w t d
node-read d = elim d as NodeR ElementR ContentR [
  | a_text {after = after} {w = w} h ↦ text-r after w h
  | a_section {after = after} {d = d} e ↦ section-r after d e
  | last_section {d} e ↦ last_r d e
  | an_element {after = after} {w = w} h k (e → ih) ↦ element-r after w h k e ih
  | without-content {after = after} {o = o} {b = b} {n = n} x y ↦ without-r after o b n x y
  | with_content {after = after} {o = o} {c = c} {n = n} x (d → ih) ↦ with_r after o c n x d ih
  | Content.close_tag {after = after} d o ↦ close_r after d o
  | Content.end_of_text {p} ↦ end_r p
  | Content.before-close {after} h ↦ before-r after h
  | Content.comment {p = p} {after = after} {u = u} {w = w} c (d → ih) ↦ comment-r p after u w c d ih
  | Content.node {p = p} {after = after} {u = u} {w = w} (n → hn) (d → ih) ↦ node-r p after u w n hn d ih
]

-- ---- the nodes of a document
module _ (s : List ℕ) (D : ℕ) where
  abbrev outer : ℕ → State → Next State Out
  outer = outer_turn s (element_of D s)

  -- wherever reading stops
  abbrev anywhere : ℕ → Type 0
  anywhere q = Unit {0}

  row-of : (p : ℕ) (x : State) (g : placed.Forest) → p ≤ length s → Open s (element_of D s) outer p x g anywhere
      → Right (join x.forest g) anywhere (row_of s outer p x)
  unfolding outer_turn row_of node_next
  row-of p x g h o =
      by-test (ltb p (length s))
      (λ e. rw (row_open s (element_of D s) outer p x (ltb-true p (length s) e) refl o.0) o.1)
      (λ e. let l : length s ≤ p = ltb-false p (length s) e in
      rw (loop-out (length s) outer _ p x l) (rw (end_here s D p x (element_of D s) l) at o.1))

  nodes-open : {z : Bytes} {f : Forest} (d : Nodes z f) (p : ℕ) → At s p z → (x : State)
      → Open s (element_of D s) outer p x (nodes_placed length d p) anywhere
  unfolding nodes_placed
  nodes-open Nodes.end_of_text p at x = none_open s (element_of D s) outer p x _ (end_here s D p x (element_of D s) (omega (arith, at_length s at))) tt
  nodes-open (Nodes.before-close {s = z} h) p at x = none_open s (element_of D s) outer p x _ (close_here s D p x (element_of D s) z h at) tt
  nodes-open (Nodes.comment {u = u} {s = z} c d) p at x =
      comment-open s (element_of D s) outer p (p + length u) x _ _ (comment-here_out s D p x (element_of D s) u z c at) (omega arith)
      (nodes-open d (p + length u) (at_on s u z at) x)
  nodes-open (Nodes.node {u = u} {s = z} n d) p at x =
      let k : At s (p + length u) z = at_on s u z at in
      subst⁻¹ (λ g. Open s (element_of D s) outer p x g anywhere) (node-joined n p (nodes_placed length d (p + length u)))
      (node-open s (element_of D s) outer p (p + length u) x (node_placed length n p placed.nil) (nodes_placed length d (p + length u)) _
      (node-starts s D p x u z n at).0
      (node-read n s p at D x.nodes x.attrs) (λ y. row-of (p + length u) y (nodes_placed length d (p + length u)) k.within
      (nodes-open d (p + length u) k y)))

-- ---- the whole text
right_got : (g : placed.Forest) (P : ℕ → Type 0) (o : Out) (f : placed.Forest) (q k a : ℕ) → o ≡ got f q k a → Right g P o → f ≡ g
right_got g P o f q k a e r = (rw e at r).0

pub placed_as_derived : {s : Bytes} {f : Forest} (d : Document s f) (n m : ℕ) → Fits s n m → (g : placed.Forest) (q k a : ℕ) → meaning s n m
    ≡ got g q k a → g ≡ document_placed length d
unfolding document_placed join
placed_as_derived (document {p = p} {s = z} x y d) n m fits g q k a e =
    let s : Bytes = p then z in
    let at : At s (length p) z = at_same s {p = 0 + length p} (omega arith) refl (at_on s p z (record { is = refl; within = omega arith })) in
    let w : prolog_end s ≡ length p =
    at_one s (record { is = sym (prolog-agrees s).0 ∙ prolog-complete x y (suc (length s)) (omega arith); within = (prolog-agrees s).1 }) at in
    right_got (nodes_placed length d (length p)) (anywhere s 64) (meaning s n m) g q k a e
    (rw (in_range s n m (prolog_end s) fits refl, w)
    (row-of s 64 (length p) (fresh 0 0) (nodes_placed length d (length p)) at.within (nodes-open s 64 d (length p) at (fresh 0 0))))
