-- The forest of a derivation with entities read: the same places, and each text and value as long as it is then. Assumes nothing.
--     string-at           a string that stands at a place
--     read_placed         the whole text
use Prim.Native.Nat.{ℕ, ◌+◌}
use mathlib.Core.Path.{◌≡◌, refl, ap, ap₂, ◌∙◌}
use mathlib.Core.List.{List, [], ◌∷◌, ◌++◌, append_assoc}
use native.Mathlib.Omega.{arith}
use lib.ListN.{length, take}
use lib.Seq.{take-append_seam}
use Rattle.scan.specs.Bytes.{text_byte, other}
use Rattle.scan.specs.Part.{string_at}
use Rattle.entities.specs.Decode.{decoded}
use Rattle.entities.proofs.Decoding.{decoded-short}
use Rattle.grammar.specs.Words.{Bytes, ◌then◌, Only, Begins, Lacks, EndsAtFirst}
use Rattle.grammar.specs.Tree.{Tree, Forest, Attr}
use Rattle.grammar.specs.Tree.{`>`, `/`, `=`, `</`, `<!--`, `<![CDATA[`, `]]>`}
use Rattle.grammar.specs.Grammar.{Blanks, Name, Value, quoted, unquoted, Attribute, alone, named, nameless, Attributes, no_attribute, attribute}
use Rattle.grammar.specs.Grammar.{Opening, opening, Comment, Before, a_comment, no_comment, Node, a_text, a_section, last_section, an_element}
use Rattle.grammar.specs.Grammar.{Element, without-content, with_content, Content, Nodes, Document, document}
use Rattle.derivation.proofs.RunLaws.{string_is}
use Rattle.tree.specs.Trees as placed
use Rattle.xml.specs.Steps.{read_attrs, read_forest}
use Rattle.xml.specs.Where.{value_place, attr_placed, attrs_placed, opening_placed, node_placed, nodes_placed, document_placed}
use Rattle.xml.proofs.Standing.{At, at_on, at_same}
use Rattle.xml.proofs.Derived.{element_placed, content_placed}

-- with entities read
abbrev pub read_length : Bytes → ℕ
read_length b = length (decoded b)

module _ (s : List ℕ) where
  string-at : {p : ℕ} (w after : Bytes) → At s p (w ++ after) → string_at s p (length w) ≡ w
  string-at {p} w after h = string_is s p (length w) ∙ ap (take (length w)) h.is ∙ take-append_seam w after

  value_read : {after w v : Bytes} (x : Value after w v) (p : ℕ) → At s p (w ++ after) → string_at s (value_place x p) (length v) ≡ v
  unfolding value_place
  value_read {after} (quoted {q = q} {v = v} h o) p at =
      string-at v (q ∷ after) (at_on s (q ∷ []) (v ++ (q ∷ after)) (at_same s refl (ap (q ∷◌) (append_assoc v (q ∷ []) after)) at))
  value_read {after} (unquoted {v = v} f r e) p at = string-at v after at

  empty-read : (v : ℕ) → length (decoded (string_at s v 0)) ≡ 0
  empty-read v = rw (string_is s v 0) (omega (arith, decoded-short []))

  abbrev made : ℕ → ℕ → ℕ → ℕ → placed.Attr
  made p n v m = record { name = p; name_len = n; value = v; value_len = m }

  -- an attribute's row with its value read
  abbrev reread : placed.Attr → placed.Attr
  reread x = record { name = x.name; name_len = x.name_len; value = x.value; value_len = length (decoded (string_at s x.value x.value_len)) }

  attr-read : {z u : Bytes} {a : Attr} (x : Attribute z u a) (p : ℕ) → At s p (u ++ z) → reread (attr_placed length x p) ≡ attr_placed read_length x p
  unfolding attr_placed
  attr-read (alone {n = n} h e) p at =
      ap (λ (i : ℕ). made p (length n) (p + length n) i) (empty-read (p + length n))
  attr-read {z} (named {n = n} {b = b} {c = c} {w = w} {v = v} h bb cc x) p at =
      let y : Bytes = b then `=` then c then w then z in
      let i : At s p (n ++ y) = at_same s refl (simp append_assoc) at in
      let j : At s (p + length n + length b) (`=` then c then w then z) = at_on s b (`=` then c then w then z) (at_on s n y i) in
      let k : At s (p + length n + length b + 1 + length c) (w ++ z) = at_on s c (w ++ z) (at_on s `=` (c ++ (w ++ z)) j) in
      ap (λ (y : Bytes). made p (length n) (value_place x (p + length n + length b + 1 + length c)) (length (decoded y)))
      (value_read x (p + length n + length b + 1 + length c) k)
  attr-read {z} (nameless {c = c} {w = w} {v = v} cc x) p at =
      let i : At s p (`=` then c then w then z) = at_same s refl (simp append_assoc) at in
      let k : At s (p + 1 + length c) (w ++ z) = at_on s c (w ++ z) (at_on s `=` (c ++ (w ++ z)) i) in
      ap (λ (y : Bytes). made p 0 (value_place x (p + 1 + length c)) (length (decoded y))) (value_read x (p + 1 + length c) k)

  attrs-read : {after w : Bytes} {l : List Attr} (d : Attributes after w l) (p : ℕ) → At s p (w ++ after)
      → read_attrs s (attrs_placed length d p) ≡ attrs_placed read_length d p
  unfolding attrs_placed read_attrs
  attrs-read no_attribute p at = refl
  attrs-read {after} (attribute {u = u} {b = b} {w = w} x bb d) p at =
      let i : At s p (u ++ (b ++ (w ++ after))) = at_same s refl (simp append_assoc) at in
      let j : At s (p + length u + length b) (w ++ after) = at_on s b (w ++ after) (at_on s u (b ++ (w ++ after)) i) in
      ap₂ (λ (a : placed.Attr) (l : List placed.Attr). a ∷ l) (attr-read x p i) (attrs-read d (p + length u + length b) j)

  opening-read : {after o n : Bytes} {l : List Attr} (d : Opening after o n l) (p : ℕ) → At s p (o ++ after)
      → read_attrs s (opening_placed length d p) ≡ opening_placed read_length d p
  unfolding opening_placed
  opening-read {after} (opening {n = n} {b = b} {w = w} f bb d) p at =
      let i : At s p (60 ∷ (n ++ (b ++ (w ++ after)))) = at_same s refl (ap (60 ∷◌) (simp append_assoc)) at in
      let j : At s (p + 1) (n ++ (b ++ (w ++ after))) = at_on s (60 ∷ []) (n ++ (b ++ (w ++ after))) i in
      attrs-read d (p + 1 + length n + length b) (at_on s b (w ++ after) (at_on s n (b ++ (w ++ after)) j))

-- ---- nodes, by their derivation
abbrev NodeL : (after w : Bytes) (t : Tree) → Node after w t → Type 0
NodeL after w t d = (s : List ℕ) (p : ℕ) → At s p (w ++ after) → (later : placed.Forest)
    → read_forest s (node_placed length d p later) ≡ node_placed read_length d p (read_forest s later)

abbrev ElementL : (after w : Bytes) (t : Tree) → Element after w t → Type 0
ElementL after w t d = (s : List ℕ) (p : ℕ) → At s p (w ++ after) → (later : placed.Forest)
    → read_forest s (element_placed length d p later) ≡ element_placed read_length d p (read_forest s later)

abbrev ContentL : (b : Before) (after w : Bytes) (f : Forest) → Content b after w f → Type 0
ContentL b after w f d = (s : List ℕ) (p : ℕ) → At s p (w ++ after) → read_forest s (content_placed length d p) ≡ content_placed read_length d p

text-l : (after w : Bytes) (h : Name text_byte after w) → NodeL after w _ (a_text h)
unfolding node_placed read_forest
text-l after w h s p at later = ap (λ (y : Bytes). placed.text p (length (decoded y)) (read_forest s later)) (string-at s w after at)

section-l : (after d : Bytes) (e : EndsAtFirst `]]>` (d then `]]>`)) → NodeL after (`<![CDATA[` then d then `]]>`) _ (a_section {d = d} e)
unfolding node_placed read_forest
section-l after d e s p at later = refl

last_l : (d : Bytes) (e : Lacks `]]>` d) → NodeL [] (`<![CDATA[` then d) _ (last_section e)
unfolding node_placed read_forest
last_l d e s p at later = refl

element-l : (after w : Bytes) {t : Tree} (h : ¬ Begins `<!--` w) (k : ¬ Begins `<![CDATA[` w) (e : Element after w t) → ElementL after w t e
    → NodeL after w t (an_element h k e)
unfolding node_placed element_placed
element-l after w h k e ih s p at later = ih s p at later

without-l : (after o b n : Bytes) {l : List Attr} (x : Opening (`/` then b then `>` then after) o n l) (y : Blanks b)
    → ElementL after (o then `/` then b then `>`) _ (without-content x y)
unfolding element_placed read_forest
without-l after o b n x y s p at later =
    ap (λ (l : List placed.Attr). placed.elem p (length n) l placed.nil (read_forest s later))
    (opening-read s x p (at_same s refl (simp append_assoc) at))

with_l : (after o c n : Bytes) {l : List Attr} {f : Forest} (x : Opening (`>` then c then after) o n l) (d : Content no_comment after c f)
    → ContentL no_comment after c f d
    → ElementL after (o then `>` then c) _ (with_content x d)
unfolding element_placed content_placed read_forest
with_l after o c n x d ih s p at later =
    let i : At s p (o ++ (62 ∷ (c ++ after))) = at_same s refl (simp append_assoc) at in
    let j : At s (p + length o + 1) (c ++ after) = at_on s (62 ∷ []) (c ++ after) (at_on s o (62 ∷ (c ++ after)) i) in
    ap₂ (λ (l : List placed.Attr) (f : placed.Forest). placed.elem p (length n) l f (read_forest s later)) (opening-read s x p i)
    (ih s (p + length o + 1) j)

none-l : (s : List ℕ) → read_forest s placed.nil ≡ placed.nil
unfolding read_forest
none-l s = refl

close_l : (after d : Bytes) (o : Only (other 62) d) → ContentL no_comment after (`</` then d then `>`) _ (Content.close_tag d o)
unfolding content_placed
close_l after d o s p at = none-l s

end_l : (b : Before) → ContentL b [] [] _ Content.end_of_text
unfolding content_placed
end_l b s p at = none-l s

before-l : (after : Bytes) (h : Begins `</` after) → ContentL a_comment after [] _ (Content.before-close h)
unfolding content_placed
before-l after h s p at = none-l s

comment-l : (b : Before) (after u w : Bytes) {f : Forest} (c : Comment (w then after) u) (d : Content a_comment after w f)
    → ContentL a_comment after w f d
    → ContentL b after (u then w) f (Content.comment {p = b} c d)
unfolding content_placed
comment-l b after u w c d ih s p at = ih s (p + length u) (at_on s u (w ++ after) (at_same s refl (append_assoc u w after) at))

node-l : (b : Before) (after u w : Bytes) {t : Tree} {f : Forest} (n : Node (w then after) u t) → NodeL (w then after) u t n
    → (d : Content no_comment after w f)
    → ContentL no_comment after w f d → ContentL b after (u then w) _ (Content.node {p = b} n d)
unfolding content_placed node_placed
node-l b after u w n hn d ih s p at =
    let i : At s p (u ++ (w ++ after)) = at_same s refl (append_assoc u w after) at in
    hn s p i (content_placed length d (p + length u)) ∙ ap (node_placed read_length n p) (ih s (p + length u) (at_on s u (w ++ after) i))

node-lengths : {after w : Bytes} {t : Tree} (d : Node after w t) → NodeL after w t d
node-lengths d = elim d as NodeL ElementL ContentL [
  | a_text {after = after} {w = w} h ↦ text-l after w h
  | a_section {after = after} {d = d} e ↦ section-l after d e
  | last_section {d} e ↦ last_l d e
  | an_element {after = after} {w = w} h k (e → ih) ↦ element-l after w h k e ih
  | without-content {after = after} {o = o} {b = b} {n = n} x y ↦ without-l after o b n x y
  | with_content {after = after} {o = o} {c = c} {n = n} x (d → ih) ↦ with_l after o c n x d ih
  | Content.close_tag {after = after} d o ↦ close_l after d o
  | Content.end_of_text {p} ↦ end_l p
  | Content.before-close {after} h ↦ before-l after h
  | Content.comment {p = p} {after = after} {u = u} {w = w} c (d → ih) ↦ comment-l p after u w c d ih
  | Content.node {p = p} {after = after} {u = u} {w = w} (n → hn) (d → ih) ↦ node-l p after u w n hn d ih
]

-- ---- the whole text
nodes-lengths : (s : List ℕ) {z : Bytes} {f : Forest} (d : Nodes z f) (p : ℕ) → At s p z → read_forest s (nodes_placed length d p)
    ≡ nodes_placed read_length d p
unfolding nodes_placed
nodes-lengths s Nodes.end_of_text p at = none-l s
nodes-lengths s (Nodes.before-close h) p at = none-l s
nodes-lengths s (Nodes.comment {u = u} {s = z} c d) p at = nodes-lengths s d (p + length u) (at_on s u z at)
nodes-lengths s (Nodes.node {u = u} {s = z} n d) p at =
    node-lengths n s p at (nodes_placed length d (p + length u)) ∙ ap (node_placed read_length n p) (nodes-lengths s d (p + length u) (at_on s u z at))

pub read_placed : {s : Bytes} {f : Forest} (d : Document s f) → read_forest s (document_placed length d) ≡ document_placed read_length d
unfolding document_placed
read_placed (document {p = p} {s = z} x y d) =
    let s : Bytes = p then z in
    nodes-lengths s d (length p) (at_same s {p = 0 + length p} (omega arith) refl (at_on s p z (record { is = refl; within = omega arith })))
