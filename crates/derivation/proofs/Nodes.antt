-- One node by places and on lists: a text, a section, an element. Assumes nothing.
--     content, _and_                  the content of elements on lists; a node and what follows it
--     ContentSame                     the two agree on content, where d more elements may be open
--     text_same, section-same         the two agree on texts and sections
--     element-none, element-more      and on elements, if they agree on content one deeper
use mathlib.Core.Path.{◌≡◌, refl, sym}
use Prim.Native.Nat.{ℕ, suc, ◌+◌, ◌-◌, ◌≤◌, ◌<◌}
use native.Mathlib.Omega.{arith}
use mathlib.Core.Bool.{true}
use mathlib.Core.List.{List}
use lib.ListN.{length, get_or, drop, length-drop}
use lib.Seq.{drop-drop}
use lib.Dec.{ltb}
use borrow.Author.Tests.{ltb-true, ltb-false}
use Rattle.scan.specs.Bytes.{text_byte, name_byte, run_end_of}
use Rattle.scan.specs.Marks as marks
use Rattle.scan.specs.Marks.{starts_at, seek}
use Rattle.scan.specs.Posts.{Passed}
use Rattle.scan.proofs.Runs.{run-low, run-high, run-stops}
use Rattle.tree.specs.Trees as placed
use Rattle.tree.specs.Read.{Out, got, nothing, bad, cdata_mark, cdata_end, TagOut, opened, shut, torn, start_at, text_at, section_at, enclose, tagged}
use Rattle.tree.specs.Read.{element_by, element_of, content_of}
use Rattle.tree.proofs.NodeLaws.{text-beyond}
use Rattle.grammar.specs.Tree.{Tree, text, section, element, Forest, none, more}
use Rattle.grammar.specs.Grammar.{no_comment}
use Rattle.grammar.proofs.Reader.{as_text, as_section, as_element}
use Rattle.grammar.proofs.Counted.{LRes, lok, lbad, lmap, lnext, Counted, node_l, element_l}
use Rattle.scan.proofs.Every.{by-test}
use Rattle.grammar.proofs.CountedRounds.{content_c}
use Rattle.scan.specs.Part.{string_at}
use Rattle.derivation.specs.Strings.{attrs_in, tree_in}
use Rattle.derivation.proofs.Cases.{tag_case}
use Rattle.derivation.proofs.RunLaws.{run-string, past-drop}
use Rattle.derivation.proofs.SearchLaws.{beyond-at, before_at, starts_whole, passed}
use Rattle.derivation.proofs.StartTags.{TagEnds, tag-ends, tag-agrees}
use Rattle.derivation.proofs.Joining.{map_one}
use Rattle.derivation.proofs.Rows.{Stands, Same, NodeSame}

-- the content of elements, on lists
abbrev pub content : ℕ → Counted Forest
content d = content_c d no_comment

-- a node, and what follows it
infixl 20 ◌and◌
abbrev pub ◌and◌ : LRes Tree → Counted Forest → LRes Forest
◌and◌ x rec = lnext x (λ t k j r. lmap (more t) (rec k j r))

-- how many nodes may still begin
one_more : (k : ℕ) → k < 8192 → 8192 - k ≡ suc (8192 - (k + 1))
one_more k h = omega arith

no_more : (k : ℕ) → 8192 ≤ k → 8192 - k ≡ 0
no_more k h = omega arith

-- content from a place on, where d more elements may be open
abbrev pub ContentSame : List ℕ → ℕ → Type 0
ContentSame s d = (p k a : ℕ) → Stands s p k a → Same s p (content_of d s p k a) (content d (8192 - k) (8192 - a) (drop p s))

module _ (s : List ℕ) (rec : Counted Forest) (q k a : ℕ) (b : Stands s q k a) where
  -- a node that was read, with the place r after it
  read_same : (t : Tree) (f : placed.Forest) (r j c : ℕ) → tree_in s f ≡ more t none → q < r → Stands s r j c
      → NodeSame s rec q k a (got f r j c) (lok t (8192 - j) (8192 - c) (drop r s) and rec)
  read_same t f r j c e h g = (rw e (sym (map_one t (rec (8192 - j) (8192 - c) (drop r s)))), h, g)

  -- a refusal at q itself
  bad-same : (n : ℕ) → NodeSame s rec q k a (bad n q) (lbad n (length (drop q s)) and rec)
  bad-same n = (rw (length-drop q s), b.within)

  -- ---- texts
  text-law : (d i j : ℕ) → node_l content as_text d (suc i) j (drop q s)
      ≡ lok (text (string_at s q (run_end_of text_byte s q - q))) i j (drop (run_end_of text_byte s q) s)
  unfolding node_l
  text-law d i j = rw (run-string text_byte s q, past-drop text_byte s q)

  full-text : (d j : ℕ) → node_l content as_text d 0 j (drop q s) ≡ lbad 5 (length (drop q s))
  unfolding node_l
  full-text d j = refl

  pub text_same : (d : ℕ) → q < length s → (get_or s q 0 ≡ 60 → ⊥)
      → NodeSame s rec q k a (text_at s q k a) (node_l content as_text d (8192 - k) (8192 - a) (drop q s) and rec)
  unfolding text_at tree_in
  text_same d h n =
      let e : ℕ = run_end_of text_byte s q in
      let w : e ≤ length s = run-high text_byte s q b.within in
      let l : q + 1 ≤ e = text-beyond s q e h n (record { is = refl; after = run-low text_byte s q; within = w; stops = run-stops text_byte s q }) in
      by-test (ltb k 8192)
      (λ x. rw (x, one_more k (ltb-true k 8192 x), text-law d (8192 - (k + 1)) (8192 - a))
      (read_same (text (string_at s q (e - q))) (placed.text q (e - q) placed.nil) e (k + 1) a refl (omega arith)
      (record { within = w; most = omega (arith, ltb-true k 8192 x); least = b.least })))
      (λ x. rw (x, no_more k (ltb-false k 8192 x), full-text d (8192 - a)) (bad-same 5))

  -- ---- sections
  section-law : (d i j : ℕ) → q + 9 ≤ length s
      → node_l content as_section d (suc i) j (drop q s) ≡ lok (section (string_at s (q + 9) (seek cdata_end s (q + 9) - (q + 9)))) i j
      (drop (marks.past cdata_end s (q + 9)) s)
  unfolding node_l
  section-law d i j h = rw (drop-drop 9 q s, before_at cdata_end s (q + 9) h, beyond-at cdata_end s (q + 9))

  full-section : (d j : ℕ) → node_l content as_section d 0 j (drop q s) ≡ lbad 5 (length (drop q s))
  unfolding node_l
  full-section d j = refl

  pub section-same : (d : ℕ) → starts_at s q cdata_mark ≡ true
      → NodeSame s rec q k a (section_at s q k a) (node_l content as_section d (8192 - k) (8192 - a) (drop q s) and rec)
  unfolding section_at tree_in
  section-same d m =
      let h : q + 9 ≤ length s = starts_whole cdata_mark s q b.within m in
      let n : ℕ = seek cdata_end s (q + 9) - (q + 9) in
      let r : ℕ = marks.past cdata_end s (q + 9) in
      let w : Passed cdata_end s (q + 9) r = passed cdata_end s (q + 9) h in
      by-test (ltb k 8192)
      (λ x. rw (x, one_more k (ltb-true k 8192 x), section-law d (8192 - (k + 1)) (8192 - a) h)
      (read_same (section (string_at s (q + 9) n)) (placed.section (q + 9) n placed.nil) r (k + 1) a refl (omega (arith, w.after))
      (record { within = w.within; most = omega (arith, ltb-true k 8192 x); least = b.least })))
      (λ x. rw (x, no_more k (ltb-false k 8192 x), full-section d (8192 - a)) (bad-same 5))

  -- ---- elements
  pub element-none : NodeSame s rec q k a (element_of 0 s q k a) (node_l content as_element 0 (8192 - k) (8192 - a) (drop q s) and rec)
  unfolding element_of node_l
  element-none = bad-same 4

  module _ (n : ℕ) where
    enclose-same : (l : List placed.Attr) (r : ℕ) (o : Out) (x : LRes Forest) → q < r → Same s r o x
        → NodeSame s rec q k a (enclose q n l o) (lmap (element (string_at s (q + 1) n) (attrs_in s l)) x and rec)
    unfolding enclose tree_in
    enclose-same l r (got f z j c) x h t =
        rw t.0 (read_same (element (string_at s (q + 1) n) (attrs_in s l) (tree_in s f)) (placed.elem q n l f placed.nil) z j c refl
        (omega (arith, t.1)) t.2)
    enclose-same l r (nothing z) x h t = absurd t
    enclose-same l r (bad m z) x h t = (rw t.0, t.1)

    tagged-same : (d : ℕ) → ContentSame s d → (o : TagOut) → TagEnds s q a o → k < 8192
        → NodeSame s rec q k a (tagged (content_of d s) q n k o) (tag_case (content d) s (string_at s (q + 1) n) (8192 - (k + 1)) o and rec)
    unfolding tagged tag_case tree_in
    tagged-same d ih (opened l r c) t h =
        enclose-same l r _ _ (omega (arith, t.0)) (ih r (k + 1) c (record { within = t.1; most = omega arith; least = t.2 }))
    tagged-same d ih (shut l r c) t h =
        read_same (element (string_at s (q + 1) n) (attrs_in s l) none) (placed.elem q n l placed.nil placed.nil) r (k + 1) c refl (omega (arith, t.0))
        (record { within = t.1; most = omega arith; least = t.2 })
    tagged-same d ih (torn m r) t h = (refl, t)

  element-law : (d i j : ℕ) → node_l content as_element (suc d) (suc i) j (drop q s) ≡ element_l (content d) i j (drop (q + 1) s)
  unfolding node_l
  element-law d i j = rw (drop-drop 1 q s)

  full-element : (d j : ℕ) → node_l content as_element (suc d) 0 j (drop q s) ≡ lbad 5 (length (drop q s))
  unfolding node_l
  full-element d j = refl

  pub element-more : (d : ℕ) → ContentSame s d → q < length s
      → NodeSame s rec q k a (element_of (suc d) s q k a) (node_l content as_element (suc d) (8192 - k) (8192 - a) (drop q s) and rec)
  unfolding element_of element_by
  element-more d ih h =
      let e : ℕ = run_end_of name_byte s (q + 1) in
      by-test (ltb k 8192)
      (λ x. rw (
        x,
        one_more k (ltb-true k 8192 x),
        element-law d (8192 - (k + 1)) (8192 - a),
        tag-agrees s (content d) q (8192 - (k + 1)) a h b.least,
      )
      (tagged-same (e - (q + 1)) d ih (start_at s q e a) (tag-ends s q a h b.least (start_at s q e a) refl) (ltb-true k 8192 x)))
      (λ x. rw (x, no_more k (ltb-false k 8192 x), full-element d (8192 - a)) (bad-same 5))
