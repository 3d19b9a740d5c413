-- Content and the nodes of the whole text by places and on lists. By places the comments before a node are passed with it; on lists each is a
-- step, after which a close tag is not taken. Assumes nothing.
--     content_same     the two agree on the content of an element
--     nodes-same       and on the nodes outside of all elements
use mathlib.Core.Path.{◌≡◌, refl, sym, ap, ◌∙◌}
use Prim.Native.Nat.{ℕ, zero, suc, ◌+◌, ◌-◌, ◌≤◌, ◌<◌}
use native.Mathlib.Omega.{arith}
use mathlib.Core.Bool.{Bool, true, false, cond}
use mathlib.Core.List.{List, [], ◌∷◌}
use lib.ListN.{length, get_or, drop, length-drop, drop_of_length-le}
use lib.Dec.{ltb}
use borrow.Author.Tests.{ltb-true, ltb-false, le-ltb}
use Rattle.scan.specs.Bytes.{other, run_end_of}
use Rattle.scan.specs.Marks as marks
use Rattle.scan.specs.Marks.{starts_at}
use Rattle.scan.specs.Posts.{Passed}
use Rattle.scan.proofs.Runs.{run-low}
use Rattle.tree.specs.Read.{Out, close_mark, comment_mark, comment_end, cdata_mark, State, node_here, node_at_of, close_at, inner_turn, outer_turn}
use Rattle.tree.specs.Read.{row_of, fresh, element_of}
use Rattle.tree.proofs.NodeLaws.{comment-on, comment-here, comment-out}
use Rattle.grammar.specs.Words.{Bytes}
use Rattle.grammar.specs.Tree.{Forest, none}
use Rattle.grammar.specs.Tree.{`-->`}
use Rattle.grammar.specs.Grammar.{Before, a_comment, no_comment}
use Rattle.grammar.specs.Scan.{past, beyond}
use Rattle.grammar.proofs.Reader as lists
use Rattle.grammar.proofs.Reader.{NodeKind, as_text, as_section, as_element, Kind, as_close, as_comment, as_node, kind, after_close}
use Rattle.grammar.proofs.Counted.{lok, lmap, lift, Counted, node_l, content_as_l, content_step_l, nodes_as_l, nodes_step_l}
use Rattle.scan.proofs.Every.{by-test}
use Rattle.grammar.proofs.CountedRounds.{content_c, content_c_is, nodes_c, nodes_c_is}
use Rattle.derivation.specs.Strings.{tree_in}
use Rattle.derivation.proofs.RunLaws.{byte_at, past-drop}
use Rattle.derivation.proofs.SearchLaws.{from_end, beyond-at, passed}
use Rattle.derivation.proofs.Joining.{joined, joined-none, map_none}
use Rattle.derivation.proofs.Rows.{Stands, Same, NodeSame, TurnSame, node-lower, node-turn, row_same}
use Rattle.derivation.proofs.Nodes.{content, ◌and◌, ContentSame, text_same, section-same, element-none, element-more}
use Rattle.derivation.proofs.NodeKinds.{kind_at, comment-only, Here, closes, a_text, a_section, an_element, here}

-- ---- a row on lists, a law for each way: `at` reads it, and `rec` what follows a node
record Lists (d : ℕ) (at rec : Counted Forest) : Type 0 where
  pub ends : (k j : ℕ) → at k j [] ≡ lok none k j []
  pub stops : (k j : ℕ) (z : Bytes) → 0 < length z → kind z ≡ as_close → at k j z ≡ lok none k j z
  pub passes : (k j : ℕ) (z : Bytes) → 0 < length z → kind z ≡ as_comment → at k j z ≡ at k j (beyond `-->` z)
  pub reads : (k j : ℕ) (z : Bytes) → 0 < length z → (i : NodeKind) → kind z ≡ as_node i → at k j z ≡ (node_l content i d k j z and rec)

content_step : (d : ℕ) (p : Before) (k j : ℕ) (z : Bytes) → 0 < length z → content_c d p k j z ≡ content_as_l content_c d p (kind z) k j z
unfolding content_step_l
content_step d p k j [] h = absurd (omega arith)
content_step d p k j (a ∷ z) h = content_c_is d p k j (a ∷ z)

content_ends : (d : ℕ) (p : Before) (k j : ℕ) → content_c d p k j [] ≡ lok none k j []
unfolding content_step_l
content_ends d p k j = content_c_is d p k j []

-- content after a comment
content_lists : (d : ℕ) → Lists d (content_c d a_comment) (content d)
unfolding content_as_l
content_lists d = record {
  ends = content_ends d a_comment;
  stops = λ k j z h e. content_step d a_comment k j z h ∙ rw e;
  passes = λ k j z h e. content_step d a_comment k j z h ∙ rw e;
  reads = λ k j z h i e. content_step d a_comment k j z h ∙ rw e;
}

nodes-step : (d k j : ℕ) (z : Bytes) → 0 < length z → nodes_c d k j z ≡ nodes_as_l content nodes_c d (kind z) k j z
unfolding nodes_step_l
nodes-step d k j [] h = absurd (omega arith)
nodes-step d k j (a ∷ z) h = nodes_c_is d k j (a ∷ z)

nodes-ends : (d k j : ℕ) → nodes_c d k j [] ≡ lok none k j []
unfolding nodes_step_l
nodes-ends d k j = nodes_c_is d k j []

nodes-lists : (d : ℕ) → Lists d (nodes_c d) (nodes_c d)
unfolding nodes_as_l
nodes-lists d = record {
  ends = nodes-ends d;
  stops = λ k j z h e. nodes-step d k j z h ∙ rw e;
  passes = λ k j z h e. nodes-step d k j z h ∙ rw e;
  reads = λ k j z h i e. nodes-step d k j z h ∙ rw e;
}

-- ---- a node after comments
abbrev ElementSame : List ℕ → ℕ → Type 0
ElementSame s d = (rec : Counted Forest) (q k a : ℕ) → Stands s q k a → q < length s
    → NodeSame s rec q k a (element_of d s q k a) (node_l content as_element d (8192 - k) (8192 - a) (drop q s) and rec)

module _ (s : List ℕ) (d : ℕ) (at rec : Counted Forest) (row : Lists d at rec) (elements : ElementSame s d) where
  some : (q : ℕ) → q < length s → 0 < length (drop q s)
  some q h = rw (length-drop q s) (omega arith)

  here_same : (q k a : ℕ) → Stands s q k a → q < length s → Here s (element_of d s) q k a
      → NodeSame s rec q k a (node_here s (element_of d s) q k a) (at (8192 - k) (8192 - a) (drop q s))
  here_same q k a b h (closes e w) = rw w (row.stops (8192 - k) (8192 - a) (drop q s) (some q h) e, omega arith, b.within)
  here_same q k a b h (a_text e w n) = rw (w, row.reads (8192 - k) (8192 - a) (drop q s) (some q h) as_text e) (text_same s rec q k a b d h n)
  here_same q k a b h (a_section e w m) = rw (w, row.reads (8192 - k) (8192 - a) (drop q s) (some q h) as_section e) (section-same s rec q k a b d m)
  here_same q k a b h (an_element e w) = rw (w, row.reads (8192 - k) (8192 - a) (drop q s) (some q h) as_element e) (elements rec q k a b h)

  abbrev AfterComments : ℕ → Type 0
  AfterComments p = (k a : ℕ) → Stands s p k a → NodeSame s rec p k a (node_at_of s (element_of d s) p k a) (at (8192 - k) (8192 - a) (drop p s))

  at_end : (p : ℕ) → length s ≤ p → AfterComments p
  unfolding node_at_of node_here
  at_end p h k a b =
      rw (comment-out s p h, le-ltb p (length s) h) (rw (drop_of_length-le s h) (row.ends (8192 - k) (8192 - a)), omega arith, b.within)

  at_place : (p : ℕ) → p < length s → ((q : ℕ) → p < q → AfterComments q) → AfterComments p
  unfolding node_at_of
  at_place p h later k a b =
      let q : ℕ = marks.past comment_end s p in
      let w : Passed comment_end s p q = passed comment_end s p b.within in
      by-test (starts_at s p comment_mark)
      (λ e. let t = later q (w.beyond h (omega arith)) k a (record { within = w.within; most = b.most; least = b.least }) in
      let l : at (8192 - k) (8192 - a) (drop p s) ≡ at (8192 - k) (8192 - a) (drop q s) =
      row.passes (8192 - k) (8192 - a) (drop p s) (some p h) (kind_at s p ∙ rw (comment-only s p e, e)) ∙ rw (beyond-at comment_end s p) in
      rw (comment-on s p q h e w) (node-lower s rec p q k a (node_at_of s (element_of d s) q k a) _ _ w.after l t))
      (λ e. rw (comment-here s p h e) (here_same p k a b h (here s (element_of d s) p k a h e)))

  node-same : (p : ℕ) → AfterComments p
  node-same = from_end (length s) AfterComments at_end at_place

-- ---- content
-- without `</` it makes no difference whether a comment stands before
abbrev open_kind : Bool → Bool → Bool → Kind
open_kind a b c = cond a as_comment (cond b (as_node as_section) (cond c (as_node as_element) (as_node as_text)))

unflagged : (d k j : ℕ) (z : Bytes) (a b c : Bool) → content_as_l content_c d no_comment (open_kind a b c) k j z
    ≡ content_as_l content_c d a_comment (open_kind a b c) k j z
unfolding content_as_l
unflagged d k j z true b c = refl
unflagged d k j z false true c = refl
unflagged d k j z false false true = refl
unflagged d k j z false false false = refl

open_law : (s : List ℕ) (d k j p : ℕ) → p < length s → starts_at s p close_mark ≡ false → content d k j (drop p s) ≡ content_c d a_comment k j (drop p s)
open_law s d k j p h e =
    let l : 0 < length (drop p s) = rw (length-drop p s) (omega arith) in
    let w : kind (drop p s) ≡ open_kind (starts_at s p comment_mark) (starts_at s p cdata_mark) (starts_at s p (60 ∷ [])) = kind_at s p ∙ rw e in
    content_step d no_comment k j (drop p s) l
    ∙ rw w (unflagged d k j (drop p s) (starts_at s p comment_mark) (starts_at s p cdata_mark) (starts_at s p (60 ∷ [])))
    ∙ ap (λ i. content_as_l content_c d a_comment i k j (drop p s)) (sym w) ∙ sym (content_step d a_comment k j (drop p s) l)

close_law : (d k j : ℕ) (z : Bytes) → 0 < length z → kind z ≡ as_close
    → content d k j z ≡ lift (after_close (length z) (past (other 62) z)) (λ f r. lok f k j r)
unfolding content_as_l
close_law d k j z h e = content_step d no_comment k j z h ∙ rw e

after-close : (i a : ℕ) (z : Bytes) → (after_close i [] ≡ lists.bad 11 i) × (after_close i (a ∷ z) ≡ lists.ok none z)
unfolding after_close
after-close i a z = (refl, refl)

close_same : (s : List ℕ) (d p : ℕ) (x : State) → Stands s p x.nodes x.attrs → p < length s → starts_at s p close_mark ≡ true
    → Same s p (close_at s p x) (lmap (joined (tree_in s x.forest)) (content d (8192 - x.nodes) (8192 - x.attrs) (drop p s)))
unfolding close_at
close_same s d p x b h e =
    let g : ℕ = run_end_of (other 62) s p in
    let i : ℕ = length s - p in
    rw (
      close_law d (8192 - x.nodes) (8192 - x.attrs) (drop p s) (rw (length-drop p s) (omega arith)) (kind_at s p ∙ rw e),
      length-drop p s,
      past-drop (other 62) s p,
    )
    (by-test (ltb g (length s))
    (λ w. let l : g < length s = ltb-true g (length s) w in
    rw (w, byte_at s g l, (after-close i (get_or s g 0) (drop (g + 1) s)).1, joined-none (tree_in s x.forest))
    (refl, omega (arith, run-low (other 62) s p), record { within = omega arith; most = b.most; least = b.least }))
    (λ w. rw (w, drop_of_length-le s (ltb-false g (length s) w), (after-close i 0 []).0) (refl, b.within)))

module _ (s : List ℕ) (d : ℕ) (elements : ElementSame s d) where
  inner_same : (p : ℕ) (x : State) → p < length s → Stands s p x.nodes x.attrs
      → TurnSame s (content d) p x (inner_turn s (element_of d s) p x) (content d (8192 - x.nodes) (8192 - x.attrs) (drop p s))
  unfolding inner_turn
  inner_same p x h b = by-test (starts_at s p close_mark)
      (λ e. rw e (close_same s d p x b h e))
      (λ e. let o : Out = node_at_of s (element_of d s) p x.nodes x.attrs in
      rw e (node-turn s (content d) p x o _ b
      (node-lower s (content d) p p x.nodes x.attrs o _ _ (omega arith) (open_law s d (8192 - x.nodes) (8192 - x.attrs) p h e)
      (node-same s d (content_c d a_comment) (content d) (content_lists d) elements p x.nodes x.attrs b))))

  content-from : ContentSame s d
  unfolding tree_in
  content-from p k a b =
      rw (← (map_none (content d (8192 - k) (8192 - a) (drop p s))))
      (row_same s (content d) (inner_turn s (element_of d s)) (content_ends d no_comment) inner_same p (fresh k a) b)

  outer_same : (p : ℕ) (x : State) → p < length s → Stands s p x.nodes x.attrs
      → TurnSame s (nodes_c d) p x (outer_turn s (element_of d s) p x) (nodes_c d (8192 - x.nodes) (8192 - x.attrs) (drop p s))
  unfolding outer_turn
  outer_same p x h b = node-turn s (nodes_c d) p x _ _ b (node-same s d (nodes_c d) (nodes_c d) (nodes-lists d) elements p x.nodes x.attrs b)

  nodes-from : (p k a : ℕ) → Stands s p k a → Same s p (row_of s (outer_turn s (element_of d s)) p (fresh k a))
      (nodes_c d (8192 - k) (8192 - a) (drop p s))
  unfolding tree_in
  nodes-from p k a b =
      rw (← (map_none (nodes_c d (8192 - k) (8192 - a) (drop p s))))
      (row_same s (nodes_c d) (outer_turn s (element_of d s)) (nodes-ends d) outer_same p (fresh k a) b)

elements_same : (s : List ℕ) (d : ℕ) → ElementSame s d
elements_same s zero rec q k a b h = element-none s rec q k a b
elements_same s (suc d) rec q k a b h = element-more s rec q k a b d (content-from s d (elements_same s d)) h

-- ---- the two agree
pub content_same : (s : List ℕ) (d : ℕ) → ContentSame s d
content_same s d = content-from s d (elements_same s d)

pub nodes-same : (s : List ℕ) (d p k a : ℕ) → Stands s p k a
    → Same s p (row_of s (outer_turn s (element_of d s)) p (fresh k a)) (nodes_c d (8192 - k) (8192 - a) (drop p s))
nodes-same s d = nodes-from s d (elements_same s d)
