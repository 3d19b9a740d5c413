-- The bound on the reader's rounds does not matter where it is large enough, so the reader of content has the equation of a recursion without
-- one. Assumes nothing.
--     rounds                 any bound that is large enough gives the same
--     content, content_is    the reader of content, and its equation
use mathlib.Core.Path.{◌≡◌, refl, ap, ◌∙◌}
use Prim.Native.Nat.{ℕ, zero, suc, ◌≤◌, ◌<◌}
use native.Mathlib.Omega.{arith}
use mathlib.Core.Bool.{Bool, true, false}
use mathlib.Core.List.{List, [], ◌∷◌}
use lib.ListN.{length}
use lib.Dec.{eqb}
use Rattle.scan.specs.Bytes.{blank, name_byte}
use Rattle.grammar.specs.Words.{Bytes}
use Rattle.grammar.specs.Tree.{Attr, Tree, element, Forest, more}
use Rattle.grammar.specs.Tree.{`-->`}
use Rattle.grammar.specs.Grammar.{Before, a_comment, no_comment}
use Rattle.grammar.specs.Scan.{run, past, beyond}
use Rattle.grammar.proofs.Reader.{Res, next, map_res, read_attributes, opened_as, after_opening, after_tag_name, read_element, NodeKind, Kind}
use Rattle.grammar.proofs.Reader.{kind, node_as, content_as_lem, content_step_lem, read_content, ok, bad, as_text, as_section, as_element, as_close}
use Rattle.grammar.proofs.Reader.{as_comment, as_node}
use Rattle.grammar.proofs.Scans.{past-stops}
use Rattle.grammar.proofs.Sound.{View, view, comments}
use Rattle.grammar.proofs.Ends.{Ends, past-length, attributes-ends, comment-ends, content_ends, node-ends}

-- two readers of content that agree on what is shorter than N
module _ (N : ℕ) (f g : Bytes → Res Forest) (same : (r : Bytes) → length r < N → f r ≡ g r) where
  opened-same : (n : Bytes) (l : List Attr) (b : Bool) (s : Bytes) → length s < N → opened_as f b n l s ≡ opened_as g b n l s
  unfolding opened_as
  opened-same n l true s h = ap (map_res (element n l)) (same s h)
  opened-same n l false s h = refl

  opening-same : (n : Bytes) (l : List Attr) (s : Bytes) → length s ≤ N → after_opening f n l s ≡ after_opening g n l s
  unfolding after_opening
  opening-same n l [] h = refl
  opening-same n l (a ∷ s) h = opened-same n l (eqb a 62) s (omega arith)

  next-same : (n : Bytes) (M : ℕ) (x : Res (List Attr)) → Ends M x → M ≤ N → next x (after_opening f n) ≡ next x (after_opening g n)
  next-same n M (ok l r) e h = opening-same n l r (omega arith)
  next-same n M (bad x y) e h = refl

  tag_same : (k : ℕ) (n m : Bytes) → length m ≤ N → after_tag_name f k n (past blank m) ≡ after_tag_name g k n (past blank m)
  unfolding after_tag_name
  tag_same k [] m h = refl
  tag_same k (a ∷ n) m h =
      let r : Bytes = past blank m in
      next-same (a ∷ n) (length r) (read_attributes (suc (length r)) r) (attributes-ends (suc (length r)) r (past-stops blank m) (omega arith))
      (omega (arith, past-length blank m))

  element-same : (s : Bytes) → length s ≤ N → read_element f s ≡ read_element g s
  unfolding read_element
  element-same s h = tag_same (suc (length s)) (run name_byte s) (past name_byte s) (omega (arith, past-length name_byte s))

  node-same : (i : NodeKind) (a : ℕ) (s : Bytes) → length s ≤ N → node_as f i (a ∷ s) ≡ node_as g i (a ∷ s)
  unfolding node_as
  node-same as_text a s h = refl
  node-same as_section a s h = refl
  node-same as_element a s h = element-same s h

  more_same : (M : ℕ) (x : Res Tree) → Ends M x → M < N → next x (λ t r. map_res (more t) (f r)) ≡ next x (λ t r. map_res (more t) (g r))
  more_same M (ok t r) e h = ap (map_res (more t)) (same r (omega arith))
  more_same M (bad x y) e h = refl

abbrev pub Agree : ℕ → (Before → Bytes → Res Forest) → (Before → Bytes → Res Forest) → Type 0
Agree N f g = (p : Before) (r : Bytes) → length r < N → f p r ≡ g p r

abbrev pub AllEnd : ℕ → (Before → Bytes → Res Forest) → Type 0
AllEnd N f = (p : Before) (r : Bytes) → length r < N → Ends (length r) (f p r)

content_as_same : (N : ℕ) (f g : Before → Bytes → Res Forest) → Agree N f g → AllEnd N f → (p : Before) (a : ℕ) (s : Bytes) (k : Kind)
    → View (a ∷ s) k
    → length s < N → content_as_lem f p k (a ∷ s) ≡ content_as_lem g p k (a ∷ s)
unfolding content_as_lem
content_as_same N f g q e no_comment a s as_close v h = refl
content_as_same N f g q e a_comment a s as_close v h = refl
content_as_same N f g q e p a s as_comment (comments b) h = q a_comment (beyond `-->` (a ∷ s)) (omega (arith, comment-ends a s b))
content_as_same N f g q e p a s (as_node i) v h =
    more_same N (f no_comment) (g no_comment) (q no_comment) (length s) (node_as (f no_comment) i (a ∷ s))
    (node-ends (f no_comment) N (e no_comment) a s i v (omega arith)) h
    ∙ ap (λ x. next x (λ t r. map_res (more t) (g no_comment r))) (node-same N (f no_comment) (g no_comment) (q no_comment) i a s (omega arith))

content_step_same : (N : ℕ) (f g : Before → Bytes → Res Forest) → Agree N f g → AllEnd N f → (p : Before) (s : Bytes) → length s ≤ N
    → content_step_lem f p s ≡ content_step_lem g p s
unfolding content_step_lem
content_step_same N f g q e p [] h = refl
content_step_same N f g q e p (a ∷ s) h = content_as_same N f g q e p a s (kind (a ∷ s)) (view (a ∷ s)) (omega arith)

-- any bound that is large enough gives the same, a number and its place too
pub rounds : (n m : ℕ) → (p : Before) (s : Bytes) → length s < n → length s < m → read_content n p s ≡ read_content m p s
unfolding read_content
rounds zero m p s h k = absurd (omega (arith, h))
rounds (suc n) zero p s h k = absurd (omega (arith, k))
rounds (suc n) (suc m) p s h k =
    content_step_same (length s) (λ q r. read_content n q r) (λ q r. read_content m q r)
    (λ q r l. rounds n m q r (omega arith) (omega arith)) (λ q r l. content_ends n q r (omega arith)) p s (omega arith)

-- the reader of content, with no bound to be seen
unfoldable pub content : Before → Bytes → Res Forest
content p s = read_content (suc (length s)) p s

pub content_is : (p : Before) (s : Bytes) → content p s ≡ content_step_lem content p s
unfolding content read_content
content_is p s =
    content_step_same (length s) (λ q r. read_content (length s) q r) content
    (λ q r l. rounds (length s) (suc (length r)) q r l (omega arith)) (λ q r l. content_ends (length s) q r l) p s (omega arith)
