-- Laws of the two passes over the rows. Assumes nothing.
--     place_element, place_other, wrote_text, wrote_other, node-within   a node's row, as the program reads it
--     ends-passes, decoded-part                             a part of the text without `&`
--     string_short, node-short, value-short                 what is written is no longer than what stands in the text
--     nodes-room, node-strings_room, nodes-after, nodes-ready, nodes-next, node-strings_next           the pass over nodes
--     value-long, attr-wrote, attrs-room, attr-strings_room, attrs-after, attrs-ready, attrs-next, attr-strings_next           the pass over
-- attributes
use Prim.Native.Nat.{ℕ, zero, suc, ◌+◌, ◌-◌, ◌*◌, ◌≤◌, ◌<◌}
use mathlib.Core.Path.{◌≡◌, refl, sym, ap, ◌∙◌}
use mathlib.Core.Bool.{Bool, true, false, cond}
use mathlib.Core.List.{List, [], ◌∷◌}
use native.Mathlib.Omega.{arith}
use lib.ListN.{length, get_or, take, drop, length-take, length-drop}
use lib.Seq.{sets, length-sets, length-take-le, get_or-take, get_or-drop}
use lib.Dec.{eqb}
use borrow.Author.Tests.{ne_eqb, eqb-false, not-true}
use mathlib.Core.Logic.{inr}
use native.Mathlib.Numerals.{add-one}
use Rattle.scan.specs.Bytes.{other}
use Rattle.scan.specs.Posts.{Appended, Ends, Passes}
use Rattle.scan.proofs.Runs.{run-all}
use Rattle.scan.proofs.Stores.{sets_other}
use Rattle.entities.specs.Decode.{decoded}
use Rattle.entities.proofs.Decoding.{decoded-short, decoded-plain}
use Rattle.scan.specs.Part.{part, string_at}
use Rattle.xml.specs.Steps.{node_place, node_bytes, nodes_read, node_strings_read, NodeReady, value_bytes, attrs_read, attr_written}
use Rattle.xml.specs.Steps.{attr_strings_read, AttrReady}

-- ---- a part without `&`
pub ends-passes : (t : ℕ → Bool) (s : List ℕ) (p r : ℕ) → Ends t s p r → Passes t s p r
ends-passes t s p r e k l h = run-all t s p k l (omega (arith, h, e.is))

-- what stands in it is as it is with its entities read
pub decoded-part : (s : List ℕ) (p q a z : ℕ) → Passes (other 38) s p q → p ≤ a → z ≤ q → z ≤ length s → decoded (part a z s) ≡ part a z s
decoded-part s p q a z w l m h = decoded-plain (part a z s) plain
  where
    plain : (k : ℕ) → k < length (part a z s) → get_or (part a z s) k 0 ≡ 38 → ⊥
    plain k g x =
        let n : length (part a z s) ≡ z - a = length-take-le (z - a) (drop a s) (simp length-drop (omega arith)) in
        let y : get_or s (a + k) 0 ≡ 38 = sym (get_or-take (z - a) (drop a s) k 0 (omega arith) ∙ get_or-drop a s k 0) ∙ x in
        eqb-false (get_or s (a + k) 0) 38 (not-true _ (w (a + k) (omega arith) (omega arith))) y

-- ---- one row
place_low : (t : List ℕ) (k : ℕ) → get_or t (k * 6 + 2) 0 ≤ node_place t k
unfolding node_place
place_low t k = by (eqb (get_or t (k * 6) 0) 2)
  where
    by : (b : Bool) → get_or t (k * 6 + 2) 0 ≤ cond b (get_or t (k * 6 + 2) 0 + 1) (get_or t (k * 6 + 2) 0)
    by true = omega arith
    by false = omega arith

pub node-within : (s t z : List ℕ) (k : ℕ) → NodeReady s t z k → get_or t (k * 6 + 2) 0 ≤ length s
node-within s t z k r = omega (arith, r.fits, place_low t k)

module _ (t : List ℕ) (k : ℕ) where
  pub place_element : (a r : ℕ) → get_or t (k * 6) 0 ≡ 2 → a ≡ get_or t (k * 6 + 2) 0 → r ≡ a + 1 → r ≡ node_place t k
  unfolding node_place
  place_element a r e w z = rw (z, w, e)

  pub place_other : (a r : ℕ) → (get_or t (k * 6) 0 ≡ 2 → ⊥) → a ≡ get_or t (k * 6 + 2) 0 → r ≡ a → r ≡ node_place t k
  unfolding node_place
  place_other a r e w z = rw (z, w, ne_eqb (get_or t (k * 6) 0) 2 e)

  module _ (s z z' : List ℕ) (p n q : ℕ) (at : p ≡ node_place t k) (long : n ≡ get_or t (k * 6 + 3) 0) where
    pub wrote_text : get_or t (k * 6) 0 ≡ 1 → Appended (decoded (take (p + n - p) (drop p s))) p z z' q
        → Appended (node_bytes s t k) (node_place t k) z z' q
    unfolding node_bytes string_at
    wrote_text e w = rw (e, ← at, ← long) w

    pub wrote_other : (get_or t (k * 6) 0 ≡ 1 → ⊥) → Appended (take (p + n - p) (drop p s)) p z z' q → Appended (node_bytes s t k) (node_place t k) z z' q
    unfolding node_bytes string_at
    wrote_other e w = rw (ne_eqb (get_or t (k * 6) 0) 1 e, ← at, ← long) w

-- a string is as long as it says, and no longer with its entities read
pub string_short : (s : List ℕ) (p n : ℕ) → length (string_at s p n) ≤ n
unfolding string_at
string_short s p n = simp length-take (omega arith)

pub node-short : (s t : List ℕ) (k : ℕ) → length (node_bytes s t k) ≤ get_or t (k * 6 + 3) 0
unfolding node_bytes
node-short s t k = by (eqb (get_or t (k * 6) 0) 1) refl
  where
    w : List ℕ
    w = string_at s (node_place t k) (get_or t (k * 6 + 3) 0)

    by : (b : Bool) → eqb (get_or t (k * 6) 0) 1 ≡ b → length (node_bytes s t k) ≤ get_or t (k * 6 + 3) 0
    by true e = rw e (omega (arith, decoded-short w, string_short s (node_place t k) (get_or t (k * 6 + 3) 0)))
    by false e = rw e (string_short s (node_place t k) (get_or t (k * 6 + 3) 0))

pub value-short : (s u : List ℕ) (k : ℕ) → length (value_bytes s u k) ≤ get_or u (k * 4 + 3) 0
unfolding value_bytes
value-short s u k =
    let w : List ℕ = string_at s (get_or u (k * 4 + 2) 0) (get_or u (k * 4 + 3) 0) in
    omega (arith, decoded-short w, string_short s (get_or u (k * 4 + 2) 0) (get_or u (k * 4 + 3) 0))

-- ---- the pass over nodes: after the first k of them
module _ (s t : List ℕ) where
  pub nodes-room : (k : ℕ) → length (nodes_read s t k) ≡ length t
  unfolding nodes_read
  nodes-room zero = refl
  nodes-room (suc k) = length-sets (nodes_read s t k) (k * 6 + 3) (length (node_bytes s t k) ∷ []) ∙ nodes-room k

  -- the later rows are as they were
  pub nodes-after : (k i : ℕ) → k * 6 ≤ i → get_or (nodes_read s t k) i 0 ≡ get_or t i 0
  unfolding nodes_read
  nodes-after zero i h = refl
  nodes-after (suc k) i h =
      sets_other (length (node_bytes s t k) ∷ []) (nodes_read s t k) (k * 6 + 3) i (inr (omega arith)) ∙ nodes-after k i (omega arith)

  node-place_after : (k : ℕ) → node_place (nodes_read s t k) k ≡ node_place t k
  unfolding node_place
  node-place_after k = rw (nodes-after k (k * 6) (omega arith), nodes-after k (k * 6 + 2) (omega arith))

  node-bytes_after : (k : ℕ) → node_bytes s (nodes_read s t k) k ≡ node_bytes s t k
  unfolding node_bytes
  node-bytes_after k = rw (node-place_after k, nodes-after k (k * 6) (omega arith), nodes-after k (k * 6 + 3) (omega arith))

  pub nodes-next : (k : ℕ) (t' t'' : List ℕ) → t' ≡ nodes_read s t k → t'' ≡ sets t' (k * 6 + 3) (length (node_bytes s t' k) ∷ []) → t''
      ≡ nodes_read s t (k + 1)
  unfolding nodes_read
  nodes-next k t' t'' e w = w ∙ rw (e, node-bytes_after k, add-one k)

  module _ (z : List ℕ) where
    pub node-strings_room : (k : ℕ) → length (node_strings_read s t z k) ≡ length z
    unfolding node_strings_read
    node-strings_room zero = refl
    node-strings_room (suc k) = length-sets (node_strings_read s t z k) (node_place t k) (node_bytes s t k) ∙ node-strings_room k

    pub nodes-ready : (k : ℕ) (t' z' : List ℕ) → t' ≡ nodes_read s t k → z' ≡ node_strings_read s t z k → NodeReady s t z k → NodeReady s t' z' k
    nodes-ready k t' z' e w r =
        record {
          short = r.short;
          room = rw (w, node-strings_room k) r.room;
          row = rw (e, nodes-room k) r.row;
          fits = rw (e, node-place_after k, nodes-after k (k * 6 + 3) (omega arith)) r.fits;
        }

    pub node-strings_next : (k : ℕ) (t' z' z'' : List ℕ) → t' ≡ nodes_read s t k → z' ≡ node_strings_read s t z k → z''
        ≡ sets z' (node_place t' k) (node_bytes s t' k)
        → z'' ≡ node_strings_read s t z (k + 1)
    unfolding node_strings_read
    node-strings_next k t' z' z'' e w x = x ∙ rw (e, w, node-place_after k, node-bytes_after k, add-one k)

-- ---- the pass over attributes
value-is : (s u : List ℕ) (k p n : ℕ) → p ≡ get_or u (k * 4 + 2) 0 → n ≡ get_or u (k * 4 + 3) 0 → decoded (take (p + n - p) (drop p s)) ≡ value_bytes s u k
unfolding value_bytes string_at
value-is s u k p n e w = rw (e, w)

pub value-long : (s u : List ℕ) (k p n q : ℕ) → p ≡ get_or u (k * 4 + 2) 0 → n ≡ get_or u (k * 4 + 3) 0 → q
    ≡ p + length (decoded (take (p + n - p) (drop p s)))
    → q - p ≡ length (value_bytes s u k)
value-long s u k p n q e w x =
    let y : length (decoded (take (p + n - p) (drop p s))) ≡ length (value_bytes s u k) = ap length (value-is s u k p n e w) in omega arith

pub attr-wrote : (s u z z' z'' : List ℕ) (k a n p m : ℕ) → a ≡ get_or u (k * 4) 0 → n ≡ get_or u (k * 4 + 1) 0 → p ≡ get_or u (k * 4 + 2) 0 → m
    ≡ get_or u (k * 4 + 3) 0
    → z' ≡ sets z a (take (a + n - a) (drop a s)) → z'' ≡ sets z' p (decoded (take (p + m - p) (drop p s))) → z'' ≡ attr_written s u z k
unfolding attr_written string_at
attr-wrote s u z z' z'' k a n p m ea en ep em w x = x ∙ rw (w, value-is s u k p m ep em, ← ea, ← en, ← ep)

module _ (s u : List ℕ) where
  pub attrs-room : (k : ℕ) → length (attrs_read s u k) ≡ length u
  unfolding attrs_read
  attrs-room zero = refl
  attrs-room (suc k) = length-sets (attrs_read s u k) (k * 4 + 3) (length (value_bytes s u k) ∷ []) ∙ attrs-room k

  pub attrs-after : (k i : ℕ) → k * 4 ≤ i → get_or (attrs_read s u k) i 0 ≡ get_or u i 0
  unfolding attrs_read
  attrs-after zero i h = refl
  attrs-after (suc k) i h =
      sets_other (length (value_bytes s u k) ∷ []) (attrs_read s u k) (k * 4 + 3) i (inr (omega arith)) ∙ attrs-after k i (omega arith)

  value-bytes_after : (k : ℕ) → value_bytes s (attrs_read s u k) k ≡ value_bytes s u k
  unfolding value_bytes
  value-bytes_after k = rw (attrs-after k (k * 4 + 2) (omega arith), attrs-after k (k * 4 + 3) (omega arith))

  pub attrs-next : (k : ℕ) (u' u'' : List ℕ) → u' ≡ attrs_read s u k → u'' ≡ sets u' (k * 4 + 3) (length (value_bytes s u' k) ∷ []) → u''
      ≡ attrs_read s u (k + 1)
  unfolding attrs_read
  attrs-next k u' u'' e w = w ∙ rw (e, value-bytes_after k, add-one k)

  module _ (z : List ℕ) where
    attr-written_room : (z' : List ℕ) (k : ℕ) → length (attr_written s u z' k) ≡ length z'
    unfolding attr_written
    attr-written_room z' k = simp length-sets

    pub attr-strings_room : (k : ℕ) → length (attr_strings_read s u z k) ≡ length z
    unfolding attr_strings_read
    attr-strings_room zero = refl
    attr-strings_room (suc k) = attr-written_room (attr_strings_read s u z k) k ∙ attr-strings_room k

    pub attrs-ready : (k : ℕ) (u' z' : List ℕ) → u' ≡ attrs_read s u k → z' ≡ attr_strings_read s u z k → AttrReady s u z k → AttrReady s u' z' k
    attrs-ready k u' z' e w r =
        record {
          short = r.short;
          room = rw (w, attr-strings_room k) r.room;
          row = rw (e, attrs-room k) r.row;
          name_fits = rw (e, attrs-after k (k * 4) (omega arith), attrs-after k (k * 4 + 1) (omega arith)) r.name_fits;
          value-fits = rw (e, attrs-after k (k * 4 + 2) (omega arith), attrs-after k (k * 4 + 3) (omega arith)) r.value-fits;
        }

    pub attr-strings_next : (k : ℕ) (u' z' z'' : List ℕ) → u' ≡ attrs_read s u k → z' ≡ attr_strings_read s u z k → z'' ≡ attr_written s u' z' k → z''
        ≡ attr_strings_read s u z (k + 1)
    unfolding attr_strings_read attr_written
    attr-strings_next k u' z' z'' e w x =
        x ∙ rw (
          e,
          w,
          value-bytes_after k,
          attrs-after k (k * 4) (omega arith),
          attrs-after k (k * 4 + 1) (omega arith),
          attrs-after k (k * 4 + 2) (omega arith),
          add-one k,
        )
