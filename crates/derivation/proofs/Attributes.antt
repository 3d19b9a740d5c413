-- One attribute, read by places and on lists; and the attributes of a start tag on lists, a law for each way. Assumes nothing.
--     skipped, AttrAgrees          by places the blanks after an attribute belong to it; what an answer by places says of one on lists
--     attribute-agrees             the two readers agree on the attribute at a place
--     attribute-on                 it is not empty, and no blank stands after it
--     attributes-none, attributes-end, attributes-full, attributes-more   the list reader of attributes
use mathlib.Core.Path.{◌≡◌, refl, subst, ◌∙◌}
use Prim.Native.Nat.{ℕ, suc, ◌+◌, ◌-◌, ◌≤◌, ◌<◌}
use native.Mathlib.Omega.{arith}
use mathlib.Core.Bool.{true, false, cond}
use mathlib.Core.List.{List, [], ◌∷◌}
use lib.ListN.{length, drop, get_or, length-drop, drop_of_length-le}
use lib.Seq.{drop-drop}
use lib.Dec.{ltb, eqb}
use borrow.Author.Tests.{ltb-true, ltb-false}
use Rattle.scan.specs.Bytes.{blank, name_byte, attr_name_byte, other, run_end_of}
use Rattle.scan.specs.Marks.{starts_at}
use Rattle.scan.proofs.Runs.{run-low, run-high}
use Rattle.tree.specs.Read as places
use Rattle.tree.specs.Read.{AttrOut, flaw, equals, skip, quote_byte, quoted, bare, value_at, attr_at}
use Rattle.grammar.specs.Words.{Bytes, Stops}
use Rattle.grammar.specs.Tree.{Attr, attr, quote}
use Rattle.grammar.specs.Scan.{run, past}
use Rattle.grammar.proofs.Reader.{Res, ok, bad, map_res, value_as, read_value, after_name_as, after_name, read_attribute, tag_end}
use Rattle.grammar.proofs.Counted.{LRes, lok, lbad, lift, lmap, attributes_step_l, attributes_as_l}
use Rattle.scan.proofs.Every.{by-test}
use Rattle.grammar.proofs.Scans.{past_is, past-stops}
use Rattle.grammar.proofs.Ends.{Ends, past-length, attribute-ends}
use Rattle.grammar.proofs.CountedRounds.{attributes_c, attributes_c_is}
use Rattle.scan.specs.Part.{string_at}
use Rattle.derivation.specs.Strings.{attr_in}
use Rattle.derivation.proofs.RunLaws.{string_is, byte_at, left_at, past-drop, run-string, run-stops_at}

-- ---- one attribute
-- the blanks after it skipped
unfoldable pub skipped : Res Attr → Res Attr
skipped (ok a r) = ok a (past blank r)
skipped (bad n l) = bad n l

abbrev pub AttrAgrees : List ℕ → Res Attr → AttrOut → Type 0
AttrAgrees s x (places.attr y q) = (skipped x ≡ ok (attr_in s y) (drop q s)) × (q ≤ length s)
AttrAgrees s x (flaw n q) = (skipped x ≡ bad n (length s - q)) × (q ≤ length s)

-- the reader's ways on lists
module _ (k q : ℕ) (z : Bytes) where
  value-in_quotes : quote q ≡ true → read_value k (q ∷ z) ≡ ok (run (other q) z) (drop 1 (past (other q) z))
  unfolding read_value value_as
  value-in_quotes e = rw e

  value-without : quote q ≡ false → read_value k (q ∷ z) ≡ ok (run name_byte (q ∷ z)) (past name_byte (q ∷ z))
  unfolding read_value value_as
  value-without e = rw e

value-missing : (k : ℕ) → read_value k [] ≡ bad 9 k
unfolding read_value
value-missing k = refl

module _ (n : Bytes) (a : ℕ) (z : Bytes) where
  name_then_value : eqb a 61 ≡ true → after_name n (a ∷ z) ≡ map_res (attr n) (read_value (suc (length z)) (past blank z))
  unfolding after_name after_name_as
  name_then_value e = rw e

  name_alone : eqb a 61 ≡ false → after_name n (a ∷ z) ≡ ok (attr n []) (a ∷ z)
  unfolding after_name after_name_as
  name_alone e = rw e

name_last : (n z : Bytes) → z ≡ [] → after_name n z ≡ ok (attr n []) z
unfolding after_name
name_last n z e = rw e

attribute-is : (z : Bytes) → read_attribute z ≡ after_name (run attr_name_byte z) (past blank (past attr_name_byte z))
unfolding read_attribute
attribute-is z = refl

module _ (s : List ℕ) (p e : ℕ) where
  quoted-agrees : (c v : ℕ) → v < length s
      → AttrAgrees s (ok (attr (string_at s p (e - p)) (run (other c) (drop (v + 1) s))) (drop 1 (past (other c) (drop (v + 1) s)))) (quoted s p e c v)
  unfolding quoted skipped attr_in
  quoted-agrees c v h =
      let z : ℕ = run_end_of (other c) s (v + 1) in
      let l : z ≤ length s = run-high (other c) s (v + 1) (omega arith) in
      rw (run-string (other c) s (v + 1), past-drop (other c) s (v + 1), drop-drop 1 z s, past-drop blank s (z + 1))
      (by-test (ltb z (length s)) (λ e. rw e (refl, run-high blank s (z + 1) (omega (arith, ltb-true z (length s) e))))
      (λ e. let g : length s ≤ z = ltb-false z (length s) e in
      let k : length s ≤ skip s (z + 1) = omega (arith, run-low blank s (z + 1)) in
      rw (e, drop_of_length-le s g, drop_of_length-le s k) (refl, l)))

  bare-agrees : (v : ℕ) → v < length s → AttrAgrees s (ok (attr (string_at s p (e - p)) (run name_byte (drop v s))) (past name_byte (drop v s)))
      (bare s p e v)
  unfolding bare skipped attr_in
  bare-agrees v h =
      let z : ℕ = run_end_of name_byte s v in
      rw (run-string name_byte s v, past-drop name_byte s v, past-drop blank s z) (refl, run-high blank s z (run-high name_byte s v (omega arith)))

  value-agrees : (q : ℕ) → q < length s
      → AttrAgrees s (map_res (attr (string_at s p (e - p))) (read_value (length s - q) (drop (skip s (q + 1)) s))) (value_at s p e q)
  unfolding value_at skipped quote_byte quote
  value-agrees q h =
      let v : ℕ = skip s (q + 1) in
      by-test (ltb v (length s))
      (λ b. let l : v < length s = ltb-true v (length s) b in
      by-test (quote_byte (get_or s v 0))
      (λ c. rw (b, c, byte_at s v l, value-in_quotes (length s - q) (get_or s v 0) (drop (v + 1) s) c) (quoted-agrees (get_or s v 0) v l))
      (λ c. rw (b, c, byte_at s v l, value-without (length s - q) (get_or s v 0) (drop (v + 1) s) c, ← (byte_at s v l)) (bare-agrees v l)))
      (λ b. rw (b, drop_of_length-le s (ltb-false v (length s) b), value-missing (length s - q)) (refl, omega arith))

  -- without a value
  alone-agrees : (q : ℕ) → q ≤ length s → Stops blank (drop q s)
      → AttrAgrees s (ok (attr (string_at s p (e - p)) []) (drop q s)) (places.attr (record { name = p; name_len = e - p; value = e; value_len = 0 }) q)
  unfolding skipped attr_in
  alone-agrees q h g = rw (past_is blank [] (drop q s) tt g, string_is s e 0) (refl, h)

  name_agrees : (q : ℕ) → q ≤ length s → Stops blank (drop q s)
      → AttrAgrees s (after_name (string_at s p (e - p)) (drop q s))
      (cond (starts_at s q equals) (value_at s p e q) (places.attr (record { name = p; name_len = e - p; value = e; value_len = 0 }) q))
  unfolding starts_at
  name_agrees q h g =
      let n : Bytes = string_at s p (e - p) in
      by-test (ltb q (length s))
      (λ b. let l : q < length s = ltb-true q (length s) b in
      by-test (eqb (get_or s q 0) 61)
      (λ c. rw (b, c, byte_at s q l, name_then_value n (get_or s q 0) (drop (q + 1) s) c, left_at s q l, past-drop blank s (q + 1)) (value-agrees q l))
      (λ c. rw (b, c, byte_at s q l, name_alone n (get_or s q 0) (drop (q + 1) s) c, ← (byte_at s q l)) (alone-agrees q h g)))
      (λ b. rw (b, name_last n (drop q s) (drop_of_length-le s (ltb-false q (length s) b))) (alone-agrees q h g))

pub attribute-agrees : (s : List ℕ) (p : ℕ) → p ≤ length s → AttrAgrees s (read_attribute (drop p s)) (attr_at s p)
unfolding attr_at
attribute-agrees s p h =
    let e : ℕ = run_end_of attr_name_byte s p in
    rw (attribute-is (drop p s), run-string attr_name_byte s p, past-drop attr_name_byte s p, past-drop blank s e)
    (name_agrees s p e (skip s e) (run-high blank s e (run-high attr_name_byte s p h)) (run-stops_at blank s e))

-- what an attribute leaves: it begins with no blank, and is no longer than N
abbrev Leaves : ℕ → Res Attr → Type 0
Leaves N (ok a r) = Stops blank r × (length r ≤ N)
Leaves N (bad n l) = Unit {0}

skipped_leaves : (N : ℕ) (x : Res Attr) → Ends N x → Leaves N (skipped x)
unfolding skipped
skipped_leaves N (ok a r) h = (past-stops blank r, omega (arith, past-length blank r))
skipped_leaves N (bad n l) h = tt

-- an attribute is not empty, and no blank stands after it
module _ (s : List ℕ) (p : ℕ) (h : p < length s) (u : blank (get_or s p 0) ≡ false) (e : tag_end (get_or s p 0) ≡ false) where
  pub attribute-on : (a : Attr) (q : ℕ) → skipped (read_attribute (drop p s)) ≡ ok a (drop q s) → q ≤ length s → Stops blank (drop q s) × (p < q)
  attribute-on a q w l =
      let N : ℕ = length (drop (p + 1) s) in
      let n : Ends N (read_attribute (drop p s)) = rw (byte_at s p h) (attribute-ends (get_or s p 0) (drop (p + 1) s) u e) in
      let k : Leaves N (ok a (drop q s)) = subst (Leaves N) w (skipped_leaves N (read_attribute (drop p s)) n) in
      (k.0, omega (arith, simp length-drop at k.1))

-- ---- attributes in a row, on lists: a law for each way
pub attributes-none : (k j : ℕ) → attributes_c k j [] ≡ lbad 10 0
unfolding attributes_step_l
attributes-none k j = attributes_c_is k j [] tt

lift_skipped : {B : Type 0} (x : Res Attr) (f : Attr → Bytes → LRes B) → lift x (λ a r. f a (past blank r)) ≡ lift (skipped x) f
unfolding skipped
lift_skipped (ok a r) f = refl
lift_skipped (bad n l) f = refl

module _ (k j a : ℕ) (z : Bytes) (u : blank a ≡ false) where
  pub attributes-end : tag_end a ≡ true → attributes_c k j (a ∷ z) ≡ lok [] k j (a ∷ z)
  unfolding attributes_step_l attributes_as_l
  attributes-end e = attributes_c_is k j (a ∷ z) u ∙ rw e

  pub attributes-full : tag_end a ≡ false → attributes_c k 0 (a ∷ z) ≡ lbad 7 (suc (length z))
  unfolding attributes_step_l attributes_as_l
  attributes-full e = attributes_c_is k 0 (a ∷ z) u ∙ rw e

  pub attributes-more : tag_end a ≡ false
      → attributes_c k (suc j) (a ∷ z) ≡ lift (skipped (read_attribute (a ∷ z))) (λ b r. lmap (b ∷◌) (attributes_c k j r))
  unfolding attributes_step_l attributes_as_l
  attributes-more e = attributes_c_is k (suc j) (a ∷ z) u ∙ rw e (lift_skipped (read_attribute (a ∷ z)) (λ b r. lmap (b ∷◌) (attributes_c k j r)))
