-- Start tags, read by places and on lists. Assumes nothing.
--     TagEnds, tag-ends     where a start tag ends, and how many attributes were read then
--     tag-agrees            the two readers agree on start tags
use mathlib.Core.Path.{◌≡◌, refl, sym, ap, subst, ◌∙◌}
use Prim.Native.Nat.{ℕ, zero, suc, ◌+◌, ◌-◌, ◌≤◌, ◌<◌}
use native.Mathlib.Omega.{arith}
use mathlib.Core.Bool.{true, false}
use mathlib.Core.List.{List, [], ◌∷◌, ◌++◌, append-nil}
use lib.ListN.{length, drop, get_or, length-drop, length-append, drop_of_length-le}
use lib.Seq.{length-take-le}
use lib.Dec.{ltb, eqb}
use borrow.Author.Tests.{ltb-true, ltb-false, eqb-true, eqb-false}
use Rattle.scan.specs.Bytes.{blank, name_byte, run_end_of}
use Rattle.scan.specs.Marks.{starts_at}
use Rattle.scan.proofs.Loop.{loop-halt}
use Rattle.scan.proofs.Runs.{run-low, run-high}
use Rattle.tree.specs.Trees as placed
use Rattle.tree.specs.Read as places
use Rattle.tree.specs.Read.{AttrOut, flaw, TagState, TagOut, opened, shut, torn, gt, skip, slash, attr_at, tag_turn, tag_from, start_at}
use Rattle.tree.proofs.Tags.{starts_some, tag-out, tag_open, tag-full, tag-flaw, tag-attr}
use Rattle.grammar.specs.Words.{Bytes, Stops}
use Rattle.grammar.specs.Tree.{Attr, Tree, element, Forest, none}
use Rattle.grammar.specs.Scan.{run, past}
use Rattle.grammar.proofs.Reader.{ok, bad, read_attribute, tag_end, after_slash, slash_as}
use Rattle.grammar.proofs.Counted.{LRes, lok, lbad, lnext, lmap, lift, Counted, opened_as_l, after_opening_l, after_tag_name_l, element_l}
use Rattle.scan.proofs.Every.{by-test}
use Rattle.grammar.proofs.CountedRounds.{attributes_c}
use Rattle.scan.specs.Part.{string_at}
use Rattle.derivation.specs.Strings.{attr_in, attrs_in}
use Rattle.derivation.proofs.Cases.{tag_case, TagAgrees}
use Rattle.derivation.proofs.RunLaws.{string_is, byte_at, left_at, past-drop, run-string, run-stops_at}
use Rattle.derivation.proofs.Attributes.{skipped, AttrAgrees, attribute-agrees, attribute-on, attributes-none, attributes-end}
use Rattle.derivation.proofs.Attributes.{attributes-full, attributes-more}

-- the tag whose `<` stands at p ends at a later place q of the text, b attributes being read by then; a refusal's place lies in the text
abbrev pub TagEnds : List ℕ → ℕ → ℕ → TagOut → Type 0
TagEnds s p a (opened l q b) = (p + 1 ≤ q) × (q ≤ length s) × (b ≤ 8192) × (b ≡ a + length l)
TagEnds s p a (shut l q b) = (p + 1 ≤ q) × (q ≤ length s) × (b ≤ 8192) × (b ≡ a + length l)
TagEnds s p a (torn n q) = q ≤ length s

-- ---- the reader's ways on lists
module _ (rec : Counted Forest) (n : Bytes) (l : List Attr) (k j a : ℕ) (z : Bytes) where
  opening-gt : eqb a 62 ≡ true → after_opening_l rec n l k j (a ∷ z) ≡ lmap (element n l) (rec k j z)
  unfolding after_opening_l opened_as_l
  opening-gt e = rw e

  opening-slash : eqb a 62 ≡ false
      → after_opening_l rec n l k j (a ∷ z) ≡ lift (after_slash (suc (length z)) (element n l none) (past blank z)) (λ t r. lok t k j r)
  unfolding after_opening_l opened_as_l
  opening-slash e = rw e

module _ (i : ℕ) (t : Tree) (a : ℕ) (z : Bytes) where
  slash-gt : eqb a 62 ≡ true → after_slash i t (a ∷ z) ≡ ok t z
  unfolding after_slash slash_as
  slash-gt e = rw e

  slash-other : eqb a 62 ≡ false → after_slash i t (a ∷ z) ≡ bad 8 i
  unfolding after_slash slash_as
  slash-other e = rw e

slash-last : (i : ℕ) (t : Tree) → after_slash i t [] ≡ bad 8 i
unfolding after_slash
slash-last i t = refl

-- ---- the rest of a tag: from p on, where no blank stands, where the attributes and the count of x were read before
-- the answer of the reader on lists
unfoldable listed : Counted Forest → Bytes → ℕ → List ℕ → ℕ → TagState → LRes Tree
listed rec n k s p x = lnext (attributes_c k (8192 - x.count) (drop p s)) (λ l k j r. after_opening_l rec n (attrs_in s x.list ++ l) k j r)

-- where it ends
abbrev RestEnds : List ℕ → ℕ → TagState → TagOut → Type 0
RestEnds s p x (opened l q b) = (p + 1 ≤ q) × (q ≤ length s) × (b ≤ 8192) × (b + length x.list ≡ x.count + length l)
RestEnds s p x (shut l q b) = (p + 1 ≤ q) × (q ≤ length s) × (b ≤ 8192) × (b + length x.list ≡ x.count + length l)
RestEnds s p x (torn n q) = q ≤ length s

record Rest (s : List ℕ) (p : ℕ) (x : TagState) (o : TagOut) : Type 0 where
  pub agrees : (rec : Counted Forest) (n : Bytes) (k : ℕ) → listed rec n k s p x ≡ tag_case rec s n k o
  pub ends : RestEnds s p x o

slash-agrees : (s : List ℕ) (p : ℕ) (x : TagState) → p < length s → (rec : Counted Forest) (n : Bytes) (k : ℕ)
    → lift (after_slash (suc (length (drop (p + 1) s))) (element n (attrs_in s x.list) none) (past blank (drop (p + 1) s)))
    (λ t r. lok t k (8192 - x.count) r)
    ≡ tag_case rec s n k (slash s p x)
unfolding slash starts_at tag_case
slash-agrees s p x h rec n k =
    let v : ℕ = skip s (p + 1) in
    let t : Tree = element n (attrs_in s x.list) none in
    rw (left_at s p h, past-drop blank s (p + 1))
    (by-test (ltb v (length s))
    (λ b. by-test (eqb (get_or s v 0) 62)
    (λ c. rw (b, c, byte_at s v (ltb-true v (length s) b), slash-gt (length s - p) t (get_or s v 0) (drop (v + 1) s) c))
    (λ c. rw (b, c, byte_at s v (ltb-true v (length s) b), slash-other (length s - p) t (get_or s v 0) (drop (v + 1) s) c)))
    (λ b. rw (b, drop_of_length-le s (ltb-false v (length s) b), slash-last (length s - p) t)))

slash-ends : (s : List ℕ) (p : ℕ) (x : TagState) → p < length s → x.count ≤ 8192 → RestEnds s p x (slash s p x)
unfolding slash
slash-ends s p x h g =
    let v : ℕ = skip s (p + 1) in
    by-test (starts_at s v gt)
    (λ e. rw e (omega (arith, run-low blank s (p + 1)), omega (arith, starts_some s v 62 [] e), g, refl))
    (λ e. rw e (omega arith))

-- where it ends, read on after one attribute
ends_on : (s : List ℕ) (p q : ℕ) (x : TagState) (y : placed.Attr) (o : TagOut) → p < q
    → RestEnds s q (record { list = x.list ++ (y ∷ []); count = x.count + 1 }) o → RestEnds s p x o
ends_on s p q x y (opened l r b) h e = (omega arith, e.1, e.2, omega (arith, simp length-append at e.3))
ends_on s p q x y (shut l r b) h e = (omega arith, e.1, e.2, omega (arith, simp length-append at e.3))
ends_on s p q x y (torn n r) h e = e

-- one attribute more is read first, or was read before
attrs-on : (s : List ℕ) (a : List placed.Attr) (y : placed.Attr) (l : List Attr) → attrs_in s (a ++ (y ∷ [])) ++ l ≡ attrs_in s a ++ (attr_in s y ∷ l)
unfolding attrs_in
attrs-on s [] y l = refl
attrs-on s (b ∷ a) y l = ap (attr_in s b ∷◌) (attrs-on s a y l)

gathered : (s : List ℕ) (a : List placed.Attr) (y : placed.Attr) (rec : Counted Forest) (n : Bytes) (x : LRes (List Attr))
    → lnext (lmap (attr_in s y ∷◌) x) (λ l k j r. after_opening_l rec n (attrs_in s a ++ l) k j r)
    ≡ lnext x (λ l k j r. after_opening_l rec n (attrs_in s (a ++ (y ∷ [])) ++ l) k j r)
gathered s a y rec n (lok l k j r) = ap (λ m. after_opening_l rec n m k j r) (sym (attrs-on s a y l))
gathered s a y rec n (lbad m l) = refl

-- a law for each way
module _ (s : List ℕ) (p : ℕ) (x : TagState) where
  rest_out : length s ≤ p → p ≤ length s → Rest s p x (torn 10 p)
  unfolding listed tag_case
  rest_out h g = record {
    agrees = λ rec n k. let m : length s - p ≡ 0 = omega arith in rw (drop_of_length-le s h, attributes-none k (8192 - x.count), m);
    ends = g;
  }

  module _ (h : p < length s) (u : blank (get_or s p 0) ≡ false) where
    -- at the byte that ends the attributes
    listed-end : tag_end (get_or s p 0) ≡ true → (rec : Counted Forest) (n : Bytes) (k : ℕ)
        → listed rec n k s p x ≡ after_opening_l rec n (attrs_in s x.list) k (8192 - x.count) (get_or s p 0 ∷ drop (p + 1) s)
    unfolding listed
    listed-end e rec n k = rw (byte_at s p h, attributes-end k (8192 - x.count) (get_or s p 0) (drop (p + 1) s) u e, append-nil (attrs_in s x.list))

    rest-open : eqb (get_or s p 0) 62 ≡ true → x.count ≤ 8192 → Rest s p x (opened x.list (p + 1) x.count)
    unfolding tag_case
    rest-open e g = record {
      agrees = λ rec n k. listed-end (rw e) rec n k ∙ opening-gt rec n (attrs_in s x.list) k (8192 - x.count) (get_or s p 0) (drop (p + 1) s) e;
      ends = (omega arith, omega arith, g, refl);
    }

    rest-slash : eqb (get_or s p 0) 62 ≡ false → eqb (get_or s p 0) 47 ≡ true → x.count ≤ 8192 → Rest s p x (slash s p x)
    rest-slash d e g = record {
      agrees = λ rec n k. listed-end (rw (d, e)) rec n k
          ∙ (opening-slash rec n (attrs_in s x.list) k (8192 - x.count) (get_or s p 0) (drop (p + 1) s) d ∙ slash-agrees s p x h rec n k);
      ends = slash-ends s p x h g;
    }

    rest-full : tag_end (get_or s p 0) ≡ false → 8192 ≤ x.count → Rest s p x (torn 7 p)
    unfolding listed tag_case
    rest-full e g = record {
      agrees = λ rec n k.
          let z : 8192 - x.count ≡ 0 = omega arith in
          rw (z, byte_at s p h, attributes-full k 0 (get_or s p 0) (drop (p + 1) s) u e, left_at s p h);
      ends = omega arith;
    }

    module _ (e : tag_end (get_or s p 0) ≡ false) (g : x.count < 8192) where
      listed-attr : (rec : Counted Forest) (n : Bytes) (k : ℕ)
          → listed rec n k s p x
          ≡ lnext (lift (skipped (read_attribute (drop p s))) (λ b r. lmap (b ∷◌) (attributes_c k (8192 - (x.count + 1)) r)))
          (λ l k j r. after_opening_l rec n (attrs_in s x.list ++ l) k j r)
      unfolding listed
      listed-attr rec n k =
          let m : 8192 - x.count ≡ suc (8192 - (x.count + 1)) = omega arith in
          rw (m, byte_at s p h, attributes-more k (8192 - (x.count + 1)) (get_or s p 0) (drop (p + 1) s) u e)

      rest-flaw : (m q : ℕ) → skipped (read_attribute (drop p s)) ≡ bad m (length s - q) → q ≤ length s → Rest s p x (torn m q)
      unfolding tag_case
      rest-flaw m q w l = record { agrees = λ rec n k. listed-attr rec n k ∙ rw w; ends = l }

      rest-attr : (y : placed.Attr) (q : ℕ) (o : TagOut) → skipped (read_attribute (drop p s)) ≡ ok (attr_in s y) (drop q s) → p < q
          → Rest s q (record { list = x.list ++ (y ∷ []); count = x.count + 1 }) o → Rest s p x o
      unfolding listed
      rest-attr y q o w l r = record {
        agrees =
            λ rec n k. listed-attr rec n k ∙ (rw w (gathered s x.list y rec n (attributes_c k (8192 - (x.count + 1)) (drop q s)))
            ∙ r.agrees rec n k);
        ends = ends_on s p q x y o l r.ends;
      }

tag-slash : (s : List ℕ) (p : ℕ) (x : TagState) → p < length s → get_or s p 0 ≡ 47 → tag_from s p x ≡ slash s p x
unfolding tag_from tag_turn
tag-slash s p x h e = loop-halt (length s) (tag_turn s) _ p x _ h (rw e)

-- ---- the loop: what holds at its head, a turn, and all of them
record Head (s : List ℕ) (p : ℕ) (x : TagState) : Type 0 where
  pub within : p ≤ length s
  pub solid : Stops blank (drop p s)
  pub most : x.count ≤ 8192

module _ (s : List ℕ) (p : ℕ) (x : TagState) (i : Head s p x) (later : (q : ℕ) (y : TagState) → p < q → Head s q y → Rest s q y (tag_from s q y)) where
  module _ (h : p < length s) where
    u : blank (get_or s p 0) ≡ false
    u = subst (Stops blank) (byte_at s p h) i.solid

    module _ (v : eqb (get_or s p 0) 62 ≡ false) (w : eqb (get_or s p 0) 47 ≡ false) where
      at_attribute : x.count < 8192 → (o : AttrOut) → attr_at s p ≡ o → AttrAgrees s (read_attribute (drop p s)) o → Rest s p x (tag_from s p x)
      at_attribute g (places.attr y q) e a =
          let k = attribute-on s p h u (rw (v, w)) (attr_in s y) q a.0 a.1 in
          rw (tag-attr s p x h (eqb-false (get_or s p 0) 62 v) (eqb-false (get_or s p 0) 47 w) y q g e k.1)
          (rest-attr s p x h u (rw (v, w)) g y q _ a.0 k.1 (later q _ k.1 (record { within = a.1; solid = k.0; most = omega arith })))
      at_attribute g (flaw n q) e a =
          rw (tag-flaw s p x h (eqb-false (get_or s p 0) 62 v) (eqb-false (get_or s p 0) 47 w) n q g e)
          (rest-flaw s p x h u (rw (v, w)) g n q a.0 a.1)

      at_other : Rest s p x (tag_from s p x)
      at_other = by-test (ltb x.count 8192)
          (λ g. at_attribute (ltb-true x.count 8192 g) (attr_at s p) refl (attribute-agrees s p i.within))
          (λ g. let l : 8192 ≤ x.count = ltb-false x.count 8192 g in
          rw (tag-full s p x h (eqb-false (get_or s p 0) 62 v) (eqb-false (get_or s p 0) 47 w) l) (rest-full s p x h u (rw (v, w)) l))

    at_byte : Rest s p x (tag_from s p x)
    at_byte = by-test (eqb (get_or s p 0) 62)
        (λ v. rw (tag_open s p x h (eqb-true (get_or s p 0) 62 v)) (rest-open s p x h u v i.most))
        (λ v. by-test (eqb (get_or s p 0) 47) (λ w. rw (tag-slash s p x h (eqb-true (get_or s p 0) 47 w)) (rest-slash s p x h u v w i.most))
        (λ w. at_other v w))

  turn : Rest s p x (tag_from s p x)
  turn = by-test (ltb p (length s)) (λ b. at_byte (ltb-true p (length s) b))
      (λ b. let h : length s ≤ p = ltb-false p (length s) b in rw (tag-out s p x h) (rest_out s p x h i.within))

rest : (s : List ℕ) (m p : ℕ) (x : TagState) → length s < p + m → Head s p x → Rest s p x (tag_from s p x)
rest s zero p x h i = absurd (omega (arith, i.within))
rest s (suc m) p x h i = turn s p x i (λ q y l j. rest s m q y (omega arith) j)

-- ---- the whole start tag
nameless : (rec : Counted Forest) (i k j : ℕ) (n r : Bytes) → n ≡ [] → after_tag_name_l rec i n k j r ≡ lbad 6 i
unfolding after_tag_name_l
nameless rec i k j n r e = rw e

named : (rec : Counted Forest) (i k j : ℕ) (n r : Bytes) → 0 < length n → after_tag_name_l rec i n k j r
    ≡ lnext (attributes_c k j r) (λ l k j r. after_opening_l rec n l k j r)
unfolding after_tag_name_l attributes_c
named rec i k j [] r h = absurd (omega (arith, h))
named rec i k j (a ∷ n) r h = refl

element-is : (rec : Counted Forest) (k j : ℕ) (z : Bytes) → element_l rec k j z
    ≡ after_tag_name_l rec (suc (length z)) (run name_byte z) k j (past blank (past name_byte z))
unfolding element_l
element-is rec k j z = refl

-- after a name that ends at e
module _ (s : List ℕ) (p e a : ℕ) (l : p < e) (h : e ≤ length s) (g : a ≤ 8192) where
  rest-start : Rest s (skip s e) (record { list = []; count = a }) (tag_from s (skip s e) (record { list = []; count = a }))
  rest-start =
      rest s (suc (length s)) (skip s e) (record { list = []; count = a }) (omega arith)
      (record { within = run-high blank s e h; solid = run-stops_at blank s e; most = g })

  start-ends : (o : TagOut) → start_at s p e a ≡ o → TagEnds s p a o
  unfolding start_at
  start-ends o w = by-test (eqb e (p + 1)) (λ b. subst (TagEnds s p a) (rw b at w) (omega arith))
      (λ b. subst (TagEnds s p a) (rw b at w) (lower (tag_from s (skip s e) (record { list = []; count = a })) rest-start.ends))
    where
      lower : (o : TagOut) → RestEnds s (skip s e) (record { list = []; count = a }) o → TagEnds s p a o
      lower (opened m q b) i = (omega (arith, run-low blank s e), i.1, i.2, omega (arith, i.3))
      lower (shut m q b) i = (omega (arith, run-low blank s e), i.1, i.2, omega (arith, i.3))
      lower (torn n q) i = i

pub tag-ends : (s : List ℕ) (p a : ℕ) → p < length s → a ≤ 8192 → (o : TagOut) → start_at s p (run_end_of name_byte s (p + 1)) a ≡ o → TagEnds s p a o
tag-ends s p a h g =
    start-ends s p (run_end_of name_byte s (p + 1)) a (omega (arith, run-low name_byte s (p + 1))) (run-high name_byte s (p + 1) (omega arith)) g

pub tag-agrees : (s : List ℕ) → TagAgrees s
unfolding start_at tag_case listed attrs_in
tag-agrees s rec p k a h g =
    let e : ℕ = run_end_of name_byte s (p + 1) in
    let n : Bytes = string_at s (p + 1) (e - (p + 1)) in
    let low : p + 1 ≤ e = run-low name_byte s (p + 1) in
    let high : e ≤ length s = run-high name_byte s (p + 1) (omega arith) in
    rw (element-is rec k (8192 - a) (drop (p + 1) s), left_at s p h, run-string name_byte s (p + 1), past-drop name_byte s (p + 1), past-drop blank s e)
    (by-test (eqb e (p + 1))
    (λ b. let z : e - (p + 1) ≡ 0 = omega (arith, eqb-true e (p + 1) b) in
    rw b (nameless rec (length s - p) k (8192 - a) n (drop (skip s e) s) (rw z (string_is s (p + 1) 0))))
    (λ b. let z : e ≡ p + 1 → ⊥ = eqb-false e (p + 1) b in
    let c : length n ≡ e - (p + 1) = ap length (string_is s (p + 1) (e - (p + 1)))
    ∙ length-take-le (e - (p + 1)) (drop (p + 1) s) (simp length-drop (omega arith)) in
    rw b (named rec (length s - p) k (8192 - a) n (drop (skip s e) s) (omega arith) ∙ (rest-start s p e a (omega arith) high g).agrees rec n k)))
