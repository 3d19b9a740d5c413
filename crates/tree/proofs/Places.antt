-- The strings of every tree that is read stand in the text one after the other. No code is involved. Assumes nothing.
--     in_lower, in_higher, in_append, in_whole     laws of `InOrder`
--     span-within, span-apart                      what a consumer reads off it
--     meaning-placed                               the theorem
use Prim.Native.Nat.{ℕ, zero, suc, ◌+◌, ◌-◌, ◌≤◌, ◌<◌}
use mathlib.Core.Path.{◌≡◌, refl, sym, subst⁻¹}
use mathlib.Core.Bool.{Bool, true, false, cond, true≢false}
use mathlib.Core.List.{List, [], ◌∷◌, ◌++◌, append_assoc, append-nil}
use native.Mathlib.Omega.{arith}
use lib.ListN.{length, get_or}
use lib.Dec.{eqb, ltb}
use borrow.Author.Tests.{ltb-true}
use Rattle.scan.specs.Loop.{Next, halt, more, go, loop}
use Rattle.scan.specs.Bytes.{blank, text_byte, name_byte, attr_name_byte, other, run_end_of}
use Rattle.scan.specs.Marks.{starts_at, seek, past}
use Rattle.utf8.specs.Utf8.{utf8_end}
use Rattle.tree.specs.Trees.{Attr, Forest, nil, text, section, elem, join, Span, attr_spans, spans, InOrder}
use Rattle.tree.specs.Read.{
  Out,
  got,
  nothing,
  bad,
  gt,
  equals,
  close_mark,
  comment_mark,
  comment_end,
  cdata_mark,
  cdata_end,
  pi_mark,
  pi_end,
  decl_mark,
  quote_byte,
  skip,
  AttrOut,
  attr,
  flaw,
  quoted,
  bare,
  value_at,
  attr_at,
  TagOut,
  opened,
  shut,
  torn,
  TagState,
  slash,
  attr_next,
  tag_turn,
  tag_from,
  start_at,
  Reader,
  comment_turn,
  past_comments,
  text_at,
  section_at,
  node_here,
  node_at_of,
  State,
  node_next,
  close_at,
  inner_turn,
  outer_turn,
  row_of,
  fresh,
  enclose,
  tagged,
  element_by,
  element_of,
  content_of,
  prolog_turn,
  prolog_end,
  meaning,
}
use Rattle.scan.proofs.Searches.{seek-ind}
use Rattle.scan.proofs.Runs.{run-low, run-high}
use Rattle.tree.proofs.Tags.{starts_some}

-- ---- strings in order
pub in_lower : (l : List Span) (lo m hi : ℕ) → lo ≤ m → InOrder m l hi → InOrder lo l hi
in_lower [] lo m hi h i = omega arith
in_lower (x ∷ l) lo m hi h i = (omega arith, i.1)

pub in_higher : (l : List Span) (lo m hi : ℕ) → m ≤ hi → InOrder lo l m → InOrder lo l hi
in_higher [] lo m hi h i = omega arith
in_higher (x ∷ l) lo m hi h i = (i.0, in_higher l (x.place + x.len) m hi h i.1)

pub in_append : (a b : List Span) (lo m hi : ℕ) → InOrder lo a m → InOrder m b hi → InOrder lo (a ++ b) hi
in_append [] b lo m hi i j = in_lower b lo m hi i j
in_append (x ∷ a) b lo m hi i j = (i.0, in_append a b (x.place + x.len) m hi i.1 j)

pub in_whole : (l : List Span) (lo hi : ℕ) → InOrder lo l hi → lo ≤ hi
in_whole [] lo hi i = i
in_whole (x ∷ l) lo hi i =
    let r : x.place + x.len ≤ hi = in_whole l (x.place + x.len) hi i.1 in
    omega (arith, i.0)

-- the two parts of a list
pub in_first : (a b : List Span) (lo hi : ℕ) → InOrder lo (a ++ b) hi → InOrder lo a hi
in_first [] b lo hi i = in_whole b lo hi i
in_first (x ∷ a) b lo hi i = (i.0, in_first a b (x.place + x.len) hi i.1)

pub in_rest : (a b : List Span) (lo hi : ℕ) → InOrder lo (a ++ b) hi → InOrder lo b hi
in_rest [] b lo hi i = i
in_rest (x ∷ a) b lo hi i = in_lower b lo (x.place + x.len) hi (omega (arith, i.0)) (in_rest a b (x.place + x.len) hi i.1)

-- every string lies within the bounds, and two of them lie apart
module _ (none : Span) where
  pub span-within : (l : List Span) (lo hi i : ℕ) → InOrder lo l hi → i < length l → (lo ≤ (get_or l i none).place) ×
      ((get_or l i none).place + (get_or l i none).len ≤ hi)
  span-within [] lo hi i o h = absurd (omega arith)
  span-within (x ∷ l) lo hi zero o h = (o.0, in_whole l (x.place + x.len) hi o.1)
  span-within (x ∷ l) lo hi (suc i) o h =
      let r = span-within l (x.place + x.len) hi i o.1 (omega arith) in
      (omega (arith, o.0, r.0), r.1)

  pub span-apart : (l : List Span) (lo hi i j : ℕ) → InOrder lo l hi → i < j → j < length l → (get_or l i none).place + (get_or l i none).len ≤ (get_or l j
      none).place
  span-apart [] lo hi i j o g h = absurd (omega arith)
  span-apart (x ∷ l) lo hi zero zero o g h = absurd (omega arith)
  span-apart (x ∷ l) lo hi zero (suc j) o g h = (span-within l (x.place + x.len) hi j o.1 (omega arith)).0
  span-apart (x ∷ l) lo hi (suc i) zero o g h = absurd (omega arith)
  span-apart (x ∷ l) lo hi (suc i) (suc j) o g h = span-apart l (x.place + x.len) hi i j o.1 (omega arith) (omega arith)

-- ---- tests and loops
by_cond : {A : Type 0} (P : A → Type 0) (b : Bool) (x y : A) → (b ≡ true → P x) → (b ≡ false → P y) → P (cond b x y)
by_cond P true x y h g = h refl
by_cond P false x y h g = g refl

module _ {S R : Type 0} (f : ℕ → S → Next S R) (e : ℕ → S → R) where
  go-halt : (n p : ℕ) (x : S) (r : R) → f p x ≡ halt r → go f e (suc n) 0 p x ≡ r
  unfolding go
  go-halt n p x r w = rw (w, go)

  go-more : (n p q : ℕ) (x y : S) → f p x ≡ more q y → go f e (suc n) 0 p x ≡ go f e n (q - (p + 1)) q y
  unfolding go
  go-more n p q x y w = rw (w, go)

-- a turn ends the loop with what Q holds of, or goes on with what Inv holds of
abbrev Turned : {S R : Type 0} → (ℕ → S → Type 0) → (R → Type 0) → Next S R → Type 0
Turned Inv Q (halt r) = Q r
Turned Inv Q (more q y) = Inv q y

-- what every turn keeps holds at the end, whether or not the turns go forward
module _ {S R : Type 0} (len : ℕ) (f : ℕ → S → Next S R) (e : ℕ → S → R) (Inv : ℕ → S → Type 0) (Q : R → Type 0)
    (turns : (p : ℕ) (x : S) → p < len → Inv p x → Turned Inv Q (f p x))
    (ends : (p : ℕ) (x : S) → Inv p x → Q (e p x))
  where
    turned : (n p : ℕ) (x : S) (w : Next S R) → f p x ≡ w → Turned Inv Q w → suc n ≤ len - p
        → ((q : ℕ) (y : S) → Inv q y → n ≤ len - q + (q - (p + 1)) → Q (go f e n (q - (p + 1)) q y)) → Q (go f e (suc n) 0 p x)
    turned n p x (halt r) w t h k = subst⁻¹ Q (go-halt f e n p x r w) t
    turned n p x (more q y) w t h k = subst⁻¹ Q (go-more f e n p q x y w) (k q y t (omega arith))

    bounded : (n k p : ℕ) (x : S) → n ≤ len - p + k → Inv p x → Q (go f e n k p x)
    unfolding go
    bounded zero k p x h i = ends p x i
    bounded (suc n) (suc k) p x h i = bounded n k p x (omega arith) i
    bounded (suc n) zero p x h i = turned n p x (f p x) refl (turns p x (omega arith) i) (omega arith) (λ q y j l. bounded n (q - (p + 1)) q y l j)

    loop-keep : (p : ℕ) (x : S) → Inv p x → Q (loop len f e p x)
    unfolding loop
    loop-keep p x i = bounded (len - p) 0 p x (omega arith) i

-- ---- marks
starts_whole : (s : List ℕ) (p : ℕ) (m : List ℕ) → p ≤ length s → starts_at s p m ≡ true → p + length m ≤ length s
unfolding starts_at
starts_whole s p [] h e = omega arith
starts_whole s p (b ∷ m) h e = at (λ g f. starts_whole s (p + 1) m g f) (ltb p (length s)) (eqb (get_or s p 0) b) refl refl
  where
    at : (p + 1 ≤ length s → starts_at s (p + 1) m ≡ true → p + 1 + length m ≤ length s) → (x y : Bool) → ltb p (length s) ≡ x → eqb (get_or s p 0) b
        ≡ y → p + suc (length m) ≤ length s
    at k true true v w = let r : p + 1 + length m ≤ length s = k (omega (arith, ltb-true p (length s) v)) (rw (v, w) at e) in omega arith
    at k true false v w = absurd (true≢false (sym (rw (v, w) at e)))
    at k false y v w = absurd (true≢false (sym (rw v at e)))

-- the first place of a mark: from p on, within the text, and the mark is whole
abbrev Sought : List ℕ → List ℕ → ℕ → ℕ → Type 0
Sought m s p r = (p ≤ r) × (r ≤ length s) × (r < length s → r + length m ≤ length s)

seek-in : (m s : List ℕ) (p : ℕ) → p ≤ length s → Sought m s p (seek m s p)
seek-in m s p h =
    seek-ind m s (λ i. (p ≤ i) × (i ≤ length s)) (Sought m s p) (λ i l e j. (omega arith, omega arith))
    (λ i l e j. (j.0, j.1, λ g. starts_whole s i m j.1 e))
    (λ i l j. (j.0, j.1, λ g. absurd (omega arith))) p (omega arith, h)

past-in : (m s : List ℕ) (p : ℕ) → p ≤ length s → (seek m s p ≤ past m s p) × (past m s p ≤ length s)
unfolding past
past-in m s p h =
    let k : Sought m s p (seek m s p) = seek-in m s p h in
    by_cond (λ r. (seek m s p ≤ r) × (r ≤ length s)) (ltb (seek m s p) (length s)) _ _
    (λ w. (omega arith, k.2 (ltb-true (seek m s p) (length s) w))) (λ w. (k.1, omega arith))

-- ---- an attribute
unfoldable AttrIn : ℕ → List ℕ → AttrOut → Type 0
AttrIn lo s (attr y q) = (q ≤ length s) × InOrder lo (attr_spans (y ∷ [])) q
AttrIn lo s (flaw n q) = Unit {0}

attr-leaf : (s : List ℕ) (p e v m r : ℕ) → p ≤ e → e ≤ v → v + m ≤ r → r ≤ length s → AttrIn p s
    (attr (record { name = p; name_len = e - p; value = v; value_len = m }) r)
unfolding AttrIn attr_spans
attr-leaf s p e v m r a b c d = (d, (omega arith, (omega arith, c)))

flaw-leaf : (s : List ℕ) (p n q : ℕ) → AttrIn p s (flaw n q)
unfolding AttrIn
flaw-leaf s p n q = tt

module _ (s : List ℕ) (p e : ℕ) (h : p ≤ e) where
  quoted-in : (c v : ℕ) → e ≤ v → v < length s → AttrIn p s (quoted s p e c v)
  unfolding quoted
  quoted-in c v g l =
      let z : ℕ = run_end_of (other c) s (v + 1) in
      let a : v + 1 ≤ z = run-low (other c) s (v + 1) in
      let b : z ≤ length s = run-high (other c) s (v + 1) (omega arith) in
      let r : ℕ = cond (ltb z (length s)) (skip s (z + 1)) z in
      let d : (z ≤ r) × (r ≤ length s) = by_cond (λ k. (z ≤ k) × (k ≤ length s)) (ltb z (length s)) _ _
      (λ w. (omega (arith, run-low blank s (z + 1)), run-high blank s (z + 1) (omega (arith, ltb-true z (length s) w)))) (λ w. (omega arith, b)) in
      attr-leaf s p e (v + 1) (z - (v + 1)) r h (omega arith) (omega arith) d.1

  bare-in : (v : ℕ) → e ≤ v → v < length s → AttrIn p s (bare s p e v)
  unfolding bare
  bare-in v g l =
      let z : ℕ = run_end_of name_byte s v in
      let a : v ≤ z = run-low name_byte s v in
      let b : z ≤ length s = run-high name_byte s v (omega arith) in
      attr-leaf s p e v (z - v) (skip s z) h g (omega (arith, run-low blank s z)) (run-high blank s z b)

  value_in : (q : ℕ) → e ≤ q → q < length s → AttrIn p s (value_at s p e q)
  unfolding value_at
  value_in q g l =
      let v : ℕ = skip s (q + 1) in
      let a : q + 1 ≤ v = run-low blank s (q + 1) in
      by_cond (AttrIn p s) (ltb v (length s)) _ _
      (λ w. by_cond (AttrIn p s) (quote_byte (get_or s v 0)) _ _ (λ x. quoted-in (get_or s v 0) v (omega arith) (ltb-true v (length s) w))
      (λ x. bare-in v (omega arith) (ltb-true v (length s) w)))
      (λ w. flaw-leaf s p 9 q)

attr-in : (s : List ℕ) (p : ℕ) → p ≤ length s → AttrIn p s (attr_at s p)
unfolding attr_at
attr-in s p h =
    let e : ℕ = run_end_of attr_name_byte s p in
    let a : p ≤ e = run-low attr_name_byte s p in
    let b : e ≤ length s = run-high attr_name_byte s p h in
    let q : ℕ = skip s e in
    let d : e ≤ q = run-low blank s e in
    by_cond (AttrIn p s) (starts_at s q equals) _ _ (λ w. value_in s p e a q d (starts_some s q 61 [] w))
    (λ w. attr-leaf s p e e 0 q a (omega arith) (omega arith) (run-high blank s e b))

-- ---- a start tag
spans-attrs : (a b : List Attr) → attr_spans (a ++ b) ≡ attr_spans a ++ attr_spans b
unfolding attr_spans
spans-attrs [] b = refl
spans-attrs (x ∷ a) b = rw (spans-attrs a b)

unfoldable TagIn : ℕ → List ℕ → TagOut → Type 0
TagIn lo s (opened l q a) = (q ≤ length s) × InOrder lo (attr_spans l) q
TagIn lo s (shut l q a) = (q ≤ length s) × InOrder lo (attr_spans l) q
TagIn lo s (torn n q) = Unit {0}

abbrev TagInv : ℕ → List ℕ → ℕ → TagState → Type 0
TagInv lo s p x = (p ≤ length s) × InOrder lo (attr_spans x.list) p

slash-in : (lo : ℕ) (s : List ℕ) (p : ℕ) (x : TagState) → p < length s → TagInv lo s p x → TagIn lo s (slash s p x)
unfolding slash TagIn
slash-in lo s p x h i =
    by_cond (TagIn lo s) (starts_at s (skip s (p + 1)) gt) _ _
    (λ w. (
      omega (arith, starts_some s (skip s (p + 1)) 62 [] w),
      in_higher (attr_spans x.list) lo p (skip s (p + 1) + 1)
          (omega (arith, run-low blank s (p + 1))) i.1,
    )) (λ w. tt)

next-in : (lo : ℕ) (s : List ℕ) (p : ℕ) (x : TagState) (o : AttrOut) → AttrIn p s o → TagInv lo s p x → Turned (TagInv lo s) (TagIn lo s)
    (attr_next x o)
unfolding attr_next AttrIn TagIn
next-in lo s p x (attr y q) d i = (
  d.0,
  rw (spans-attrs x.list (y ∷ []))
      (in_append (attr_spans x.list) (attr_spans (y ∷ [])) lo p q i.1 d.1),
)
next-in lo s p x (flaw n q) d i = tt

opened_in : (lo : ℕ) (s : List ℕ) (p : ℕ) (x : TagState) → p < length s → TagInv lo s p x → TagIn lo s (opened x.list (p + 1) x.count)
unfolding TagIn
opened_in lo s p x h i = (omega arith, in_higher (attr_spans x.list) lo p (p + 1) (omega arith) i.1)

torn-in : (lo : ℕ) (s : List ℕ) (n q : ℕ) → TagIn lo s (torn n q)
unfolding TagIn
torn-in lo s n q = tt

tag-turn_in : (lo : ℕ) (s : List ℕ) (p : ℕ) (x : TagState) → p < length s → TagInv lo s p x → Turned (TagInv lo s) (TagIn lo s) (tag_turn s p x)
unfolding tag_turn
tag-turn_in lo s p x h i =
    by_cond (Turned (TagInv lo s) (TagIn lo s)) (eqb (get_or s p 0) 62) _ _ (λ e. opened_in lo s p x h i)
    (λ e. by_cond (Turned (TagInv lo s) (TagIn lo s)) (eqb (get_or s p 0) 47) _ _ (λ f. slash-in lo s p x h i)
    (λ f. by_cond (Turned (TagInv lo s) (TagIn lo s)) (ltb x.count 8192) _ _ (λ g. next-in lo s p x (attr_at s p) (attr-in s p (omega arith)) i)
    (λ g. torn-in lo s 7 p)))

tag_in : (s : List ℕ) (p a : ℕ) → p ≤ length s → TagIn p s (tag_from s p (record { list = []; count = a }))
unfolding tag_from attr_spans
tag_in s p a h = loop-keep (length s) (tag_turn s) _ (TagInv p s) (TagIn p s) (tag-turn_in p s) (λ q y i. torn-in p s 10 q) p
    (record { list = []; count = a }) (h, omega arith)

tag-lower : (lo m : ℕ) (s : List ℕ) (o : TagOut) → lo ≤ m → TagIn m s o → TagIn lo s o
unfolding TagIn
tag-lower lo m s (opened l q a) h i = (i.0, in_lower (attr_spans l) lo m q h i.1)
tag-lower lo m s (shut l q a) h i = (i.0, in_lower (attr_spans l) lo m q h i.1)
tag-lower lo m s (torn n q) h i = tt

start-in : (s : List ℕ) (p e a : ℕ) → e ≤ length s → TagIn e s (start_at s p e a)
unfolding start_at
start-in s p e a h =
    by_cond (TagIn e s) (eqb e (p + 1)) _ _ (λ w. torn-in e s 6 p)
    (λ w. tag-lower e (skip s e) s (tag_from s (skip s e) (record { list = []; count = a })) (run-low blank s e)
    (tag_in s (skip s e) a (run-high blank s e h)))

-- ---- a node
unfoldable OutIn : ℕ → List ℕ → Out → Type 0
OutIn lo s (got f q k a) = (q ≤ length s) × InOrder lo (spans f) q
OutIn lo s (nothing q) = (lo ≤ q) × (q ≤ length s)
OutIn lo s (bad n q) = Unit {0}

out_lower : (lo m : ℕ) (s : List ℕ) (o : Out) → lo ≤ m → OutIn m s o → OutIn lo s o
unfolding OutIn
out_lower lo m s (got f q k a) h i = (i.0, in_lower (spans f) lo m q h i.1)
out_lower lo m s (nothing q) h i = (omega (arith, i.0), i.1)
out_lower lo m s (bad n q) h i = tt

got-end : (lo : ℕ) (s : List ℕ) (f : Forest) (q k a : ℕ) → OutIn lo s (got f q k a) → q ≤ length s
unfolding OutIn
got-end lo s f q k a i = i.0

got-order : (lo : ℕ) (s : List ℕ) (f : Forest) (q k a : ℕ) → OutIn lo s (got f q k a) → InOrder lo (spans f) q
unfolding OutIn
got-order lo s f q k a i = i.1

bad-in : (lo : ℕ) (s : List ℕ) (n q : ℕ) → OutIn lo s (bad n q)
unfolding OutIn
bad-in lo s n q = tt

nothing-in : (lo : ℕ) (s : List ℕ) (q : ℕ) → lo ≤ q → q ≤ length s → OutIn lo s (nothing q)
unfolding OutIn
nothing-in lo s q h g = (h, g)

-- a text or a section of n bytes at v
leaf_in : (lo : ℕ) (s : List ℕ) (v n q k a : ℕ) → lo ≤ v → v + n ≤ q → q ≤ length s → (OutIn lo s (got (text v n nil) q k a)) ×
    (OutIn lo s (got (section v n nil) q k a))
unfolding OutIn spans
leaf_in lo s v n q k a h g l = ((l, (h, g)), (l, (h, g)))

text_in : (s : List ℕ) (p k a : ℕ) → p ≤ length s → OutIn p s (text_at s p k a)
unfolding text_at
text_in s p k a h =
    let e : ℕ = run_end_of text_byte s p in
    let b : p ≤ e = run-low text_byte s p in
    by_cond (OutIn p s) (ltb k 8192) _ _ (λ w. (leaf_in p s p (e - p) e (k + 1) a (omega arith) (omega arith) (run-high text_byte s p h)).0)
    (λ w. bad-in p s 5 p)

section-in : (s : List ℕ) (p k a : ℕ) → p + 9 ≤ length s → OutIn p s (section_at s p k a)
unfolding section_at
section-in s p k a h =
    let e : ℕ = seek cdata_end s (p + 9) in
    let b : Sought cdata_end s (p + 9) e = seek-in cdata_end s (p + 9) h in
    let d : (e ≤ past cdata_end s (p + 9)) × (past cdata_end s (p + 9) ≤ length s) = past-in cdata_end s (p + 9) h in
    by_cond (OutIn p s) (ltb k 8192) _ _ (λ w. (leaf_in p s (p + 9) (e - (p + 9)) (past cdata_end s (p + 9)) (k + 1) a (omega arith) (omega arith)
    d.1).1) (λ w. bad-in p s 5 p)

comments_in : (s : List ℕ) (p : ℕ) → p ≤ length s → (p ≤ past_comments s p) × (past_comments s p ≤ length s)
unfolding past_comments
comments_in s p h =
    loop-keep (length s) (comment_turn s) _ (λ i x. (p ≤ i) × (i ≤ length s)) (λ r. (p ≤ r) × (r ≤ length s))
    (λ i x l j. by_cond (Turned {S = Unit {0}} (λ k y. (p ≤ k) × (k ≤ length s)) (λ r. (p ≤ r) × (r ≤ length s))) (starts_at s i comment_mark) _ _
    (λ e. beyond i l j) (λ e. j))
    (λ i x j. j) p tt (omega arith, h)
  where
    beyond : (i : ℕ) → i < length s → (p ≤ i) × (i ≤ length s) → (p ≤ past comment_end s i) × (past comment_end s i ≤ length s)
    beyond i l j =
        let b : Sought comment_end s i (seek comment_end s i) = seek-in comment_end s i j.1 in
        let d : (seek comment_end s i ≤ past comment_end s i) × (past comment_end s i ≤ length s) = past-in comment_end s i j.1 in
        (omega (arith, b.0, d.0, j.0), d.1)

-- what a reader of elements has to keep
abbrev Keeps : List ℕ → Reader → Type 0
Keeps s el = (p k a : ℕ) → p < length s → OutIn p s (el p k a)

here_in : (s : List ℕ) (el : Reader) (p k a : ℕ) → Keeps s el → p ≤ length s → OutIn p s (node_here s el p k a)
unfolding node_here
here_in s el p k a i h =
    by_cond (OutIn p s) (ltb p (length s)) _ _
    (λ w. by_cond (OutIn p s) (eqb (get_or s p 0) 60) _ _
    (λ x. by_cond (OutIn p s) (starts_at s p cdata_mark) _ _ (λ y. section-in s p k a (starts_whole s p cdata_mark h y))
    (λ y. by_cond (OutIn p s) (starts_at s p close_mark) _ _ (λ z. nothing-in p s p (omega arith) h) (λ z. i p k a (ltb-true p (length s) w))))
    (λ x. text_in s p k a h))
    (λ w. nothing-in p s p (omega arith) h)

node_in : (s : List ℕ) (el : Reader) (p k a : ℕ) → Keeps s el → p ≤ length s → OutIn p s (node_at_of s el p k a)
unfolding node_at_of
node_in s el p k a i h =
    let c : (p ≤ past_comments s p) × (past_comments s p ≤ length s) = comments_in s p h in
    out_lower p (past_comments s p) s (node_here s el (past_comments s p) k a) c.0 (here_in s el (past_comments s p) k a i c.1)

-- ---- nodes in a row
spans-join : (f g : Forest) → spans (join f g) ≡ spans f ++ spans g
unfolding join spans
spans-join nil g = refl
spans-join (text p n f) g = rw (spans-join f g)
spans-join (section p n f) g = rw (spans-join f g)
spans-join (elem p n l c f) g = rw (spans-join f g) (simp append_assoc)

abbrev RowInv : ℕ → List ℕ → ℕ → State → Type 0
RowInv lo s p x = (p ≤ length s) × InOrder lo (spans x.forest) p

got_in : (lo : ℕ) (s : List ℕ) (p q : ℕ) (x : State) → p ≤ q → q ≤ length s → RowInv lo s p x → OutIn lo s (got x.forest q x.nodes x.attrs)
unfolding OutIn
got_in lo s p q x h g i = (g, in_higher (spans x.forest) lo p q h i.1)

node-next_in : (lo : ℕ) (s : List ℕ) (p : ℕ) (x : State) (o : Out) → OutIn p s o → RowInv lo s p x → Turned (RowInv lo s) (OutIn lo s) (node_next x o)
unfolding node_next OutIn
node-next_in lo s p x (got f q k a) d i = (d.0, rw (spans-join x.forest f) (in_append (spans x.forest) (spans f) lo p q i.1 d.1))
node-next_in lo s p x (nothing q) d i = (d.1, in_higher (spans x.forest) lo p q d.0 i.1)
node-next_in lo s p x (bad n q) d i = tt

close_in : (lo : ℕ) (s : List ℕ) (p : ℕ) (x : State) → p < length s → RowInv lo s p x → OutIn lo s (close_at s p x)
unfolding close_at
close_in lo s p x h i =
    let g : ℕ = run_end_of (other 62) s p in
    let b : p ≤ g = run-low (other 62) s p in
    by_cond (OutIn lo s) (ltb g (length s)) _ _ (λ w. got_in lo s p (g + 1) x (omega arith) (omega (arith, ltb-true g (length s) w)) i)
    (λ w. bad-in lo s 11 p)

module _ (s : List ℕ) (el : Reader) (keeps : Keeps s el) (lo : ℕ) where
  outer_in : (p : ℕ) (x : State) → p < length s → RowInv lo s p x → Turned (RowInv lo s) (OutIn lo s) (outer_turn s el p x)
  unfolding outer_turn
  outer_in p x h i = node-next_in lo s p x (node_at_of s el p x.nodes x.attrs) (node_in s el p x.nodes x.attrs keeps (omega arith)) i

  inner_in : (p : ℕ) (x : State) → p < length s → RowInv lo s p x → Turned (RowInv lo s) (OutIn lo s) (inner_turn s el p x)
  unfolding inner_turn
  inner_in p x h i =
      by_cond (Turned (RowInv lo s) (OutIn lo s)) (starts_at s p close_mark) _ _ (λ w. close_in lo s p x h i)
      (λ w. node-next_in lo s p x (node_at_of s el p x.nodes x.attrs) (node_in s el p x.nodes x.attrs keeps (omega arith)) i)

row_in : (s : List ℕ) (turn : ℕ → State → Next State Out) (p k a : ℕ) →
    ((q : ℕ) (x : State) → q < length s → RowInv p s q x → Turned (RowInv p s) (OutIn p s) (turn q x))
    → p ≤ length s → OutIn p s (row_of s turn p (fresh k a))
unfolding row_of spans
row_in s turn p k a t h = loop-keep (length s) turn _ (RowInv p s) (OutIn p s) t (λ q y i. got_in p s q q y (omega arith) i.0 i) p (fresh k a)
    (h, omega arith)

-- ---- elements
elem_in : (s : List ℕ) (p n m q k a : ℕ) (l : List Attr) (f : Forest) → m ≤ length s → q ≤ length s → InOrder (p + 1 + n) (attr_spans l) m → InOrder
    m (spans f) q
    → OutIn p s (got (elem p n l f nil) q k a)
unfolding OutIn spans
elem_in s p n m q k a l f h g i j = (g, (omega arith, rw append-nil (in_append (attr_spans l) (spans f) (p + 1 + n) m q i j)))

none_in : (q : ℕ) → InOrder q (spans nil) q
unfolding spans
none_in q = omega arith

enclose-in : (s : List ℕ) (p n m : ℕ) (l : List Attr) (o : Out) → m ≤ length s → p ≤ m → InOrder (p + 1 + n) (attr_spans l) m → OutIn m s o → OutIn
    p s (enclose p n l o)
unfolding enclose
enclose-in s p n m l (got f q k a) h g i d = elem_in s p n m q k a l f h (got-end m s f q k a d) i (got-order m s f q k a d)
enclose-in s p n m l (nothing q) h g i d = out_lower p m s (nothing q) g d
enclose-in s p n m l (bad x q) h g i d = bad-in p s x q

tagged_in : (s : List ℕ) (inner : Reader) (p n k e : ℕ) (o : TagOut) → p + 1 + n ≤ e → ((q j b : ℕ) → q ≤ length s → OutIn q s (inner q j b)) →
    TagIn e s o → OutIn p s (tagged inner p n k o)
unfolding tagged TagIn
tagged_in s inner p n k e (opened l q a) h t i =
    let w : e ≤ q = in_whole (attr_spans l) e q i.1 in
    enclose-in s p n q l (inner q (k + 1) a) i.0 (omega arith) (in_lower (attr_spans l) (p + 1 + n) e q h i.1) (t q (k + 1) a i.0)
tagged_in s inner p n k e (shut l q a) h t i = elem_in s p n q q (k + 1) a l nil i.0 i.0 (in_lower (attr_spans l) (p + 1 + n) e q h i.1)
    (none_in q)
tagged_in s inner p n k e (torn m q) h t i = bad-in p s m q

by_in : (s : List ℕ) (inner : Reader) (p k a : ℕ) → p < length s → ((q j b : ℕ) → q ≤ length s → OutIn q s (inner q j b)) → OutIn p s
    (element_by s inner p k a)
unfolding element_by
by_in s inner p k a h t =
    let e : ℕ = run_end_of name_byte s (p + 1) in
    let b : p + 1 ≤ e = run-low name_byte s (p + 1) in
    by_cond (OutIn p s) (ltb k 8192) _ _ (λ w. tagged_in s inner p (e - (p + 1)) k e (start_at s p e a) (omega arith) t
    (start-in s p e a (run-high name_byte s (p + 1) (omega arith)))) (λ w. bad-in p s 5 p)

element-in : (d : ℕ) (s : List ℕ) → Keeps s (element_of d s)
unfolding element_of
element-in zero s p k a h = bad-in p s 4 p
element-in (suc d) s p k a h = by_in s (content_of d s) p k a h (λ q j b g. row_in s (inner_turn s (element_of d s)) q j b
    (inner_in s (element_of d s) (element-in d s) q) g)

-- ---- the whole text
prolog-in : (s : List ℕ) → prolog_end s ≤ length s
unfolding prolog_end prolog_turn
prolog-in s = loop-keep (length s) (prolog_turn s) _ (λ i x. i ≤ length s) (λ r. r ≤ length s) turns (λ i x j. j) (skip s 0) tt
    (run-high blank s 0 (omega arith))
  where
    on : (m : List ℕ) (i : ℕ) → i ≤ length s → skip s (past m s i) ≤ length s
    on m i j = run-high blank s (past m s i) (past-in m s i j).1

    turns : (i : ℕ) (x : Unit {0}) → i < length s → i ≤ length s → Turned {S = Unit {0}} (λ k y. k ≤ length s) (λ r. r ≤ length s) (prolog_turn s i x)
    turns i x l j =
        by_cond (Turned {S = Unit {0}} (λ k y. k ≤ length s) (λ r. r ≤ length s)) (starts_at s i pi_mark) _ _ (λ e. on pi_end i j)
        (λ e. by_cond (Turned {S = Unit {0}} (λ k y. k ≤ length s) (λ r. r ≤ length s)) (starts_at s i comment_mark) _ _ (λ f. on comment_end i j)
        (λ f. by_cond (Turned {S = Unit {0}} (λ k y. k ≤ length s) (λ r. r ≤ length s)) (starts_at s i decl_mark) _ _ (λ g. on gt i j) (λ g. j)))

meaning-in : (s : List ℕ) (n m : ℕ) → OutIn 0 s (meaning s n m)
unfolding meaning
meaning-in s n m =
    by_cond (OutIn 0 s) (ltb n 49152) _ _ (λ a. bad-in 0 s 1 0)
    (λ a. by_cond (OutIn 0 s) (ltb m 32768) _ _ (λ b. bad-in 0 s 1 0)
    (λ b. by_cond (OutIn 0 s) (ltb 65536 (length s)) _ _ (λ c. bad-in 0 s 2 0)
    (λ c. by_cond (OutIn 0 s) (ltb (utf8_end s) (length s)) _ _ (λ d. bad-in 0 s 3 (utf8_end s))
    (λ d. out_lower 0 (prolog_end s) s (row_of s (outer_turn s (element_of 64 s)) (prolog_end s) (fresh 0 0)) (omega arith)
    (row_in s (outer_turn s (element_of 64 s)) (prolog_end s) 0 0 (outer_in s (element_of 64 s) (element-in 64 s) (prolog_end s)) (prolog-in s))))))

pub meaning-placed : (s : List ℕ) (n m : ℕ) (f : Forest) (q k a : ℕ) → meaning s n m ≡ got f q k a → InOrder 0 (spans f) (length s)
meaning-placed s n m f q k a e =
    let i : OutIn 0 s (got f q k a) = rw e at (meaning-in s n m) in
    in_higher (spans f) 0 q (length s) (got-end 0 s f q k a i) (got-order 0 s f q k a i)
