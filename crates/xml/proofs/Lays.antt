-- Strings laid at their places: those that lie apart are laid in any order. Assumes nothing.
--     Split, in_split                             strings in order, as two lists
--     Ordered, ordered_whole, strings-ordered     the same of placed strings, with entities read: none is longer than it was
--     lay-length, lay-append, lay-swap            one list after the other, and before it
--     node_strings, gathered                       all nodes' strings and then all attributes', or in document order: the same table
use Prim.Native.Nat.{ℕ, suc, ◌+◌, ◌≤◌}
use mathlib.Core.Path.{◌≡◌, refl, sym, ap, ◌∙◌}
use mathlib.Core.List.{List, [], ◌∷◌, ◌++◌}
use native.Mathlib.Omega.{arith}
use lib.ListN.{length, set}
use lib.Seq.{sets, length-sets}
use Rattle.scan.proofs.Stores.{set_sets}
use Rattle.entities.specs.Decode.{decoded}
use Rattle.entities.proofs.Decoding.{decoded-short}
use Rattle.tree.specs.Trees.{Attr, Forest, nil, text, section, elem, attrs_of, Span, attr_spans, spans, InOrder}
use Rattle.tree.proofs.Places.{in_whole}
use Rattle.scan.specs.Part.{string_at}
use Rattle.xml.specs.Reading.{Placed, lay}
use Rattle.xml.specs.Steps.{attr_strings, strings}
use Rattle.xml.proofs.PassLaws.{string_short}

-- ---- strings in order
-- strings in order, as two lists and the place between them
pub record Split (lo : ℕ) (a b : List Span) (hi : ℕ) : Type 0 where
  pub mid : ℕ
  pub first : InOrder lo a mid
  pub rest : InOrder mid b hi

pub in_split : (a b : List Span) (lo hi : ℕ) → InOrder lo (a ++ b) hi → Split lo a b hi
in_split [] b lo hi i = record { mid = lo; first = omega arith; rest = i }
in_split (x ∷ a) b lo hi i =
    let r : Split (x.place + x.len) a b hi = in_split a b (x.place + x.len) hi i.1 in
    record { mid = r.mid; first = (i.0, r.first); rest = r.rest }

-- ---- placed strings in order
pub read_short : (s : List ℕ) (p n : ℕ) → length (decoded (string_at s p n)) ≤ n
read_short s p n = omega (arith, decoded-short (string_at s p n), string_short s p n)

abbrev pub Ordered : ℕ → List Placed → ℕ → Type 0
Ordered lo [] hi = lo ≤ hi
Ordered lo (x ∷ l) hi = (lo ≤ x.place) × Ordered (x.place + length x.bytes) l hi

pub ordered_lower : (l : List Placed) (lo m hi : ℕ) → lo ≤ m → Ordered m l hi → Ordered lo l hi
ordered_lower [] lo m hi h o = omega arith
ordered_lower (x ∷ l) lo m hi h o = (omega (arith, o.0), o.1)

pub ordered_append : (a b : List Placed) (lo m hi : ℕ) → Ordered lo a m → Ordered m b hi → Ordered lo (a ++ b) hi
ordered_append [] b lo m hi o u = ordered_lower b lo m hi o u
ordered_append (x ∷ a) b lo m hi o u = (o.0, ordered_append a b (x.place + length x.bytes) m hi o.1 u)

pub ordered_whole : (l : List Placed) (lo hi : ℕ) → Ordered lo l hi → lo ≤ hi
ordered_whole [] lo hi o = o
ordered_whole (x ∷ l) lo hi o = omega (arith, o.0, ordered_whole l (x.place + length x.bytes) hi o.1)

-- a string, and those after it
ordered_one : (p n lo hi : ℕ) (w : List ℕ) (l : List Placed) → lo ≤ p → length w ≤ n → Ordered (p + n) l hi
    → Ordered lo (record { place = p; bytes = w } ∷ l) hi
ordered_one p n lo hi w l h g o = (h, ordered_lower l (p + length w) (p + n) hi (omega arith) o)

module _ (s : List ℕ) where
  attrs-ordered : (l : List Attr) (lo hi : ℕ) → InOrder lo (attr_spans l) hi → Ordered lo (attr_strings s l) hi
  unfolding attr_spans attr_strings
  attrs-ordered [] lo hi i = i
  attrs-ordered (x ∷ l) lo hi i =
      let v : List ℕ = decoded (string_at s x.value x.value_len) in
      ordered_one x.name x.name_len lo hi (string_at s x.name x.name_len) (record { place = x.value; bytes = v } ∷ attr_strings s l) i.0
      (string_short s x.name x.name_len)
      (ordered_one x.value x.value_len (x.name + x.name_len) hi v (attr_strings s l) i.1.0 (read_short s x.value x.value_len)
      (attrs-ordered l (x.value + x.value_len) hi i.1.1))

  pub strings-ordered : (f : Forest) (lo hi : ℕ) → InOrder lo (spans f) hi → Ordered lo (strings s f) hi
  unfolding spans strings
  strings-ordered nil lo hi i = i
  strings-ordered (text p n f) lo hi i =
      ordered_one p n lo hi (decoded (string_at s p n)) (strings s f) i.0 (read_short s p n) (strings-ordered f (p + n) hi i.1)
  strings-ordered (section p n f) lo hi i =
      ordered_one p n lo hi (string_at s p n) (strings s f) i.0 (string_short s p n) (strings-ordered f (p + n) hi i.1)
  strings-ordered (elem p n l c f) lo hi i =
      let a : Split (p + 1 + n) (attr_spans l) (spans c ++ spans f) hi = in_split (attr_spans l) (spans c ++ spans f) (p + 1 + n) hi i.1 in
      let b : Split a.mid (spans c) (spans f) hi = in_split (spans c) (spans f) a.mid hi a.rest in
      ordered_one (p + 1) n lo hi (string_at s (p + 1) n) (attr_strings s l ++ (strings s c ++ strings s f)) i.0 (string_short s (p + 1) n)
      (ordered_append (attr_strings s l) (strings s c ++ strings s f) (p + 1 + n) a.mid hi (attrs-ordered l (p + 1 + n) a.mid a.first)
      (ordered_append (strings s c) (strings s f) a.mid b.mid hi (strings-ordered c a.mid b.mid b.first)
      (strings-ordered f b.mid hi b.rest)))

-- ---- one before the other
pub lay-length : (l : List Placed) (z : List ℕ) → length (lay z l) ≡ length z
unfolding lay
lay-length [] z = refl
lay-length (x ∷ l) z = lay-length l (sets z x.place x.bytes) ∙ length-sets z x.place x.bytes

pub lay-append : (a b : List Placed) (z : List ℕ) → lay z (a ++ b) ≡ lay (lay z a) b
unfolding lay
lay-append [] b z = refl
lay-append (x ∷ a) b z = lay-append a b (sets z x.place x.bytes)

sets_swap : (v w z : List ℕ) (p q : ℕ) → q + length v ≤ p → sets (sets z p w) q v ≡ sets (sets z q v) p w
sets_swap [] w z p q h = refl
sets_swap (y ∷ v) w z p q h =
    ap (λ (l : List ℕ). sets l (suc q) v) (set_sets w z q p y (omega arith)) ∙ sets_swap v w (set z q y) p (suc q) (omega arith)

lay-past : (l : List Placed) (z w : List ℕ) (q m hi : ℕ) → q + length w ≤ m → Ordered m l hi → sets (lay z l) q w ≡ lay (sets z q w) l
unfolding lay
lay-past [] z w q m hi h o = refl
lay-past (x ∷ l) z w q m hi h o =
    lay-past l (sets z x.place x.bytes) w q (x.place + length x.bytes) hi (omega (arith, o.0)) o.1
    ∙ ap (λ (y : List ℕ). lay y l) (sets_swap w x.bytes z x.place q (omega (arith, o.0)))

pub lay-swap : (a b : List Placed) (z : List ℕ) (lo m hi : ℕ) → Ordered m a hi → Ordered lo b m → lay (lay z a) b ≡ lay (lay z b) a
unfolding lay
lay-swap a [] z lo m hi h g = refl
lay-swap a (x ∷ b) z lo m hi h g =
    ap (λ (y : List ℕ). lay y b) (lay-past a z x.bytes x.place m hi (ordered_whole b (x.place + length x.bytes) m g.1) h)
    ∙ lay-swap a b (sets z x.place x.bytes) (x.place + length x.bytes) m hi h g.1

-- ---- the strings of nodes alone, and of attributes alone
unfoldable pub node_strings : List ℕ → Forest → List Placed
node_strings s nil = []
node_strings s (text p n f) = record { place = p; bytes = decoded (string_at s p n) } ∷ node_strings s f
node_strings s (section p n f) = record { place = p; bytes = string_at s p n } ∷ node_strings s f
node_strings s (elem p n l c f) = record { place = p + 1; bytes = string_at s (p + 1) n } ∷ (node_strings s c ++ node_strings s f)

module _ (s : List ℕ) where
  attr-strings_append : (a b : List Attr) → attr_strings s (a ++ b) ≡ attr_strings s a ++ attr_strings s b
  unfolding attr_strings
  attr-strings_append [] b = refl
  attr-strings_append (x ∷ a) b = rw (attr-strings_append a b)

  nodes-ordered : (f : Forest) (lo hi : ℕ) → InOrder lo (spans f) hi → Ordered lo (node_strings s f) hi
  unfolding spans node_strings
  nodes-ordered nil lo hi i = i
  nodes-ordered (text p n f) lo hi i =
      ordered_one p n lo hi (decoded (string_at s p n)) (node_strings s f) i.0 (read_short s p n) (nodes-ordered f (p + n) hi i.1)
  nodes-ordered (section p n f) lo hi i =
      ordered_one p n lo hi (string_at s p n) (node_strings s f) i.0 (string_short s p n) (nodes-ordered f (p + n) hi i.1)
  nodes-ordered (elem p n l c f) lo hi i =
      let a : Split (p + 1 + n) (attr_spans l) (spans c ++ spans f) hi = in_split (attr_spans l) (spans c ++ spans f) (p + 1 + n) hi i.1 in
      let b : Split a.mid (spans c) (spans f) hi = in_split (spans c) (spans f) a.mid hi a.rest in
      let r : Ordered a.mid (node_strings s c ++ node_strings s f) hi
      =
      ordered_append (node_strings s c) (node_strings s f) a.mid b.mid hi (nodes-ordered c a.mid b.mid b.first)
      (nodes-ordered f b.mid hi b.rest) in
      ordered_one (p + 1) n lo hi (string_at s (p + 1) n) (node_strings s c ++ node_strings s f) i.0 (string_short s (p + 1) n)
      (ordered_lower (node_strings s c ++ node_strings s f) (p + 1 + n) a.mid hi (in_whole (attr_spans l) (p + 1 + n) a.mid a.first) r)

  own-ordered : (f : Forest) (lo hi : ℕ) → InOrder lo (spans f) hi → Ordered lo (attr_strings s (attrs_of f)) hi
  unfolding spans attrs_of attr_strings
  own-ordered nil lo hi i = i
  own-ordered (text p n f) lo hi i = ordered_lower (attr_strings s (attrs_of f)) lo (p + n) hi (omega (arith, i.0)) (own-ordered f (p + n) hi i.1)
  own-ordered (section p n f) lo hi i =
      ordered_lower (attr_strings s (attrs_of f)) lo (p + n) hi (omega (arith, i.0)) (own-ordered f (p + n) hi i.1)
  own-ordered (elem p n l c f) lo hi i =
      let a : Split (p + 1 + n) (attr_spans l) (spans c ++ spans f) hi = in_split (attr_spans l) (spans c ++ spans f) (p + 1 + n) hi i.1 in
      let b : Split a.mid (spans c) (spans f) hi = in_split (spans c) (spans f) a.mid hi a.rest in
      let u : List Placed = attr_strings s (attrs_of c) in
      let v : List Placed = attr_strings s (attrs_of f) in
      rw (attr-strings_append l (attrs_of c ++ attrs_of f), attr-strings_append (attrs_of c) (attrs_of f))
      (ordered_lower (attr_strings s l ++ (u ++ v)) lo (p + 1 + n) hi (omega (arith, i.0))
      (ordered_append (attr_strings s l) (u ++ v) (p + 1 + n) a.mid hi (attrs-ordered s l (p + 1 + n) a.mid a.first)
      (ordered_append u v a.mid b.mid hi (own-ordered c a.mid b.mid b.first) (own-ordered f b.mid hi b.rest))))

  -- ---- all nodes' strings and then all attributes', or in document order
  -- of an element: its attributes come before its content and the rest, and the content's attributes before the rest
  regroup : (z : List ℕ) (nc nf al ac af sc sf : List Placed) (lo m m' hi : ℕ) → Ordered m nc m' → Ordered m' nf hi → Ordered lo al m
      → Ordered m ac m'
      → ((y : List ℕ) → lay (lay y nc) ac ≡ lay y sc) → ((y : List ℕ) → lay (lay y nf) af ≡ lay y sf)
      → lay (lay z (nc ++ nf)) (al ++ (ac ++ af)) ≡ lay z (al ++ (sc ++ sf))
  regroup z nc nf al ac af sc sf lo m m' hi hn hf ha hc c f =
      let y : List ℕ = lay z al in
      lay-append al (ac ++ af) (lay z (nc ++ nf))
      ∙ (ap (λ (x : List ℕ). lay x (ac ++ af)) (lay-swap (nc ++ nf) al z lo m hi (ordered_append nc nf m m' hi hn hf) ha ∙ lay-append nc nf y)
      ∙ (lay-append ac af (lay (lay y nc) nf)
      ∙ (ap (λ (x : List ℕ). lay x af) (lay-swap nf ac (lay y nc) m m' hi hf hc ∙ ap (λ (x : List ℕ). lay x nf) (c y))
      ∙ (f (lay y sc)
      ∙ (sym (lay-append sc sf y) ∙ sym (lay-append al (sc ++ sf) z))))))

  pub gathered : (f : Forest) (lo hi : ℕ) → InOrder lo (spans f) hi → (z : List ℕ) → lay (lay z (node_strings s f)) (attr_strings s (attrs_of f))
      ≡ lay z (strings s f)
  unfolding spans node_strings attr_strings attrs_of strings lay
  gathered nil lo hi i z = refl
  gathered (text p n f) lo hi i z = gathered f (p + n) hi i.1 (sets z p (decoded (string_at s p n)))
  gathered (section p n f) lo hi i z = gathered f (p + n) hi i.1 (sets z p (string_at s p n))
  gathered (elem p n l c f) lo hi i z =
      let a : Split (p + 1 + n) (attr_spans l) (spans c ++ spans f) hi = in_split (attr_spans l) (spans c ++ spans f) (p + 1 + n) hi i.1 in
      let b : Split a.mid (spans c) (spans f) hi = in_split (spans c) (spans f) a.mid hi a.rest in
      rw (attr-strings_append l (attrs_of c ++ attrs_of f), attr-strings_append (attrs_of c) (attrs_of f))
      (regroup (sets z (p + 1) (string_at s (p + 1) n)) (node_strings s c) (node_strings s f) (attr_strings s l) (attr_strings s (attrs_of c))
      (attr_strings s (attrs_of f))
      (strings s c) (strings s f) (p + 1 + n) a.mid b.mid hi
      (nodes-ordered c a.mid b.mid b.first) (nodes-ordered f b.mid hi b.rest)
      (attrs-ordered s l (p + 1 + n) a.mid a.first) (own-ordered c a.mid b.mid b.first)
      (gathered c a.mid b.mid b.first) (gathered f b.mid hi b.rest))
