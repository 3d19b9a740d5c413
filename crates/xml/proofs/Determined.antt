-- The promise determines everything: two outcomes that both meet it are the same answer with the same cells in all three tables. Assumes nothing.
--     decided        a text is taken, or it is turned away with some number
--     strings-same   the table of strings is told by the tree that it shows and by its zeros
--     determined     the theorem
use Rattle.std.specs.Prelude.{Result}
use Prim.Native.Nat.{ℕ, ◌+◌, ◌-◌, ◌≤◌, ◌<◌}
use mathlib.Core.Path.{◌≡◌, refl, sym, ap, ◌∙◌}
use mathlib.Core.Logic.{◌⊎◌, inl, inr}
use mathlib.Core.List.{List, [], ◌∷◌, ◌++◌}
use native.Mathlib.Omega.{arith}
use lib.ListN.{length, get_or, drop}
use lib.Seq.{get_or-take, get_or-drop, ext_get_or}
use lib.Dec.{ltb}
use borrow.Author.Tests.{ltb-true, ltb-false}
use Rattle.scan.specs.Part.{string_at}
use Rattle.grammar.specs.Tree.{Forest}
use Rattle.grammar.specs.Demand as demand
use Rattle.grammar.specs.Demand as demand
use Rattle.scan.proofs.Every.{by-test}
use Rattle.tree.specs.Trees as placed
use Rattle.tree.specs.Trees.{Attr, nil, text, section, elem, Span, attr_spans, spans}
use Rattle.derivation.specs.Strings.{attr_in, attrs_in, tree_in}
use Rattle.derivation.proofs.RunLaws.{string_is}
use Rattle.xml.specs.Promise.{Tables, Takes, TurnsAway, Outside, HoldsTree, Parsed}
use Rattle.xml.proofs.Promises.{readable_of, is-away, away_some, refused_as, counted}
use Rattle.xml.proofs.Theorem.{parsed, takes_exactly, taken-fits}
use Rattle.tree.specs.declared.answers.Refusal.{Refusal}
use Rattle.tree.specs.declared.answers.TreeSize.{TreeSize}

-- ---- taken or turned away
pub decided : (s : List ℕ) (lent : Tables) → ((f : Forest) × Takes s lent f) ⊎ ((n : ℕ) × (p : ℕ) × TurnsAway s lent n p)
decided s lent = by (parsed s n m z) refl
  where
    n : ℕ
    n = length lent.nodes

    m : ℕ
    m = length lent.attrs

    z : ℕ
    z = length lent.strings

    by : (r : demand.Result) → parsed s n m z ≡ r → ((f : Forest) × Takes s lent f) ⊎ ((n : ℕ) × (p : ℕ) × TurnsAway s lent n p)
    by (demand.tree g) e =
        let y = taken-fits s n m z g e in
        let d = (takes_exactly s n m z y.0 y.1).0 (g, e) in
        inl (d.0, record { readable = readable_of s lent.nodes lent.attrs lent.strings y.0 y.1; derives = d.1 })
    by (demand.refused i p) e = inr (i, p, is-away s lent.nodes lent.attrs lent.strings i p e)

-- ---- strings
abbrev SameAt : List ℕ → List ℕ → List Span → Type 0
SameAt z y [] = Unit {0}
SameAt z y (x ∷ l) = (string_at z x.place x.len ≡ string_at y x.place x.len) × SameAt z y l

module _ (z y : List ℕ) where
  same_append : (a b : List Span) → SameAt z y a → SameAt z y b → SameAt z y (a ++ b)
  same_append [] b h g = g
  same_append (x ∷ a) b h g = (h.0, same_append a b h.1 g)

  attrs-same : (l : List Attr) → attrs_in z l ≡ attrs_in y l → SameAt z y (attr_spans l)
  unfolding attrs_in attr_in attr_spans
  attrs-same [] e = tt
  attrs-same (x ∷ l) e = (cc, (cc, attrs-same l cc))

  tree-same : (g : placed.Forest) → tree_in z g ≡ tree_in y g → SameAt z y (spans g)
  unfolding tree_in spans
  tree-same nil e = tt
  tree-same (text p n f) e = (cc, tree-same f cc)
  tree-same (section p n f) e = (cc, tree-same f cc)
  tree-same (elem p n l c f) e =
      (cc, same_append (attr_spans l) (spans c ++ spans f) (attrs-same l cc) (same_append (spans c) (spans f) (tree-same c cc) (tree-same f cc)))

  byte_of : (w : List ℕ) (p n i : ℕ) → p ≤ i → i < p + n → get_or (string_at w p n) (i - p) 0 ≡ get_or w i 0
  byte_of w p n i h g =
      let e : p + (i - p) ≡ i = omega arith in
      rw (string_is w p n) (get_or-take n (drop p w) (i - p) 0 (omega arith) ∙ get_or-drop p w (i - p) 0 ∙ ap (λ k. get_or w k 0) e)

  byte_same : (l : List Span) → SameAt z y l → (i : ℕ) → Outside i l ⊎ (get_or z i 0 ≡ get_or y i 0)
  byte_same [] h i = inl tt
  byte_same (x ∷ l) h i =
      by-test (ltb i x.place) (λ a. later (inl (ltb-true i x.place a)) (byte_same l h.1 i))
      (λ a. by-test (ltb i (x.place + x.len))
      (λ b. inr (sym (byte_of z x.place x.len i (ltb-false i x.place a) (ltb-true i (x.place + x.len) b))
      ∙ ap (λ w. get_or w (i - x.place) 0) h.0 ∙ byte_of y x.place x.len i (ltb-false i x.place a) (ltb-true i (x.place + x.len) b)))
      (λ b. later (inr (ltb-false i (x.place + x.len) b)) (byte_same l h.1 i)))
    where
      later : (i < x.place) ⊎ (x.place + x.len ≤ i) → Outside i l ⊎ (get_or z i 0 ≡ get_or y i 0) → Outside i (x ∷ l) ⊎ (get_or z i 0 ≡ get_or y i 0)
      later o (inl r) = inl (o, r)
      later o (inr e) = inr e

strings-same : {s : List ℕ} {lent a b : Tables} {f : Forest} {g : placed.Forest} → HoldsTree s lent a f g → HoldsTree s lent b f g → a.strings
    ≡ b.strings
strings-same {a = a} {b = b} {g = g} h k =
    ext_get_or 0 a.strings b.strings (h.as_long ∙ sym k.as_long)
    (λ i l. go i (byte_same _ _ (spans g) (tree-same _ _ g (h.shown ∙ sym k.shown)) i))
  where
    go : (i : ℕ) → Outside i (spans g) ⊎ (get_or a.strings i 0 ≡ get_or b.strings i 0) → get_or a.strings i 0 ≡ get_or b.strings i 0
    go i (inl o) = h.elsewhere i o ∙ sym (k.elsewhere i o)
    go i (inr e) = e

-- ---- the theorem
tables-same : {a b : Tables} → a.nodes ≡ b.nodes → a.attrs ≡ b.attrs → a.strings ≡ b.strings → a ≡ b
tables-same {a} {b} e d c = λ i. record { nodes = e i; attrs = d i; strings = c i }

pub determined : {s : List ℕ} {lent : Tables} {x y : Result TreeSize Refusal} {a b : Tables} → Parsed s lent x a → Parsed s lent y b → (x ≡ y) × (a ≡ b)
determined {s} {lent} {x} {y} {a} {b} p q = by (decided s lent)
  where
    by : ((f : Forest) × Takes s lent f) ⊎ ((n : ℕ) × (k : ℕ) × TurnsAway s lent n k) → (x ≡ y) × (a ≡ b)
    by (inl t) =
        let h = p.tree t.0 t.1 in
        let k = q.tree t.0 t.1 in (
          counted p t.0 t.1 ∙ sym (counted q t.0 t.1),
          tables-same (h.node-rows ∙ sym k.node-rows) (h.attr-rows ∙ sym k.attr-rows) (strings-same h k),
        )
    by (inr t) =
        let l : 0 < t.0 = away_some t.2 in
        let u = (p.refused t.0 t.1 l).1 t.2 in
        let v = (q.refused t.0 t.1 l).1 t.2 in
        let h = p.cleared (omega (arith, u.0, l)) in
        let k = q.cleared (omega (arith, v.0, l)) in (
          refused_as x t.0 t.1 l u ∙ sym (refused_as y t.0 t.1 l v),
          tables-same (h.of_nodes ∙ sym k.of_nodes) (h.of_attrs ∙ sym k.of_attrs) (h.of_strings ∙ sym k.of_strings),
        )
