-- What the promise of the tree reader says of a text's tree, for the readers of tracks. Assumes nothing.
--     taken-away, away_same      a text is taken or turned away, and with one number and place
--     refused-away               what the tree reader refuses is turned away with that number and place
--     nodes-same                 all derivations of a text give the same nodes
--     strings-are, nodes-held    what its tables hold: the strings, and the nodes with their places
--     means_of                   so the text means what these nodes mean
use Rattle.std.specs.Prelude.{Result, Ok, Err}
use Prim.Native.Nat.{ℕ, ◌≤◌}
use mathlib.Core.Path.{◌≡◌, refl, sym, ap, ◌∙◌}
use mathlib.Core.Logic.{◌⊎◌, inl, inr}
use mathlib.Core.List.{List}
use native.Mathlib.Omega.{arith}
use lib.ListN.{length, replicate}
use Rattle.utf8.proofs.Utf8Laws.{utf8-end}
use Rattle.grammar.specs.Tree.{Forest}
use Rattle.grammar.specs.Limits as count
use Rattle.grammar.proofs.Theorem.{no_two}
use Rattle.tree.specs.Trees as placed
use Rattle.tree.specs.Trees.{spans, InOrder}
use Rattle.tree.specs.Read.{answer_of, nodes_of, attr_cells}
use Rattle.tree.specs.Posts.{Fits}
use Rattle.tree.specs.declared.answers.Refusal.{Refusal}
use Rattle.tree.proofs.Places.{meaning-placed}
use Rattle.derivation.proofs.Theorem.{Gives, gives-exactly}
use Rattle.track.specs.Track.{Track}
use Rattle.xml.specs.Reading.{Placed, lay}
use Rattle.xml.specs.Steps.{strings, raw, read_out, strings_of}
use Rattle.xml.specs.Where.{document_placed}
use Rattle.tree.specs.Answers.{tree_with, number_of, place_of}
use Rattle.xml.specs.Promise.{Tables, tables, Takes, TurnsAway, places_of, Parsed}
use Rattle.xml.proofs.Parsing.{raw-enough}
use Rattle.xml.proofs.Derived.{placed_as_derived}
use Rattle.xml.proofs.Lengths.{read_placed}
use Rattle.xml.proofs.Promises.{parsed-of, away_some, counted}
use Rattle.xml.proofs.Determined.{decided, determined}
use Rattle.meaning.specs.Answers.{Answer, is}
use Rattle.meaning.specs.Nodes.{Nodes}
use Rattle.meaning.specs.Kinds.{nodes_in}
use Rattle.meaning.specs.Texts.{nodes_read}
use Rattle.meaning.proofs.Stands.{tables-nodes}
use Rattle.laid.specs.Steps.{Means}
use Rattle.promised.specs.Promise as promise
use Rattle.tree.specs.declared.answers.TreeSize.{TreeSize}

module _ (s : List ℕ) (lent : Tables) where
  abbrev n : ℕ
  n = length lent.nodes

  abbrev m : ℕ
  m = length lent.attrs

  abbrev z : ℕ
  z = length lent.strings

  -- ---- there is an outcome that meets the tree reader's promise
  abbrev canon_answer : Result TreeSize Refusal
  canon_answer = answer_of (raw s n m z)

  abbrev canon_left : Tables
  canon_left = tables (nodes_of n (read_out s (raw s n m z))) (attr_cells m (read_out s (raw s n m z))) (strings_of z s (raw s n m z))

  canon : Parsed s lent canon_answer canon_left
  canon = parsed-of s lent.nodes lent.attrs lent.strings (refl, (refl, (refl, refl)))

  pub taken-away : {f : Forest} {i p : ℕ} → Takes s lent f → TurnsAway s lent i p → ⊥
  unfolding number_of
  taken-away {f} {i} {p} d a =
      let h = away_some a in
      let x = (canon.refused i p h).1 a in
      let y = ap number_of (counted canon f d) in
      omega (arith, h, x.0, y)

  pub away_same : {i p j q : ℕ} → TurnsAway s lent i p → TurnsAway s lent j q → (i ≡ j) × (p ≡ q)
  away_same {i} {p} {j} {q} a b =
      let x = (canon.refused i p (away_some a)).1 a in
      let y = (canon.refused j q (away_some b)).1 b in
      (sym x.0 ∙ y.0, sym x.1 ∙ y.1)

  pub refused-away : {r : Refusal} {left : Tables} → Parsed s lent (Err r) left → TurnsAway s lent r.number r.place
  unfolding number_of place_of
  refused-away {r} {left} p = by (decided s lent)
    where
      by : ((f : Forest) × Takes s lent f) ⊎ ((i : ℕ) × (q : ℕ) × TurnsAway s lent i q) → TurnsAway s lent r.number r.place
      by (inl x) =
          let f = x.0 in
          let e : ◌≡◌ {A = Result TreeSize Refusal} (Err r) (tree_with (count.nodes f) (count.attrs f)) = counted p f x.1 in
          let w : ◌≡◌ {A = ℕ} 0 1 = cc in
          absurd (omega arith)
      by (inr x) =
          let y = (p.refused x.0 x.1 (away_some x.2)).1 x.2 in
          rw (y.0, y.1) x.2

  -- ---- a text that is taken
  fits-at : (a b : ℕ) → 49152 ≤ a → 32768 ≤ b → {f : Forest} → Takes s lent f → Fits s a b
  fits-at a b ha hb d = record { long = ha; wide = hb; short = d.readable.short; valid = omega (arith, utf8-end s d.readable.valid) }

  fits : {f : Forest} → Takes s lent f → Fits s n m
  fits d = fits-at n m d.readable.long_enough.of_nodes d.readable.long_enough.of_attrs d

  pub tree-same : {f g : Forest} → Takes s lent f → Takes s lent g → f ≡ g
  tree-same {f} {g} d e = no_two s f g d.derives.derived e.derives.derived

  pub nodes-same : {f g : Forest} (d : Takes s lent f) (e : Takes s lent g)
      → promise.nodes_of d.derives.derived ≡ promise.nodes_of e.derives.derived
  nodes-same {f} {g} d e =
      let r = (gives-exactly s n m (fits d) f).1 d.derives in
      let a = placed_as_derived d.derives.derived n m (fits d) r.0 r.1 r.2 r.3 r.4 in
      let b = placed_as_derived e.derives.derived n m (fits d) r.0 r.1 r.2 r.3 r.4 in
      ap (nodes_read s) (sym a ∙ b)

  module _ {f : Forest} (d : Takes s lent f) where
    abbrev pub forest : placed.Forest
    forest = document_placed length d.derives.derived

    read : Gives s n m f
    read = (gives-exactly s n m (fits d) f).1 d.derives

    read_is : read.0 ≡ forest
    read_is = placed_as_derived d.derives.derived n m (fits d) read.0 read.1 read.2 read.3 read.4

    pub strings-are : {r : Result TreeSize Refusal} {left : Tables} → Parsed s lent r left → left.strings ≡ lay (replicate z 0) (strings s forest)
    unfolding strings_of
    strings-are p =
        let a = ap (λ (T : Tables). T.strings) (determined p canon).1 in
        let b = raw-enough s n m z d.readable.long_enough.of_strings ∙ read.4 in
        a ∙ ap (strings_of z s) b ∙ ap (λ (g : placed.Forest). lay (replicate z 0) (strings s g)) read_is

    in_order : InOrder 0 (spans forest) (length s)
    in_order = rw read_is at (meaning-placed s n m read.0 read.1 read.2 read.3 read.4)

    pub nodes-held : {r : Result TreeSize Refusal} {left : Tables} → Parsed s lent r left
        → nodes_in left.strings (places_of d.derives.derived) ≡ promise.nodes_of d.derives.derived
    nodes-held {r} {left} p =
        let room : length s ≤ z = omega (arith, d.readable.short, d.readable.long_enough.of_strings) in
        let a = ap (λ (w : List ℕ). nodes_in w (places_of d.derives.derived)) (strings-are p) in
        let b = ap (nodes_in (lay (replicate z 0) (strings s forest))) (sym (read_placed d.derives.derived)) in
        a ∙ b ∙ tables-nodes s forest 0 z in_order room

    pub means_of : {meant : Nodes Placed → Answer (Track Placed)} {t : Track Placed} → meant (promise.nodes_of d.derives.derived) ≡ is t
        → Means meant s forest t
    means_of {meant} {t} e =
        let fit = fits-at 49152 32768 (omega arith) (omega arith) d in
        let r = (gives-exactly s 49152 32768 fit f).1 d.derives in
        let w = placed_as_derived d.derives.derived 49152 32768 fit r.0 r.1 r.2 r.3 r.4 in
        record { fits = fit; end = r.1; nodes = r.2; attrs = r.3; tree = rw w at r.4; means = e }
