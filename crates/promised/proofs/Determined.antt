-- The promise determines everything: two outcomes that both meet it are the same answer with the same cells in all tables. Assumes nothing.
--     decided        a text is taken, or it is turned away with some number
--     determined     the theorem
use Rattle.std.specs.Prelude.{Result, Ok, Err, ⊤}
use Prim.Native.Nat.{ℕ, ◌<◌}
use mathlib.Core.Path.{◌≡◌, refl, sym, ap, ap₂, ◌∙◌}
use mathlib.Core.Logic.{◌⊎◌, inl, inr}
use mathlib.Core.Bool.{true≢false}
use mathlib.Core.List.{List}
use native.Mathlib.Omega.{arith}
use lib.ListN.{length}
use lib.Dec.{ltb}
use borrow.Author.Tests.{ltb-true, ltb-false}
use Rattle.scan.proofs.Every.{by-test}
use Rattle.grammar.specs.Tree.{Forest}
use Rattle.track.specs.Track.{Track}
use Rattle.track.specs.Tables.{lengths}
use Rattle.track.specs.Tables as track
use Rattle.track.specs.Steps.{is_full}
use Rattle.track.proofs.Answers.{full-long, long_full}
use Rattle.xml.specs.Reading.{Placed}
use Rattle.xml.specs.Promise as xml
use Rattle.xml.proofs.Determined as xml-determined
use Rattle.meaning.specs.Answers.{is, refused}
use Rattle.meaning.specs.Answers as meaning
use Rattle.meaning.specs.Nodes.{Nodes}
use Rattle.laid.specs.Laid.{track_tables}
use Rattle.promised.specs.Promise.{number_of, place_of, Says, Tables, tree_tables, LongEnough, AllZero, nodes_of, Takes, TurnsAway}
use Rattle.promised.specs.Promise.{short_table, no_tree, no_track, Promise}
use Rattle.promised.proofs.Numbers.{Numbered}
use Rattle.promised.proofs.Promises.{refusal, some_number}
use Rattle.tree.specs.declared.answers.Refusal.{Refusal}

-- ---- taken or turned away
tree-long : (T : xml.Tables) → xml.LongEnough T ⊎ (¬ xml.LongEnough T)
tree-long T = by-test (ltb (length T.nodes) 49152)
    (λ a. inr (λ l. let h = ltb-true (length T.nodes) 49152 a in omega (arith, h, l.of_nodes)))
    (λ a. by-test (ltb (length T.attrs) 32768)
    (λ b. inr (λ l. let h = ltb-true (length T.attrs) 32768 b in omega (arith, h, l.of_attrs)))
    (λ b. by-test (ltb (length T.strings) 65536)
    (λ c. inr (λ l. let h = ltb-true (length T.strings) 65536 c in omega (arith, h, l.of_strings)))
    (λ c. inl (record {
      of_nodes = ltb-false (length T.nodes) 49152 a;
      of_attrs = ltb-false (length T.attrs) 32768 b;
      of_strings = ltb-false (length T.strings) 65536 c;
    }))))

track_long : (T : track.Tables) → track.LongEnough (lengths T) ⊎ (¬ track.LongEnough (lengths T))
track_long T = by-test (is_full T) (λ e. inl (full-long T e)) (λ e. inr (λ l. true≢false (sym (long_full T l) ∙ e)))

long : (lent : Tables) → LongEnough lent ⊎ (¬ LongEnough lent)
long lent = by (tree-long (tree_tables lent)) (track_long lent.track)
  where
    by : xml.LongEnough (tree_tables lent) ⊎ (¬ xml.LongEnough (tree_tables lent))
        → track.LongEnough (lengths lent.track) ⊎ (¬ track.LongEnough (lengths lent.track)) → LongEnough lent ⊎ (¬ LongEnough lent)
    by (inl a) (inl b) = inl (record { of_tree = a; of_track = b })
    by (inl a) (inr b) = inr (λ l. b l.of_track)
    by (inr a) b = inr (λ l. a l.of_tree)

-- ---- tables
tables-same : {a b : Tables} → a.nodes ≡ b.nodes → a.attrs ≡ b.attrs → a.track ≡ b.track → a ≡ b
tables-same {a} {b} n m t =
    ap (λ (x : List ℕ). record { nodes = x; attrs = a.attrs; track = a.track }) n
    ∙ ap (λ (x : List ℕ). record { nodes = b.nodes; attrs = x; track = a.track }) m
    ∙ ap (λ (x : track.Tables). record { nodes = b.nodes; attrs = b.attrs; track = x }) t

pub zero_same : {lent a b : Tables} → AllZero lent a → AllZero lent b → a ≡ b
zero_same h k =
    tables-same (h.of_tree.of_nodes ∙ sym k.of_tree.of_nodes) (h.of_tree.of_attrs ∙ sym k.of_tree.of_attrs)
    (h.of_track ∙ sym k.of_track)

refused_as : (r : Result ⊤ Refusal) (i p : ℕ) → 0 < i → Says r i p → r ≡ refusal i p
unfolding number_of place_of
refused_as (Ok tt) i p h e = absurd (omega (arith, h, e.0))
refused_as (Err x) i p h e = ap₂ refusal e.0 e.1

module _ (meant : Nodes Placed → meaning.Answer (Track Placed)) (numbers : (f : Nodes Placed) → Numbered (meant f)) where
  pub decided : (s : List ℕ) (lent : Tables)
      → ((f : Forest) × (t : Track Placed) × Takes meant s lent f t) ⊎ ((n : ℕ) × (p : ℕ) × TurnsAway meant s lent n p)
  decided s lent = by (long lent)
    where
      meaning-of : LongEnough lent → {f : Forest} (d : xml.Takes s (tree_tables lent) f) (m : meaning.Answer (Track Placed))
          → meant (nodes_of d.derives.derived) ≡ m
          → ((f : Forest) × (t : Track Placed) × Takes meant s lent f t) ⊎ ((n : ℕ) × (p : ℕ) × TurnsAway meant s lent n p)
      meaning-of l {f} d (is t) e = inl (f, t, record { long_enough = l; tree = d; means = e })
      meaning-of l d (refused n p) e = inr (n, p, no_track l d e)

      read : LongEnough lent → ((f : Forest) × xml.Takes s (tree_tables lent) f) ⊎ ((n : ℕ) × (p : ℕ) × xml.TurnsAway s (tree_tables lent) n p)
          → ((f : Forest) × (t : Track Placed) × Takes meant s lent f t) ⊎ ((n : ℕ) × (p : ℕ) × TurnsAway meant s lent n p)
      read l (inl x) = meaning-of l x.1 (meant (nodes_of x.1.derives.derived)) refl
      read l (inr x) = inr (x.0, x.1, no_tree l x.2)

      by : LongEnough lent ⊎ (¬ LongEnough lent)
          → ((f : Forest) × (t : Track Placed) × Takes meant s lent f t) ⊎ ((n : ℕ) × (p : ℕ) × TurnsAway meant s lent n p)
      by (inl l) = read l (xml-determined.decided s (tree_tables lent))
      by (inr h) = inr (1, 0, short_table h)

  pub determined : {s : List ℕ} {lent : Tables} {x y : Result ⊤ Refusal} {a b : Tables} → Promise meant s lent x a → Promise meant s lent y b
      → (x ≡ y) × (a ≡ b)
  determined {s} {lent} {x} {y} {a} {b} p q = by (decided s lent)
    where
      by : ((f : Forest) × (t : Track Placed) × Takes meant s lent f t) ⊎ ((n : ℕ) × (i : ℕ) × TurnsAway meant s lent n i) → (x ≡ y) × (a ≡ b)
      by (inl w) =
          let e = (xml-determined.determined (p.tree w.0 w.1 w.2) (q.tree w.0 w.1 w.2)).1 in
          let z = ap (λ (T : xml.Tables). T.strings) e in
          let t = ap (λ (v : List ℕ). track_tables (lengths lent.track) v (length s) w.1) z in (
            p.taken.1 w ∙ sym (q.taken.1 w),
            tables-same (ap (λ (T : xml.Tables). T.nodes) e) (ap (λ (T : xml.Tables). T.attrs) e)
                (p.track w.0 w.1 w.2 ∙ t ∙ sym (q.track w.0 w.1 w.2)),
          )
      by (inr w) =
          let l = some_number meant numbers s lent w.2 in
          let u = (p.refused w.0 w.1 l).1 w.2 in
          let v = (q.refused w.0 w.1 l).1 w.2 in (
            refused_as x w.0 w.1 l u ∙ sym (refused_as y w.0 w.1 l v),
            zero_same (p.cleared (omega (arith, u.0, l))) (q.cleared (omega (arith, v.0, l))),
          )
