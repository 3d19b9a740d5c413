-- What `parse_xml` leaves meets `Parsed`, its promise. Assumes nothing.
--     meets-some, away_some     a number that is met is no 0
--     away_is, is-away          the numbers 1 to 11 are answered exactly
--     counted                   the answer is the tree that is taken, by its values
--     nodes-counted, attrs-counted   a placed forest has as many nodes and attributes as the tree that it shows
--     laid-outside              a byte outside of all strings is as it was
--     parsed-of                 the promise
use Rattle.std.specs.Prelude.{Result, Ok, Err}
use Prim.Native.Nat.{ℕ, zero, suc, ◌+◌, ◌-◌, ◌≤◌, ◌<◌}
use mathlib.Core.Path.{◌≡◌, refl, sym, ap, ap₂, subst, ◌∙◌}
use mathlib.Core.Bool.{Bool, true, false}
use mathlib.Core.Logic.{◌⊎◌, inl, inr}
use mathlib.Core.List.{List, [], ◌∷◌, ◌++◌}
use native.Mathlib.Omega.{arith}
use lib.ListN.{length, get_or, replicate, length-append, length-replicate}
use lib.Seq.{sets}
use lib.Dec.{ltb}
use borrow.Author.Tests.{ltb-true, ltb-false}
use Rattle.scan.specs.Part.{string_at}
use Rattle.scan.proofs.Stores.{sets_other}
use Rattle.utf8.specs.Utf8.{utf8_end}
use Rattle.utf8.proofs.Utf8Laws.{end_within, end_valid, end_longest, utf8-end, end_utf8}
use Rattle.entities.specs.Decode.{decoded}
use Rattle.grammar.specs.Tree.{Forest}
use Rattle.grammar.specs.Limits as count
use Rattle.grammar.specs.Demand as demand
use Rattle.grammar.specs.Demand.{refused, decode_forest}
use Rattle.grammar.specs.Refusals.{Meets, too_deep, too_many_nodes, no_tag_name, too_many_attributes, slash, no_value, end_in_tag, open_close_tag}
use Rattle.tree.specs.Answers.{tree_with, number_of, place_of, values_of, Says}
use Rattle.tree.specs.Trees as placed
use Rattle.tree.specs.Trees.{Attr, nil, text, section, elem, size, attrs_of, rows, attr_rows, Span, attr_spans, spans, InOrder}
use Rattle.tree.specs.Read.{Out, got, nothing, bad, answer_of, nodes_of, attr_cells}
use Rattle.tree.specs.Posts.{Fits}
use Rattle.tree.proofs.Forests.{length_rows}
use Rattle.tree.proofs.Tags.{length_attr_rows}
use Rattle.tree.proofs.Places.{meaning-placed}
use Rattle.derivation.specs.Strings.{attrs_in, tree_in}
use Rattle.derivation.proofs.Theorem.{Gives, gives-exactly}
use Rattle.xml.specs.Reading.{Placed, lay}
use Rattle.xml.specs.Steps.{attr_strings, strings, read_attrs, read_forest, raw, read_out, strings_of}
use Rattle.xml.specs.Promise.{Tables, tables, LongEnough, AllZero, Readable, Takes, TurnsAway, short_table, long_text, not_utf8, first-met}
use Rattle.xml.specs.Promise.{places_of, Outside, HoldsTree, Parsed}
use Rattle.xml.proofs.PassLaws.{string_short}
use Rattle.xml.proofs.Lays.{lay-length}
use Rattle.xml.proofs.Parsing.{raw-enough, Left}
use Rattle.xml.proofs.Shown.{order_read, tree-shown}
use Rattle.xml.proofs.Derived.{placed_as_derived}
use Rattle.xml.proofs.Lengths.{read_placed}
use Rattle.xml.proofs.Theorem as theorem
use Rattle.xml.proofs.Theorem.{parsed, takes_exactly, refuses_exactly, taken-fits, answers_tree, answers_refused}
use Rattle.tree.specs.declared.answers.Refusal.{Refusal}
use Rattle.tree.specs.declared.answers.TreeSize.{TreeSize}

-- ---- a number that is met is no 0
meets-some : {d k j : ℕ} {s : List ℕ} {n p : ℕ} → Meets d k j s n p → 0 < n
meets-some (too_deep v e) = omega arith
meets-some (too_many_nodes v e) = omega arith
meets-some (no_tag_name v e h) = omega arith
meets-some (too_many_attributes v e) = omega arith
meets-some (slash v e) = omega arith
meets-some (no_value v e b c) = omega arith
meets-some (end_in_tag v e h g) = omega arith
meets-some (open_close_tag v e) = omega arith

pub away_some : {s : List ℕ} {lent : Tables} {n p : ℕ} → TurnsAway s lent n p → 0 < n
away_some (short_table h) = omega arith
away_some (long_text h g) = omega arith
away_some (not_utf8 h g v w) = omega arith
away_some (first-met h m) = meets-some m.met

-- ---- counts
-- a refusal has no values
tree-as : (a : Result TreeSize Refusal) (i j : ℕ) → values_of a ≡ i ∷ j ∷ [] → a ≡ tree_with i j
tree-as (Ok t) i j e =
    let a : t.nodes ≡ i = cc in
    let b : t.attrs ≡ j = cc in
    ap₂ tree_with a b
tree-as (Err x) i j e = let z : ◌≡◌ {A = ℕ} 0 1 = cc in absurd (omega arith)

pub counted : {s : List ℕ} {lent left : Tables} {a : Result TreeSize Refusal} → Parsed s lent a left → (f : Forest) → Takes s lent f
    → a ≡ tree_with (count.nodes f) (count.attrs f)
counted {a = a} p f d = tree-as a (count.nodes f) (count.attrs f) (p.counts f d)

module _ (z : List ℕ) where
  attrs-shown : (l : List Attr) → length (attrs_in z l) ≡ length l
  unfolding attrs_in
  attrs-shown [] = refl
  attrs-shown (x ∷ l) = ap suc (attrs-shown l)

  pub nodes-counted : (f : placed.Forest) → size f ≡ count.nodes (tree_in z f)
  unfolding tree_in size count.nodes
  nodes-counted nil = refl
  nodes-counted (text p n f) = omega (arith, nodes-counted f)
  nodes-counted (section p n f) = omega (arith, nodes-counted f)
  nodes-counted (elem p n l c f) = omega (arith, nodes-counted c, nodes-counted f)

  pub attrs-counted : (f : placed.Forest) → length (attrs_of f) ≡ count.attrs (tree_in z f)
  unfolding tree_in attrs_of count.attrs
  attrs-counted nil = refl
  attrs-counted (text p n f) = omega (arith, attrs-counted f)
  attrs-counted (section p n f) = omega (arith, attrs-counted f)
  attrs-counted (elem p n l c f) =
      omega (arith, attrs-shown l, attrs-counted c, attrs-counted f, length-append l (attrs_of c ++ attrs_of f), length-append (attrs_of c) (attrs_of f))

-- ---- a byte outside of all strings
abbrev Apart : ℕ → List Placed → Type 0
Apart i [] = Unit {0}
Apart i (x ∷ l) = ((i < x.place) ⊎ (x.place + length x.bytes ≤ i)) × Apart i l

apart_append : (i : ℕ) (a b : List Placed) → Apart i a → Apart i b → Apart i (a ++ b)
apart_append i [] b h g = g
apart_append i (x ∷ a) b h g = (h.0, apart_append i a b h.1 g)

laid-outside : (i : ℕ) (l : List Placed) (z : List ℕ) → Apart i l → get_or (lay z l) i 0 ≡ get_or z i 0
unfolding lay
laid-outside i [] z h = refl
laid-outside i (x ∷ l) z h = laid-outside i l (sets z x.place x.bytes) h.1 ∙ sets_other x.bytes z x.place i h.0

outside_split : (i : ℕ) (a b : List Span) → Outside i (a ++ b) → Outside i a × Outside i b
outside_split i [] b h = (tt, h)
outside_split i (x ∷ a) b h = let r = outside_split i a b h.1 in ((h.0, r.0), r.1)

shorter : (i p n m : ℕ) → n ≤ m → (i < p) ⊎ (p + m ≤ i) → (i < p) ⊎ (p + n ≤ i)
shorter i p n m h (inl g) = inl g
shorter i p n m h (inr g) = inr (omega arith)

module _ (s : List ℕ) (i : ℕ) where
  attrs-apart : (l : List Attr) → Outside i (attr_spans (read_attrs s l)) → Apart i (attr_strings s l)
  unfolding attr_spans attr_strings read_attrs
  attrs-apart [] h = tt
  attrs-apart (x ∷ l) h = (
    shorter i x.name (length (string_at s x.name x.name_len)) x.name_len (string_short s x.name x.name_len) h.0,
    (h.1.0, attrs-apart l h.1.1),
  )

  forest_apart : (f : placed.Forest) → Outside i (spans (read_forest s f)) → Apart i (strings s f)
  unfolding spans strings read_forest
  forest_apart nil h = tt
  forest_apart (text p n f) h = (h.0, forest_apart f h.1)
  forest_apart (section p n f) h = (shorter i p (length (string_at s p n)) n (string_short s p n) h.0, forest_apart f h.1)
  forest_apart (elem p n l c f) h =
      let a = outside_split i (attr_spans (read_attrs s l)) (spans (read_forest s c) ++ spans (read_forest s f)) h.1 in
      let b = outside_split i (spans (read_forest s c)) (spans (read_forest s f)) a.1 in (
        shorter i (p + 1) (length (string_at s (p + 1) n)) n (string_short s (p + 1) n) h.0,
        apart_append i (attr_strings s l) (strings s c ++ strings s f) (attrs-apart l a.0)
            (apart_append i (strings s c) (strings s f) (forest_apart c b.0) (forest_apart f b.1)),
      )

zero_at : (n i : ℕ) → get_or {A = ℕ} (replicate n 0) i 0 ≡ 0
zero_at zero i = refl
zero_at (suc n) zero = refl
zero_at (suc n) (suc i) = zero_at n i

-- ---- the cases of an answer
pub refused_as : (r : Result TreeSize Refusal) (i p : ℕ) → 0 < i → Says r i p → r ≡ Err (record { number = i; place = p })
unfolding number_of place_of
refused_as (Ok t) i p h e = absurd (omega (arith, e.0))
refused_as (Err x) i p h e = ap₂ (λ (a b : ℕ). Err (record { number = a; place = b })) e.0 e.1

bad-out : (o : Out) → 0 < number_of (answer_of o) → (i : ℕ) × (q : ℕ) × (o ≡ bad i q)
unfolding number_of answer_of
bad-out (got f q k a) h = absurd (omega arith)
bad-out (nothing q) h = absurd (omega arith)
bad-out (bad i q) h = (i, q, refl)

-- ---- the text s, the tables T, U and Z at entry
module _ (s T U Z : List ℕ) where
  abbrev result : demand.Result
  result = parsed s (length T) (length U) (length Z)

  fits-of : Readable s (tables T U Z) → Fits s (length T) (length U)
  fits-of r = record {
    long = r.long_enough.of_nodes;
    wide = r.long_enough.of_attrs;
    short = r.short;
    valid = omega (arith, utf8-end s r.valid);
  }

  pub readable_of : Fits s (length T) (length U) → 65536 ≤ length Z → Readable s (tables T U Z)
  readable_of f h = record {
    long_enough = record { of_nodes = f.long; of_attrs = f.wide; of_strings = h };
    short = f.short;
    valid = end_utf8 s (omega (arith, end_within s, f.valid));
  }

  -- ---- the numbers
  moved : (a b i p : ℕ) → ◌≡◌ {A = demand.Result} (refused a b) (refused i p) → TurnsAway s (tables T U Z) a b → TurnsAway s (tables T U Z) i p
  moved a b i p e t =
      let x : a ≡ i = cc in
      let y : b ≡ p = cc in
      rw (x, y) at t

  pub is-away : (i p : ℕ) → result ≡ refused i p → TurnsAway s (tables T U Z) i p
  is-away i p e =
      by (ltb (length Z) 65536) (ltb (length T) 49152) (ltb (length U) 32768) (ltb 65536 (length s)) (ltb (utf8_end s) (length s)) refl refl refl
      refl refl
    where
      answered : (a b : ℕ) → result ≡ refused a b → TurnsAway s (tables T U Z) a b → TurnsAway s (tables T U Z) i p
      answered a b x = moved a b i p (sym x ∙ e)

      lent : 49152 ≤ length T → 32768 ≤ length U → 65536 ≤ length Z → LongEnough (tables T U Z)
      lent a b c = record { of_nodes = a; of_attrs = b; of_strings = c }

      by : (a b c d k : Bool) → ltb (length Z) 65536 ≡ a → ltb (length T) 49152 ≡ b → ltb (length U) 32768 ≡ c → ltb 65536 (length s) ≡ d
          → ltb (utf8_end s) (length s) ≡ k → TurnsAway s (tables T U Z) i p
      by true b c d k v w x y g =
          let h = ltb-true (length Z) 65536 v in
          answered 1 0 (theorem.small_strings s (length T) (length U) (length Z) h) (short_table (λ l. omega (arith, l.of_strings)))
      by false true c d k v w x y g =
          let h = ltb-true (length T) 49152 w in
          answered 1 0 (theorem.small_nodes s (length T) (length U) (length Z) (ltb-false (length Z) 65536 v) h)
          (short_table (λ l. omega (arith, l.of_nodes)))
      by false false true d k v w x y g =
          let h = ltb-true (length U) 32768 x in
          answered 1 0 (theorem.small_attrs s (length T) (length U) (length Z) (ltb-false (length Z) 65536 v) (ltb-false (length T) 49152 w) h)
          (short_table (λ l. omega (arith, l.of_attrs)))
      by false false false true k v w x y g =
          let l = lent (ltb-false (length T) 49152 w) (ltb-false (length U) 32768 x) (ltb-false (length Z) 65536 v) in
          let h = ltb-true 65536 (length s) y in
          answered 2 0 (theorem.too_long s (length T) (length U) (length Z) l.of_strings l.of_nodes l.of_attrs h) (long_text l h)
      by false false false false true v w x y g =
          let l = lent (ltb-false (length T) 49152 w) (ltb-false (length U) 32768 x) (ltb-false (length Z) 65536 v) in
          let h = ltb-false 65536 (length s) y in
          let b = ltb-true (utf8_end s) (length s) g in
          answered 3 (utf8_end s) (theorem.not_utf8 s (length T) (length U) (length Z) l.of_strings l.of_nodes l.of_attrs h b)
          (not_utf8 l h (λ u. omega (arith, utf8-end s u)) (record { within = end_within s; valid = end_valid s; longest = end_longest s }))
      by false false false false false v w x y g =
          let f : Fits s (length T) (length U) = record {
            long = ltb-false (length T) 49152 w;
            wide = ltb-false (length U) 32768 x;
            short = ltb-false 65536 (length s) y;
            valid = ltb-false (utf8_end s) (length s) g;
          } in
          let z = ltb-false (length Z) 65536 v in
          first-met (readable_of f z) ((refuses_exactly s (length T) (length U) (length Z) f z i p).0 e)

  away_is : {i p : ℕ} → TurnsAway s (tables T U Z) i p → result ≡ refused i p
  away_is (short_table h) = by (ltb (length Z) 65536) (ltb (length T) 49152) (ltb (length U) 32768) refl refl refl
    where
      by : (a b c : Bool) → ltb (length Z) 65536 ≡ a → ltb (length T) 49152 ≡ b → ltb (length U) 32768 ≡ c → result ≡ refused 1 0
      by true b c v w x = theorem.small_strings s (length T) (length U) (length Z) (ltb-true (length Z) 65536 v)
      by false true c v w x = theorem.small_nodes s (length T) (length U) (length Z) (ltb-false (length Z) 65536 v) (ltb-true (length T) 49152 w)
      by false false true v w x =
          theorem.small_attrs s (length T) (length U) (length Z) (ltb-false (length Z) 65536 v) (ltb-false (length T) 49152 w)
          (ltb-true (length U) 32768 x)
      by false false false v w x =
          absurd (h (record {
            of_nodes = ltb-false (length T) 49152 w;
            of_attrs = ltb-false (length U) 32768 x;
            of_strings =
                ltb-false (length Z) 65536 v;
          }))
  away_is (long_text l h) = theorem.too_long s (length T) (length U) (length Z) l.of_strings l.of_nodes l.of_attrs h
  away_is (not_utf8 {p} l h bad-text v) =
      let e : p ≡ utf8_end s = omega (arith, end_longest s p v.within v.valid, v.longest (utf8_end s) (end_within s) (end_valid s)) in
      rw e (theorem.not_utf8 s (length T) (length U) (length Z) l.of_strings l.of_nodes l.of_attrs h
      (broken (ltb (utf8_end s) (length s)) refl))
    where
      broken : (k : Bool) → ltb (utf8_end s) (length s) ≡ k → utf8_end s < length s
      broken true g = ltb-true (utf8_end s) (length s) g
      broken false g = absurd (bad-text (end_utf8 s (omega (arith, end_within s, ltb-false (utf8_end s) (length s) g))))
  away_is (first-met {n} {p} r m) = (refuses_exactly s (length T) (length U) (length Z) (fits-of r) r.long_enough.of_strings n p).1 m

  -- ---- the promise
  module _ {r : Result TreeSize Refusal} {t u w : List ℕ} (left : Left s (length T) (length U) (length Z) (raw s (length T) (length U) (length Z)) r t u w) where
    module _ (f : Forest) (d : Takes s (tables T U Z) f) where
      fits : Fits s (length T) (length U)
      fits = fits-of d.readable

      read : Gives s (length T) (length U) f
      read = (gives-exactly s (length T) (length U) fits f).1 d.derives

      read_is : raw s (length T) (length U) (length Z) ≡ got read.0 read.1 read.2 read.3
      read_is = raw-enough s (length T) (length U) (length Z) d.readable.long_enough.of_strings ∙ read.4

      -- it stands where its derivation says
      where_is : read_forest s read.0 ≡ places_of d.derives.derived
      where_is =
          ap (read_forest s) (placed_as_derived d.derives.derived (length T) (length U) fits read.0 read.1 read.2 read.3 read.4)
          ∙ read_placed d.derives.derived

      counts_it : r ≡ tree_with (count.nodes f) (count.attrs f)
      unfolding answer_of
      counts_it =
          left.0 ∙ ap answer_of read_is
          ∙ ap₂ tree_with (nodes-counted s read.0 ∙ ap count.nodes read.5) (attrs-counted s read.0 ∙ ap count.attrs read.5)

      holds_read : HoldsTree s (tables T U Z) (tables t u w) f (read_forest s read.0)
      unfolding nodes_of attr_cells read_out strings_of
      holds_read =
          let g : placed.Forest = read.0 in
          let order : InOrder 0 (spans g) (length s) = meaning-placed s (length T) (length U) g read.1 read.2 read.3 read.4 in
          let room : length s ≤ length Z = omega (arith, fits.short, d.readable.long_enough.of_strings) in
          let laid : w ≡ lay (replicate (length Z) 0) (strings s g) = left.1.1.1 ∙ ap (strings_of (length Z) s) read_is in
          record {
            node-rows =
                left.1.0 ∙ ap (λ o. nodes_of (length T) (read_out s o)) read_is
                ∙ ap (λ k. rows 0 0 (read_forest s g) ++ replicate (length T - k) 0) (sym (length_rows (read_forest s g) 0 0));
            attr-rows =
                left.1.1.0 ∙ ap (λ o. attr_cells (length U) (read_out s o)) read_is
                ∙ ap (λ k. attr_rows (attrs_of (read_forest s g)) ++ replicate (length U - k) 0) (sym (length_attr_rows (attrs_of (read_forest s g))));
            shown = ap (λ y. tree_in y (read_forest s g)) laid ∙ tree-shown s g 0 (length Z) order room ∙ ap (decode_forest decoded) read.5;
            in_order = order_read s g 0 (length s) order;
            elsewhere =
                λ i h. ap (λ y. get_or y i 0) laid ∙ laid-outside i (strings s g) (replicate (length Z) 0) (forest_apart s i g h)
                ∙ zero_at (length Z) i;
            as_long = ap length laid ∙ lay-length (strings s g) (replicate (length Z) 0) ∙ length-replicate {A = ℕ} (length Z) 0;
          }

    taken-only : (a : Result TreeSize Refusal) → r ≡ a → number_of a ≡ 0 → (f : Forest) × Takes s (tables T U Z) f
    unfolding number_of
    taken-only (Ok t) e h =
        let g = (answers_tree s (length T) (length U) (length Z)).0 (t.nodes, t.attrs, sym left.0 ∙ e) in
        let y = taken-fits s (length T) (length U) (length Z) g.0 g.1 in
        let d = (takes_exactly s (length T) (length U) (length Z) y.0 y.1).0 g in
        (d.0, record { readable = readable_of y.0 y.1; derives = d.1 })
    taken-only (Err x) e h =
        let y = (answers_refused s (length T) (length U) (length Z) x.number x.place).0 (sym left.0 ∙ e) in
        absurd (omega (arith, h, away_some (is-away x.number x.place y)))

    emptied : 0 < number_of r → AllZero (tables T U Z) (tables t u w)
    unfolding nodes_of attr_cells read_out strings_of
    emptied h =
        let x = bad-out (raw s (length T) (length U) (length Z)) (rw left.0 at h) in
        record {
          of_nodes = left.1.0 ∙ ap (λ o. nodes_of (length T) (read_out s o)) x.2;
          of_attrs = left.1.1.0 ∙ ap (λ o. attr_cells (length U) (read_out s o)) x.2;
          of_strings = left.1.1.1 ∙ ap (strings_of (length Z) s) x.2;
        }

    pub parsed-of : Parsed s (tables T U Z) r (tables t u w)
    unfolding number_of place_of
    parsed-of = record {
      taken = (
        (λ e. taken-only r refl e.0),
        (λ x. let e = counts_it x.0 x.1 in (ap number_of e, ap place_of e)),
      );
      counts = λ f d. ap values_of (counts_it f d);
      tree = λ f d. subst (HoldsTree s (tables T U Z) (tables t u w) f) (where_is f d) (holds_read f d);
      refused = λ n p h. (
        (λ e. is-away n p ((answers_refused s (length T) (length U) (length Z) n p).0 (sym left.0 ∙ refused_as r n p h e))),
        (λ a. let e = left.0 ∙ (answers_refused s (length T) (length U) (length Z) n p).1 (away_is a) in (ap number_of e, ap place_of e)),
      );
      cleared = emptied;
    }
