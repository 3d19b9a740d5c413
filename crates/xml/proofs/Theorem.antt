-- The theorem of the crate: of every text within the limits 1 to 3, what `parse_xml` leaves shows the tree that the grammar derives, with its
-- entities read; or it refuses with the first number that the text meets. Assumes nothing.
--     parsed, parsed-is              what the tables show is what the grammar's reader answers
--     takes_exactly, gives-that_tree, refuses_exactly   the demand; parsed-derived: of a text that derives a tree, it shows that tree
--     small_strings, small_nodes, small_attrs, too_long, not_utf8   the numbers 1 to 3, in this order; taken-fits: a text that is taken meets none
--     answers_tree, answers_refused  the program's answer tells which it is
use Rattle.std.specs.Prelude.{Err}
use Prim.Native.Nat.{ℕ, ◌≤◌, ◌<◌}
use mathlib.Core.Path.{◌≡◌, refl, sym, ap, ap₂, ◌∙◌}
use mathlib.Core.Bool.{Bool, true, false}
use mathlib.Core.Logic.{◌↔◌}
use mathlib.Core.List.{List}
use native.Mathlib.Omega.{arith}
use lib.ListN.{length}
use lib.Dec.{ltb}
use borrow.Author.Tests.{ltb-true, ltb-false}
use Rattle.entities.specs.Decode.{decoded}
use Rattle.tree.specs.Trees as placed
use Rattle.tree.specs.Trees.{spans, InOrder}
use Rattle.tree.specs.Read.{Out, got, nothing, bad, meaning, answer_of}
use Rattle.tree.specs.declared.answers.Refusal.{Refusal}
use Rattle.utf8.specs.Utf8.{utf8_end}
use Rattle.tree.specs.Posts.{Fits}
use Rattle.tree.proofs.Places.{meaning-placed}
use Rattle.tree.proofs.Whole as whole
use Rattle.grammar.specs.Tree.{Forest}
use Rattle.grammar.specs.Demand.{Result, tree, refused, Derives, decode_forest}
use Rattle.grammar.specs.Refusals.{FirstMet}
use Rattle.grammar.proofs.Counted.{decode_result, tree_reader}
use Rattle.grammar.proofs.Theorem as grammar
use Rattle.derivation.specs.Steps.{result_in}
use Rattle.derivation.proofs.Agree.{agree}
use Rattle.xml.specs.Steps.{raw, read_out, strings_of}
use Rattle.xml.proofs.Parsing.{raw-small, raw-enough}
use Rattle.xml.proofs.Shown.{tree-shown}
use Rattle.tree.specs.Answers.{tree_with}

-- what the table of strings and the placed forest show: a tree, or a number and its place
abbrev pub parsed : List ℕ → ℕ → ℕ → ℕ → Result
parsed s n m z = result_in (strings_of z s (raw s n m z)) (read_out s (raw s n m z))

-- the same, of a reader's answer
shows : (s : List ℕ) (z : ℕ) → length s ≤ z → (o : Out) → ((f : placed.Forest) (q k a : ℕ) → o ≡ got f q k a → InOrder 0 (spans f) (length s))
    → result_in (strings_of z s o) (read_out s o) ≡ decode_result decoded (result_in s o)
unfolding result_in strings_of read_out decode_forest
shows s z h (got f q k a) i = ap tree (tree-shown s f 0 z (i f q k a refl) h)
shows s z h (nothing q) i = refl
shows s z h (bad n p) i = refl

-- ---- a tree or a refusal, in each of the three
module _ (s : List ℕ) (z : ℕ) where
  there : (o : Out) (i j : ℕ) → answer_of o ≡ tree_with i j → (g : Forest) × (result_in (strings_of z s o) (read_out s o) ≡ tree g)
  unfolding answer_of result_in read_out
  there (got f q k a) i j e = (_, refl)
  there (nothing q) i j e = (_, refl)
  there (bad n p) i j e = let d : ◌≡◌ {A = ℕ} 0 1 = cc in absurd (omega arith)

  back : (o : Out) (g : Forest) → result_in (strings_of z s o) (read_out s o) ≡ tree g → (i : ℕ) × (j : ℕ) × (answer_of o ≡ tree_with i j)
  unfolding answer_of result_in read_out
  back (got f q k a) g e = (_, _, refl)
  back (nothing q) g e = (_, _, refl)
  back (bad n p) g e = let d : ◌≡◌ {A = ℕ} 0 1 = cc in absurd (omega arith)

  refused-there : (o : Out) (i p : ℕ) → answer_of o ≡ Err (record { number = i; place = p }) → result_in (strings_of z s o) (read_out s o)
      ≡ refused i p
  unfolding answer_of result_in read_out
  refused-there (got f q k a) i p e = let d : ◌≡◌ {A = ℕ} 0 1 = cc in absurd (omega arith)
  refused-there (nothing q) i p e = let d : ◌≡◌ {A = ℕ} 0 1 = cc in absurd (omega arith)
  refused-there (bad n r) i p e =
      let w : ◌≡◌ {A = Refusal} (record { number = n; place = r }) (record { number = i; place = p }) = cc in
      ap₂ refused (ap (λ (x : Refusal). x.number) w) (ap (λ (x : Refusal). x.place) w)

  refused-back : (o : Out) (i p : ℕ) → result_in (strings_of z s o) (read_out s o) ≡ refused i p → answer_of o
      ≡ Err (record { number = i; place = p })
  unfolding answer_of result_in read_out
  refused-back (got f q k a) i p e = let d : ◌≡◌ {A = ℕ} 0 1 = cc in absurd (omega arith)
  refused-back (nothing q) i p e = let d : ◌≡◌ {A = ℕ} 0 1 = cc in absurd (omega arith)
  refused-back (bad n r) i p e =
      let a : n ≡ i = cc in
      let b : r ≡ p = cc in
      rw (a, b)

module _ (s : List ℕ) (n m z : ℕ) where
  -- ---- within the limits 1 to 3
  module _ (fits : Fits s n m) (enough : 65536 ≤ z) where
    pub parsed-is : parsed s n m z ≡ tree_reader decoded s
    unfolding tree_reader
    parsed-is =
        rw (raw-enough s n m z enough)
        (shows s z (omega (arith, fits.short)) (meaning s n m) (λ f q k a. meaning-placed s n m f q k a)
        ∙ ap (decode_result decoded) (agree s n m fits))

    -- it is taken exactly when the grammar derives a tree for it within the limits
    pub takes_exactly : ((g : Forest) × (parsed s n m z ≡ tree g)) ↔ ((f : Forest) × Derives s f)
    takes_exactly =
        let t = grammar.takes_exactly decoded s in
        ((λ x. t.0 (x.0, sym parsed-is ∙ x.1)), (λ x. let y = t.1 x in (y.0, parsed-is ∙ y.1)))

    -- the tree given is that tree with its entities read
    pub gives-that_tree : (f g : Forest) → Derives s f → parsed s n m z ≡ tree g → g ≡ decode_forest decoded f
    gives-that_tree f g d e = grammar.gives-that_tree decoded s f g d (sym parsed-is ∙ e)

    pub parsed-derived : (f : Forest) → Derives s f → parsed s n m z ≡ tree (decode_forest decoded f)
    parsed-derived f d = let x = takes_exactly.1 (f, d) in x.1 ∙ ap tree (gives-that_tree f x.0 d x.1)

    -- the number answered is the first that is met
    pub refuses_exactly : (i p : ℕ) → (parsed s n m z ≡ refused i p) ↔ FirstMet 64 8192 8192 s i p
    refuses_exactly i p =
        let r = grammar.refuses_exactly decoded s i p fits.short in
        ((λ x. r.0 (sym parsed-is ∙ x)), (λ x. parsed-is ∙ r.1 x))

  -- ---- numbers 1 to 3
  turned-away : (i p : ℕ) → raw s n m z ≡ bad i p → parsed s n m z ≡ refused i p
  unfolding result_in read_out
  turned-away i p e = rw e

  pub small_strings : z < 65536 → parsed s n m z ≡ refused 1 0
  small_strings h = turned-away 1 0 (raw-small s n m z h)

  module _ (enough : 65536 ≤ z) where
    pub small_nodes : n < 49152 → parsed s n m z ≡ refused 1 0
    small_nodes h = turned-away 1 0 (raw-enough s n m z enough ∙ whole.no_nodes s n m h)

    pub small_attrs : 49152 ≤ n → m < 32768 → parsed s n m z ≡ refused 1 0
    small_attrs h g = turned-away 1 0 (raw-enough s n m z enough ∙ whole.no_attrs s n m h g)

    pub too_long : 49152 ≤ n → 32768 ≤ m → 65536 < length s → parsed s n m z ≡ refused 2 0
    too_long h g l = turned-away 2 0 (raw-enough s n m z enough ∙ whole.too_long s n m h g l)

    pub not_utf8 : 49152 ≤ n → 32768 ≤ m → length s ≤ 65536 → utf8_end s < length s → parsed s n m z ≡ refused 3 (utf8_end s)
    not_utf8 h g l b = turned-away 3 (utf8_end s) (raw-enough s n m z enough ∙ whole.not_utf8 s n m (utf8_end s) h g l refl b)

  -- a text that is taken meets none of the three
  pub taken-fits : (g : Forest) → parsed s n m z ≡ tree g → Fits s n m × (65536 ≤ z)
  taken-fits g e = by (ltb z 65536) (ltb n 49152) (ltb m 32768) (ltb 65536 (length s)) (ltb (utf8_end s) (length s)) refl refl refl refl refl
    where
      no : {A : Type 0} (i p : ℕ) → parsed s n m z ≡ refused i p → A
      no i p x = let d : ◌≡◌ {A = ℕ} 0 1 = cc in absurd (omega arith)

      by : (a b c d k : Bool) → ltb z 65536 ≡ a → ltb n 49152 ≡ b → ltb m 32768 ≡ c → ltb 65536 (length s) ≡ d → ltb (utf8_end s) (length s) ≡ k
          → Fits s n m × (65536 ≤ z)
      by true b c d k v w x y u = no 1 0 (small_strings (ltb-true z 65536 v))
      by false true c d k v w x y u = no 1 0 (small_nodes (ltb-false z 65536 v) (ltb-true n 49152 w))
      by false false true d k v w x y u = no 1 0 (small_attrs (ltb-false z 65536 v) (ltb-false n 49152 w) (ltb-true m 32768 x))
      by false false false true k v w x y u =
          no 2 0 (too_long (ltb-false z 65536 v) (ltb-false n 49152 w) (ltb-false m 32768 x) (ltb-true 65536 (length s) y))
      by false false false false true v w x y u =
          no 3 (utf8_end s) (not_utf8 (ltb-false z 65536 v) (ltb-false n 49152 w) (ltb-false m 32768 x) (ltb-false 65536 (length s) y)
          (ltb-true (utf8_end s) (length s) u))
      by false false false false false v w x y u = (
        record {
          long = ltb-false n 49152 w;
          wide = ltb-false m 32768 x;
          short = ltb-false 65536 (length s) y;
          valid = ltb-false (utf8_end s) (length s) u;
        },
        ltb-false z 65536 v,
      )

  -- ---- the answer
  pub answers_tree : ((i : ℕ) × (j : ℕ) × (answer_of (raw s n m z) ≡ tree_with i j)) ↔ ((g : Forest) × (parsed s n m z ≡ tree g))
  answers_tree = ((λ x. there s z (raw s n m z) x.0 x.1 x.2), (λ x. back s z (raw s n m z) x.0 x.1))

  pub answers_refused : (i p : ℕ) → (answer_of (raw s n m z) ≡ Err (record { number = i; place = p })) ↔ (parsed s n m z ≡ refused i p)
  answers_refused i p = (refused-there s z (raw s n m z) i p, refused-back s z (raw s n m z) i p)
