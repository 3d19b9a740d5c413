-- From what a text means, computed (`meaning/specs/Texts`), to what `parse` and `bytes_to_cue` answer and leave. Assumes nothing.
--     case_taken, case_away         the text is taken, or turned away
--     parsed-case, cue_case         so the answer is a track, and the tables mean it
--     parsed-refused, cue_refused   or it is that number and place
use Rattle.std.specs.Prelude.{Result, Ok, ⊤}
use Prim.Native.Nat.{ℕ, ◌≤◌}
use mathlib.Core.Path.{◌≡◌, refl, sym, ap, ◌∙◌}
use mathlib.Core.List.{List}
use mathlib.Core.Option.{some}
use native.Mathlib.Omega.{arith}
use lib.ListN.{length, drop}
use Rattle.utf8.specs.Utf8.{utf8_end}
use Rattle.utf8.proofs.Utf8Laws.{end_utf8}
use Rattle.grammar.specs.Tree.{Forest}
use Rattle.grammar.proofs.CountedRounds.{nodes_c}
use Rattle.tree.specs.Trees as placed
use Rattle.tree.specs.Read.{Out, got, nothing, bad, prolog_end}
use Rattle.tree.specs.Read as read
use Rattle.tree.specs.Posts.{Fits}
use Rattle.derivation.specs.Strings.{tree_in}
use Rattle.derivation.proofs.Rows.{Same}
use Rattle.derivation.proofs.Agree.{whole_same}
use Rattle.derivation.proofs.Theorem.{gives-exactly, refuses_exactly}
use Rattle.track.specs.Track.{Bytes, Cue, Track}
use Rattle.track.specs.Meaning.{track_in}
use Rattle.track.specs.Layout.{each}
use Rattle.xml.specs.Reading.{Placed}
use Rattle.xml.specs.Promise as xml
use Rattle.xml.proofs.Derived.{placed_as_derived}
use Rattle.meaning.specs.Answers.{Answer, is, refused, ◌>>=◌, answered}
use Rattle.meaning.specs.Nodes.{Nodes}
use Rattle.meaning.specs.Tracks.{track_by, cue_by}
use Rattle.meaning.specs.Kinds.{with_places}
use Rattle.meaning.specs.Meaning.{track_of, cue_of}
use Rattle.meaning.specs.Texts.{nodes_read}
use Rattle.meaning.specs.Steps.{nodes_from, nodes_of_text, parsed, cue_parsed}
use Rattle.meaning.proofs.Erasing.{bytes_of}
use Rattle.laid.specs.Laid.{whole, alone, single}
use Rattle.laid.proofs.Meant.{good_whole, good_single}
use Rattle.promised.specs.Promise.{Says, Tables, tree_tables, LongEnough, nodes_of, Takes, TurnsAway, no_tree, no_track, Parsed, CueParsed}
use Rattle.promised.proofs.Numbers.{whole_numbers, single-numbers}
use Rattle.promised.proofs.Promises.{some_number}
use Rattle.promised.proofs.Meaning.{left_means}
use Rattle.tree.specs.declared.answers.Refusal.{Refusal}

alone-bytes : (c : Cue Placed) → track_by bytes_of (alone c) ≡ alone (cue_by bytes_of c)
unfolding alone track_by each
alone-bytes c = refl

module _ (s : List ℕ) (lent : Tables) (long : LongEnough lent) (short : length s ≤ 65536) (valid : utf8_end s ≡ length s) where
  fits : Fits s 49152 32768
  fits = record { long = omega arith; wide = omega arith; short = short; valid = omega (arith, valid) }

  readable : xml.Readable s (tree_tables lent)
  readable = record { long_enough = long.of_tree; short = short; valid = end_utf8 s valid }

  -- the reader by places reads a tree, or meets a number
  no_nothing : (o : Out) (q : ℕ) → o ≡ nothing q → Same s (prolog_end s) o (nodes_c 64 8192 8192 (drop (prolog_end s) s)) → ⊥
  no_nothing o q e t = rw e at t

  module _ (g : placed.Forest) (q k a : ℕ) (e : read.meaning s 49152 32768 ≡ got g q k a) where
    tree : xml.Takes s (tree_tables lent) (tree_in s g)
    tree = record { readable = readable; derives = (gives-exactly s 49152 32768 fits (tree_in s g)).0 (g, q, k, a, e, refl) }

    nodes-are : nodes_read s g ≡ nodes_of tree.derives.derived
    nodes-are = ap (nodes_read s) (placed_as_derived tree.derives.derived 49152 32768 fits g q k a e)

  module _ (meant : Nodes Placed → Answer (Track Placed)) where
    pub case_taken : {t : Track Placed} → (nodes_of_text s >>= meant) ≡ is t → (f : Forest) × Takes meant s lent f t
    unfolding nodes_of_text
    case_taken {t} = by (read.meaning s 49152 32768) refl
      where
        by : (o : Out) → read.meaning s 49152 32768 ≡ o → (nodes_from s o >>= meant) ≡ is t → (f : Forest) × Takes meant s lent f t
        by (got g q k a) w e =
            (tree_in s g, record { long_enough = long; tree = tree g q k a w; means = ap meant (sym (nodes-are g q k a w)) ∙ e })
        by (nothing q) w e = absurd (no_nothing (read.meaning s 49152 32768) q w (whole_same s 49152 32768 fits))
        by (bad i p) w e = absurd (let z : ◌≡◌ {A = ℕ} 0 1 = cc in omega arith)

    pub case_away : {n p : ℕ} → (nodes_of_text s >>= meant) ≡ refused n p → TurnsAway meant s lent n p
    unfolding nodes_of_text
    case_away {n} {p} = by (read.meaning s 49152 32768) refl
      where
        by : (o : Out) → read.meaning s 49152 32768 ≡ o → (nodes_from s o >>= meant) ≡ refused n p → TurnsAway meant s lent n p
        by (got g q k a) w e = no_track long (tree g q k a w) (ap meant (sym (nodes-are g q k a w)) ∙ e)
        by (nothing q) w e = absurd (no_nothing (read.meaning s 49152 32768) q w (whole_same s 49152 32768 fits))
        by (bad i j) w e =
            let a : i ≡ n = cc in
            let b : j ≡ p = cc in
            let x : TurnsAway meant s lent i j = no_tree long (xml.first-met readable ((refuses_exactly s 49152 32768 fits i j).0 w)) in
            rw (a, b) at x

  -- ---- the calls
  taken-bytes : {A B : Type 0} (h : A → B) {b : B} (m : Answer A) → answered h m ≡ is b → (a : A) × (m ≡ is a) × (h a ≡ b)
  taken-bytes h (is a) e = (a, refl, cc)
  taken-bytes h (refused n p) e = absurd (let z : ◌≡◌ {A = ℕ} 0 1 = cc in omega arith)

  refused-bytes : {A B : Type 0} (h : A → B) {n p : ℕ} (m : Answer A) → answered h m ≡ refused n p → m ≡ refused n p
  refused-bytes h (is a) e = absurd (let z : ◌≡◌ {A = ℕ} 0 1 = cc in omega arith)
  refused-bytes h {n} {p} (refused i q) e =
      let a : i ≡ n = cc in
      let b : q ≡ p = cc in
      rw (a, b)

  -- the single cue as a track
  cue_then : (m : Answer (Nodes Placed)) → (m >>= single) ≡ answered alone (m >>= cue_of with_places)
  cue_then (is f) = refl
  cue_then (refused n p) = refl

  module _ {answer : Result ⊤ Refusal} {left : Tables} where
    pub parsed-case : Parsed s lent answer left → {b : Track Bytes} → parsed s ≡ is b
        → (answer ≡ (Ok tt)) × (track_in left.track ≡ some b)
    unfolding parsed
    parsed-case p e =
        let x = taken-bytes (track_by bytes_of) (nodes_of_text s >>= track_of with_places) e in
        let w = case_taken whole x.1 in
        (p.taken.1 (w.0, x.0, w.1), left_means whole good_whole p w.1 ∙ ap some x.2)

    pub parsed-refused : Parsed s lent answer left → {n q : ℕ} → parsed s ≡ refused n q → Says answer n q
    unfolding parsed
    parsed-refused p {n} {q} e =
        let a = case_away whole (refused-bytes (track_by bytes_of) (nodes_of_text s >>= track_of with_places) e) in
        (p.refused n q (some_number whole whole_numbers s lent a)).1 a

    pub cue_case : CueParsed s lent answer left → {c : Cue Bytes} → cue_parsed s ≡ is c
        → (answer ≡ (Ok tt)) × (track_in left.track ≡ some (alone c))
    unfolding cue_parsed
    cue_case p e =
        let x = taken-bytes (cue_by bytes_of) (nodes_of_text s >>= cue_of with_places) e in
        let w = case_taken single (cue_then (nodes_of_text s) ∙ ap (answered alone) x.1) in
        (p.taken.1 (w.0, alone x.0, w.1), left_means single good_single p w.1 ∙ ap some (alone-bytes x.0 ∙ ap alone x.2))

    pub cue_refused : CueParsed s lent answer left → {n q : ℕ} → cue_parsed s ≡ refused n q → Says answer n q
    unfolding cue_parsed
    cue_refused p {n} {q} e =
        let r = refused-bytes (cue_by bytes_of) (nodes_of_text s >>= cue_of with_places) e in
        let a = case_away single (cue_then (nodes_of_text s) ∙ ap (answered alone) r) in
        (p.refused n q (some_number single single-numbers s lent a)).1 a
