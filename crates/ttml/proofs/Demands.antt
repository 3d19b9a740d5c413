-- The demands hold. Assumes nothing.
use Rattle.queries.specs.Reply.{Reply}
use Rattle.std.specs.Prelude.{Result, Ok, Err, ⊤}
use Prim.Native.Nat.{ℕ, zero, suc, ◌+◌, ◌-◌, ◌*◌, ◌≤◌, ◌<◌}
use mathlib.Core.Path.{◌≡◌, refl, sym, ap, subst, ◌∙◌}
use mathlib.Core.Bool.{true, false}
use mathlib.Core.List.{List, [], ◌∷◌, ◌++◌}
use mathlib.Core.Option.{Option, none, some}
use mathlib.Core.Logic.{◌↔◌, ◌⊎◌, inl, inr}
use native.Mathlib.Omega.{arith}
use lib.Dec.{leb}
use lib.Ieee.{Float}
use lib.ListN.{length, take, replicate}
use lib.Seq.{sets}
use native.Mathlib.Nat.{sub-zero}
use borrow.Author.Tests.{le-leb, leb-true, leb-false}
use Rattle.utf8.specs.Utf8.{Utf8}
use Rattle.scan.proofs.Every.{by-test}
use Rattle.utf8.proofs.Utf8Laws.{utf8-end}
use Rattle.grammar.specs.Tree.{Forest}
use Rattle.grammar.specs.Demand.{Derives}
use Rattle.grammar.specs.Refusals.{Meets, too_deep, too_many_nodes, no_tag_name, too_many_attributes, slash, no_value, end_in_tag, open_close_tag}
use Rattle.grammar.proofs.Theorem as grammar
use Rattle.tree.specs.declared.answers.Refusal as tree-refusal
use Rattle.tree.specs.Posts.{Fits}
use Rattle.times.proofs.Ways as ways
use Rattle.track.specs.Track.{Bytes, Cue, Track}
use Rattle.track.specs.Tables as track
use Rattle.track.specs.Tables.{zero_float}
use Rattle.track.specs.Meaning.{is_track, cue_in, track_at, track_in}
use Rattle.track.specs.Plain.{is_plain_track}
use Rattle.track.specs.Check.{Checked}
use Rattle.track.proofs.Exactly as check
use Rattle.xml.specs.Promise as xml
use Rattle.xml.proofs.Determined as tree
use Rattle.meaning.specs.Answers.{Answer, is, refused, answered}
use Rattle.laid.specs.Laid.{alone}
use Rattle.meaning.specs.Steps.{parsed, cue_parsed}
use Rattle.meaning.proofs.Theorem.{placeless, track_means, cue_means}
use Rattle.written.specs.Written.{written_of, cue_written}
use Rattle.written.specs.Shape.{tree_of}
use Rattle.written.proofs.Theorem.{derives, decoded-tree}
use Rattle.written.proofs.Handed.{names-fit}
use Rattle.readback.specs.Steps.{CuesPlain}
use Rattle.readback.proofs.CheckedCues.{cues_checked, cues_plain}
use Rattle.readback.proofs.Theorem.{read_back}
use Rattle.promised.specs.Promise.{Tables, Parsed, CueParsed}
use Rattle.promised.proofs.Determined.{zero_same}
use Rattle.promised.proofs.Theorem.{parsed-determined, cue_determined, parsed-track, cue_track}
use Rattle.promised.proofs.Cases.{parsed-case, cue_case}
use Rattle.writer.specs.Promise.{Answers, Promise, Outcome, gives, meets, Comes, short_table, no_track, of_track, fits, within, whole_text, number_in, count_in}
use Rattle.writer.specs.Promise.{place_in, text_in_of}
use Rattle.writer.specs.Promise.{number_of, place_of, bytes_of, cue_numbered, cue_number}
use Rattle.writer.proofs.Promised as writing
use Rattle.walk.specs.Text.{text_of}
use Rattle.spoken.specs.Promise.{PlainText, of_track_of, HasCue, says}
use Rattle.spoken.specs.Promise as spoken
use Rattle.spoken.proofs.Promised as speaking
use Rattle.spoken.proofs.Theorem.{track_long, cues_are, row-there, cue_past}
use Rattle.queries.specs.declared.query.Resolved.{Resolved}
use Rattle.styles.specs.Own as styles
use Rattle.styles.specs.Resolve.{Resolution, resolve}
use Rattle.styles.specs.Listing.{InOrder}
use Rattle.styles.specs.Queries.{nth}
use Rattle.styles.specs.Reaches.{Exactly}
use Rattle.styles.specs.Ids.{ids_in}
use Rattle.styles.proofs.Members.{same_count}
use Rattle.styles.proofs.Theorem.{resolve-answers}
use Rattle.styles.proofs.Listing.{lists_only}
use Rattle.queries.specs.Promise.{style_in, count_of, Query, of_value, of_region, of_cue_of, TooMany, Askable, own-size, own-color, too_many}
use Rattle.queries.specs.Promise.{Takes, Gives, Queried}
use Rattle.queries.specs.Promise as query-promise
use Rattle.queries.proofs.OwnNumbers.{region_refused, cue_refused}
use Rattle.queries.proofs.Reaching.{region_exactly, cue_exactly}
use Rattle.queries.proofs.Determined as query
use Rattle.told.specs.Told.{told, tree_told, check_told, Tells}
use Rattle.told.specs.Trees.{count_cells, ReadInC}
use Rattle.told.specs.Queries.{ToldAs, NoRoom}
use Rattle.rewritten.specs.Recaption.{ThenWritten, Recaptioned}
use Rattle.ttml.specs.declared.back.NotBack.{NotBack}
use Rattle.ttml.specs.ReadBack.{Back, Signed, Went}
use Rattle.ttml.specs.ReadBack as returning
use Rattle.ttml.specs.Demands.{Determined, DeterminedBoth, QueryInC, Demand1, means_track, means_cue, HasRoom, Leaves}
use Rattle.ttml.specs.Demands.{Demand2, Demand3, RequestD, RequestK, Demands}
use Rattle.tree.specs.declared.answers.Refusal.{Refusal}
use Rattle.tree.specs.declared.answers.TreeSize.{TreeSize}

-- ---- 1

-- what is told of an answer that is determined
tells : {A L : Type 0} (tell : A → ℕ) (P : A → L → Type 0) → Determined P → Determined (λ (r : ℕ) (left : L). Tells tell (λ a. P a left) r)
tells tell P d r s a b p q =
    let e = d p.answer q.answer a b p.promised q.promised in
    (p.is ∙ (ap tell e.0 ∙ sym q.is), e.1)

tables-same : {a b : xml.Tables} → a.nodes ≡ b.nodes → a.attrs ≡ b.attrs → a.strings ≡ b.strings → a ≡ b
tables-same {a} {b} n m z =
    ap (λ (x : List ℕ). xml.tables x a.attrs a.strings) n
    ∙ ap (λ (x : List ℕ). xml.tables b.nodes x a.strings) m
    ∙ ap (λ (x : List ℕ). xml.tables b.nodes b.attrs x) z

module _ (text : Bytes) (lent : xml.Tables) (counts : List ℕ) where
  tree-in_C : DeterminedBoth (λ (r : ℕ) left counted. ReadInC text lent counts left counted r)
  tree-in_C r s a b c d p q = by-test (leb 2 (length counts)) long short
    where
      long : leb 2 (length counts) ≡ true → (r ≡ s) × (a ≡ b) × (c ≡ d)
      long t =
          let x = p.reads (leb-true 2 (length counts) t) in
          let y = q.reads (leb-true 2 (length counts) t) in
          let e = tree.determined x.promised.0 y.promised.0 in (
            x.is ∙ (ap tree_told e.0 ∙ sym y.is),
            e.1,
            x.promised.1 ∙ (ap (λ (o : Result TreeSize Refusal). sets (replicate (length counts) 0) 0 (count_cells o)) e.0 ∙ sym y.promised.1),
          )

      short : leb 2 (length counts) ≡ false → (r ≡ s) × (a ≡ b) × (c ≡ d)
      short t =
          let x = p.short (leb-false 2 (length counts) t) in
          let y = q.short (leb-false 2 (length counts) t) in (
            x.0 ∙ sym y.0,
            tables-same (x.1.of_nodes ∙ sym y.1.of_nodes) (x.1.of_attrs ∙ sym y.1.of_attrs) (x.1.of_strings ∙ sym y.1.of_strings),
            x.2 ∙ sym y.2,
          )

-- an answer to a query, as it stands in its cells
told_same : (w : Reply) (o c d : List ℕ) (z x y : List Float) (n m : ℕ) → ToldAs w o c z x n → ToldAs w o d z y m
    → (n ≡ m) × (c ≡ d) × (x ≡ y)
told_same (Ok (Resolved.Style a)) o c d z x y n m p q = (p.0 ∙ sym q.0, p.1.cells ∙ sym q.1.cells, p.1.float ∙ sym q.1.float)
told_same (Ok (Resolved.NoStyle k)) o c d z x y n m p q = (p.0 ∙ sym q.0, p.1.cells ∙ sym q.1.cells, p.1.float ∙ sym q.1.float)
told_same (Err k) o c d z x y n m p q = (p.0 ∙ sym q.0, p.1.cells ∙ sym q.1.cells, p.1.float ∙ sym q.1.float)

pair_same : {A B : Type 0} (c d : A × B) → c.0 ≡ d.0 → c.1 ≡ d.1 → c ≡ d
pair_same (a, b) (x, y) e f = rw (e, f) refl

module _ (promise : Reply → List ℕ → Type 0) (lent : List ℕ) (det : Determined promise) where
  query_in_C : QueryInC promise lent
  query_in_C out size r s a b c d p q =
      by-test (leb 27 (length out)) (λ t. by-test (leb 1 (length size)) (roomy t) (λ u. bare (p.no_float (leb-false 1 _ u)) (q.no_float (leb-false 1 _ u))))
      (λ t. bare (p.no_cells (leb-false 27 _ t)) (q.no_cells (leb-false 27 _ t)))
    where
      Same : Type 0
      Same = (r ≡ s) × (a ≡ b) × (c ≡ d)

      bare : NoRoom lent a out c.0 size c.1 r → NoRoom lent b out d.0 size d.1 s → Same
      bare f g = (f.is ∙ sym g.is, f.ids ∙ sym g.ids, pair_same c d (f.cells ∙ sym g.cells) (f.floats ∙ sym g.floats))

      roomy : leb 27 (length out) ≡ true → leb 1 (length size) ≡ true → Same
      roomy t u =
          let f = p.room (leb-true 27 _ t) (leb-true 1 _ u) in
          let g = q.room (leb-true 27 _ t) (leb-true 1 _ u) in
          let e = det f.answer g.answer a b f.promised g.promised in
          let o : List ℕ = replicate (length out) 0 in
          let z : List Float = replicate (length size) zero_float in
          let h = subst (λ (w : Reply). ToldAs w o d.0 z d.1 g.number) (sym e.0) g.stands in
          let k = told_same f.answer o c.0 d.0 z c.1 d.1 f.number g.number f.stands h in (
            f.is ∙ (ap (λ (n : ℕ). told n 0) k.0 ∙ sym g.is),
            e.1,
            pair_same c d k.1 k.2,
          )

-- a text read and written anew
then_same : (u : Result ⊤ Refusal) (T : track.Tables) (out : Bytes) (x y : Result ℕ Refusal) (c d : Bytes) → ThenWritten u T out x c
    → ThenWritten u T out y d → (x ≡ y) × (c ≡ d)
then_same (Ok tt) T out x y c d p q = writing.determined whole_text T out x y c d p q
then_same (Err r) T out x y c d p q = (p.0 ∙ sym q.0, p.1 ∙ sym q.1)

recaptioned : (text : Bytes) (lent : Tables) (out : Bytes) → DeterminedBoth (Recaptioned text lent out)
recaptioned text lent out x y a b c d p q =
    let e = parsed-determined p.read q.read in
    let v = subst (λ (u : Result ⊤ Refusal). ThenWritten u b.track out y d) (sym e.0) q.writes in
    let w = subst (λ (T : Tables). ThenWritten p.reading T.track out y d) (sym e.1) v in
    let k = then_same p.reading a.track out x y c d p.writes w in
    (k.0, e.1, k.1)

-- a track written and read back
module _ (T : track.Tables) (out : Bytes) (lent : Tables) where
  written_same : {x y : Result ℕ Refusal} {a b : Bytes} → Promise whole_text T out x a → Promise whole_text T out y b → (x ≡ y) × (a ≡ b)
  written_same {x} {y} {a} {b} p q = writing.determined whole_text T out x y a b p q

  no_both : {n : ℕ} {r : tree-refusal.Refusal} {A : Type 0} → Ok n ≡ Err r → A
  no_both e = absurd (let z : ◌≡◌ {A = ℕ} 0 1 = cc in omega arith)

  read_same : {n m : ℕ} {a b : Bytes} {u v : Result ⊤ Refusal} {c d : Tables} → ◌≡◌ {A = Result ℕ tree-refusal.Refusal} (Ok n) (Ok m) → a ≡ b
      → Parsed (take n a) lent u c → Parsed (take m b) lent v d → (n ≡ m) × (u ≡ v) × (c ≡ d)
  read_same {n} {m} {a} {b} {u} {v} {c} {d} e f p q =
      let k : n ≡ m = cc in
      let w : take n a ≡ take m b = rw (k, f) refl in
      let h = parsed-determined (subst (λ (z : Bytes). Parsed z lent u c) w p) q in
      (k, h.0, h.1)

  went : DeterminedBoth (λ answer written left. Went T out lent answer (returning.bytes_of answer) written left)
  went (Ok n) (Ok m) a b c d p q =
      let e = written_same p.0 q.0 in
      let k = read_same e.0 e.1 p.1 q.1 in
      (ap Ok k.0, e.1, k.2)
  went (Ok n) (Err (NotBack.Unread m s)) a b c d p q =
      let e = written_same p.0 q.0 in
      let k = read_same e.0 e.1 p.1 q.1 in
      absurd (let g : ◌≡◌ {A = Result ⊤ tree-refusal.Refusal} (Ok tt) (Err s) = k.1 in let z : ◌≡◌ {A = ℕ} 0 1 = cc in omega arith)
  went (Ok n) (Err (NotBack.Unwritten s)) a b c d p q = no_both (written_same p.0 q.0).0
  went (Err (NotBack.Unread n r)) (Ok m) a b c d p q =
      let e = written_same p.0 q.0 in
      let k = read_same e.0 e.1 p.1 q.1 in
      absurd (let g : ◌≡◌ {A = Result ⊤ tree-refusal.Refusal} (Err r) (Ok tt) = k.1 in let z : ◌≡◌ {A = ℕ} 0 1 = cc in omega arith)
  went (Err (NotBack.Unread n r)) (Err (NotBack.Unread m s)) a b c d p q =
      let e = written_same p.0 q.0 in
      let k = read_same e.0 e.1 p.1 q.1 in
      let f : ◌≡◌ {A = Result ⊤ tree-refusal.Refusal} (Err r) (Err s) = k.1 in
      let g : r ≡ s = cc in
      (rw (k.0, g) refl, e.1, k.2)
  went (Err (NotBack.Unread n r)) (Err (NotBack.Unwritten s)) a b c d p q = no_both (written_same p.0 q.0).0
  went (Err (NotBack.Unwritten r)) (Ok m) a b c d p q = no_both (sym (written_same p.0 q.0).0)
  went (Err (NotBack.Unwritten r)) (Err (NotBack.Unread m s)) a b c d p q = no_both (sym (written_same p.0 q.0).0)
  went (Err (NotBack.Unwritten r)) (Err (NotBack.Unwritten s)) a b c d p q =
      let e = written_same p.0 q.0 in
      let f : ◌≡◌ {A = Result ℕ tree-refusal.Refusal} (Err r) (Err s) = e.0 in
      let g : r ≡ s = cc in
      (ap (λ (r : tree-refusal.Refusal). Err (NotBack.Unwritten r)) g, e.1, zero_same p.1 q.1)

pub demand_1 : Demand1
demand_1 = record {
  tree-reader = λ text lent x y a b p q. tree.determined p q;
  parse = λ text lent x y a b p q. parsed-determined p q;
  bytes_to_cue = λ text lent x y a b p q. cue_determined p q;
  write = λ T out x y a b p q. writing.determined whole_text T out x y a b p q;
  cue_to_bytes = λ i T out x y a b p q. writing.determined (cue_number i) T out x y a b p q;
  plain-text = λ T i out x y a b p q. speaking.determined T i out x y a b p q;
  check_track = λ T x y p q. check.determined T x y p q;
  resolve-referenced_style = λ value T lent x y a b p q. query.determined_value T lent x y a b value p q;
  region-style = λ id T lent x y a b p q. query.determined_region T lent x y a b id p q;
  effective_style_for_cue_index = λ T i lent x y a b p q. query.determined_cue T lent x y a b i p q;
  recaption = recaptioned;
  read_back = λ T out lent x y a b c d p q. went T out lent x y a b c d p.went q.went;
  pg_parse_xml = tree-in_C;
  pg_parse = λ text lent. tells _ (λ a left. Parsed text lent a left) (λ x y a b p q. parsed-determined p q);
  pg_bytes_to_cue = λ text lent. tells _ (λ a left. CueParsed text lent a left) (λ x y a b p q. cue_determined p q);
  pg_write = λ T out. tells _ (λ a left. Promise whole_text T out a left) (λ x y a b p q. writing.determined whole_text T out x y a b p q);
  pg_cue_to_bytes = λ i T out.
      tells _ (λ a left. Promise (cue_number i) T out a left) (λ x y a b p q. writing.determined (cue_number i) T out x y a b p q);
  pg_plain_text = λ T i out. tells _ (λ a left. PlainText T i out a left) (λ x y a b p q. speaking.determined T i out x y a b p q);
  pg_check_track = λ T r s p q. p.is ∙ (ap check_told (check.determined T p.answer q.answer p.promised q.promised) ∙ sym q.is);
  pg_resolve_referenced_style = λ value T lent.
      query_in_C _ lent (λ x y a b p q. query.determined_value T lent x y a b value p q);
  pg_region_style = λ id T lent. query_in_C _ lent (λ x y a b p q. query.determined_region T lent x y a b id p q);
  pg_effective_style_for_cue_index = λ T i lent. query_in_C _ lent (λ x y a b p q. query.determined_cue T lent x y a b i p q);
}

-- ---- 2
no_place : {A : Type 0} (m : Answer A) (a : A) → placeless m ≡ is a → m ≡ is a
no_place (is x) a e = e
no_place (refused n p) a e = absurd (let z : ◌≡◌ {A = ℕ} 0 1 = cc in omega arith)

module _ (text : Bytes) (f : Forest) (u : Utf8 text) (d : Derives text f) where
  fitting : Fits text 49152 32768
  fitting = record { long = omega arith; wide = omega arith; short = d.size; valid = omega (arith, utf8-end text u) }

  parsed-is : (t : Track Bytes) → means_track f t → parsed text ≡ is t
  parsed-is t m = no_place (parsed text) t (track_means text f fitting d ∙ m)

  cue_is : (c : Cue Bytes) → means_cue f c → cue_parsed text ≡ is c
  cue_is c m = no_place (cue_parsed text) c (cue_means text f fitting d ∙ m)

passing : (T : track.Tables) → ((r : Result ⊤ Refusal) → Checked T r → r ≡ (Ok tt)) → Checked T (Ok tt)
passing T h = let k = check.promised T refl in subst (Checked T) (h _ k) k

same_some : {A : Type 0} {a b : A} {o : Option A} → o ≡ some a → o ≡ some b → a ≡ b
same_some {a = a} {b = b} e f = let g : some a ≡ some b = sym e ∙ f in cc

no_some : {A B : Type 0} {a : A} {o : Option A} → o ≡ some a → o ≡ none → B
no_some {A} {B} {a} e f = let g : some a ≡ none = sym e ∙ f in absurd (let z : ◌≡◌ {A = ℕ} 0 1 = cc in omega arith)

fits_both : (lent : ℕ) (w : Bytes) → length w ≤ lent → length w ≤ 65536 → within lent (gives w) ≡ gives w
unfolding within fits
fits_both lent w h g = rw (le-leb (length w) lent h, le-leb (length w) 65536 g)

bytes_said : (a : Result ℕ Refusal) (n : ℕ) → bytes_of a ≡ some n → a ≡ Ok n
unfolding bytes_of
bytes_said (Ok m) n e = let q : m ≡ n = cc in ap Ok q
bytes_said (Err r) n e = absurd (let z : ◌≡◌ {A = ℕ} 0 1 = cc in omega arith)

-- 18 says that it does not fit
meets-eighteen : (lent : ℕ) (w : Bytes) → number_in (within lent (gives w)) ≡ 18 → (length w ≤ lent) × (length w ≤ 65536) → ⊥
unfolding number_in
meets-eighteen lent w e h = let z : number_in (gives w) ≡ 18 = ap number_in (sym (fits_both lent w h.0 h.1)) ∙ e in omega (arith, z)

too_long : (lent : ℕ) (w : Bytes) → ¬ ((length w ≤ lent) × (length w ≤ 65536)) → number_in (within lent (gives w)) ≡ 18
unfolding number_in within fits
too_long lent w n =
    by-test (leb (length w) lent)
    (λ x. by-test (leb (length w) 65536) (λ y. absurd (n (leb-true _ _ x, leb-true _ _ y))) (λ y. rw (x, y) refl))
    (λ x. rw x refl)

refused-said : (a : Result ℕ Refusal) (n : ℕ) → number_of a ≡ n → 0 < n → place_of a ≡ 0 → a ≡ Err (record { number = n; place = 0 })
unfolding number_of place_of
refused-said (Ok m) n e h p = absurd (omega (arith, e, h))
refused-said (Err r) n e h p = rw (sym e, sym p) refl

-- what a call that writes comes to, where its input allows one outcome
module _ (may : Outcome → Type 0) (out left : Bytes) (answer : Result ℕ Refusal) (p : Answers may out answer left) where
  module _ (w : Bytes) (only : (o : Outcome) → may o → o ≡ within (length out) (gives w)) where
    outcome_is : p.outcome ≡ within (length out) (gives w)
    outcome_is = only p.outcome p.comes

    leaves : HasRoom w out → Leaves w out answer left
    unfolding count_in text_in_of
    leaves f =
        let o = outcome_is ∙ fits_both (length out) w f.0 f.1 in
        (bytes_said answer (length w) (p.count ∙ ap count_in o), rw o at p.bytes)

    full : (number_of answer ≡ 18) ↔ (¬ HasRoom w out)
    full = (
      (λ x f. meets-eighteen (length out) w (sym (ap number_in outcome_is) ∙ (sym p.number ∙ x)) f),
      (λ n. p.number ∙ (ap number_in outcome_is ∙ too_long (length out) w n)),
    )

  past : ((o : Outcome) → may o → o ≡ meets 17 0)
      → (answer ≡ Err (record { number = 17; place = 0 })) × (left ≡ replicate (length out) 0)
  unfolding number_in place_in text_in_of
  past only =
      let o : p.outcome ≡ meets 17 0 = only p.outcome p.comes in
      let b : left ≡ replicate (length out - 0) 0 = rw o at p.bytes in
      (refused-said answer 17 (p.number ∙ ap number_in o) (omega arith) (p.place ∙ ap place_in o), rw (sub-zero (length out)) at b)

-- of a track that is handed and the text that is asked for
module _ (asked : Track Bytes → Outcome) (T : track.Tables) (t : Track Bytes) (l : track.LongEnough (track.lengths T)) (e : track_in T ≡ some t)
  where
    comes_of : (lent : ℕ) (o : Outcome) → Comes asked T lent o → o ≡ within lent (asked t)
    comes_of lent _ (short_table h) = absurd (h l)
    comes_of lent _ (no_track h n) = no_some e n
    comes_of lent _ (of_track k h s) = ap (λ (x : Track Bytes). within lent (asked x)) (same_some s e)

    asked-gives : (w : Bytes) → asked t ≡ gives w → (lent : ℕ) (o : Outcome) → Comes asked T lent o → o ≡ within lent (gives w)
    asked-gives w a lent o c = comes_of lent o c ∙ ap (within lent) a

    asked-meets : asked t ≡ meets 17 0 → (lent : ℕ) (o : Outcome) → Comes asked T lent o → o ≡ meets 17 0
    unfolding within
    asked-meets a lent o c = comes_of lent o c ∙ ap (within lent) a

-- the cue of an index, and none past the end
asked-cue : (i : ℕ) (l : List (Cue Bytes)) (c : Cue Bytes) → nth l i ≡ some c → cue_numbered i l ≡ gives (cue_written c)
unfolding nth cue_numbered
asked-cue zero [] c e = no_some e refl
asked-cue (suc i) [] c e = no_some e refl
asked-cue zero (x ∷ l) c e = let q : x ≡ c = cc in ap (λ (y : Cue Bytes). gives (cue_written y)) q
asked-cue (suc i) (x ∷ l) c e = asked-cue i l c e

asked-past : (i : ℕ) (l : List (Cue Bytes)) → length l ≤ i → cue_numbered i l ≡ meets 17 0
unfolding cue_numbered
asked-past i [] h = refl
asked-past zero (x ∷ l) h = absurd (omega (arith, h))
asked-past (suc i) (x ∷ l) h = asked-past i l (omega (arith, h))

-- what a cue of a track says
nth-row : (g : ℕ → Cue Bytes) (n j i : ℕ) (c : Cue Bytes) → nth (track.rows_from g n j) i ≡ some c → (i < n) × (g (j + i) ≡ c)
unfolding nth track.rows_from
nth-row g zero j i c e = no_some e refl
nth-row g (suc n) j zero c e = let z : j + 0 ≡ j = omega arith in (omega arith, rw z (let q : g j ≡ c = cc in q))
nth-row g (suc n) j (suc i) c e =
    let z : j + 1 + i ≡ j + suc i = omega arith in
    let r = nth-row g n (j + 1) i c e in (omega (arith, r.0), rw z at r.1)

cue_says : (T : track.Tables) (t : Track Bytes) (e : track_in T ≡ some t) (i : ℕ) (c : Cue Bytes) → nth t.cues i ≡ some c
    → HasCue (of_track_of T) i × (says (of_track_of T) i ≡ text_of c.segments)
cue_says T t e i c a =
    let r = nth-row (cue_in T) (track.cue_count T.head) 0 i c (ap (λ (k : List (Cue Bytes)). nth k i) (cues_are T t e) ∙ a) in
    let z : 0 + i ≡ i = omega arith in
    let q : cue_in T i ≡ c = rw z at r.1 in
    let h = row-there T t e i r.0 in
    (h.0, h.1 ∙ ap (λ (x : Cue Bytes). text_of x.segments) q)

module _ (T : track.Tables) (t : Track Bytes) (l : track.LongEnough (track.lengths T)) (e : track_in T ≡ some t) (i : ℕ) where
  spoken_gives : (c : Cue Bytes) → nth t.cues i ≡ some c → (lent : ℕ) (o : Outcome) → spoken.Comes (of_track_of T) i lent o
      → o ≡ within lent (gives (text_of c.segments))
  spoken_gives c a lent _ (spoken.short_table h) = absurd (h (track_long T l))
  spoken_gives c a lent _ (spoken.no_cue h n) = absurd (n (cue_says T t e i c a).0)
  spoken_gives c a lent _ (spoken.of_cue h k) = ap (λ (w : Bytes). within lent (gives w)) (cue_says T t e i c a).1

  spoken_meets : length t.cues ≤ i → (lent : ℕ) (o : Outcome) → spoken.Comes (of_track_of T) i lent o → o ≡ meets 17 0
  spoken_meets h lent _ (spoken.short_table k) = absurd (k (track_long T l))
  spoken_meets h lent _ (spoken.no_cue k n) = refl
  spoken_meets h lent _ (spoken.of_cue k n) = absurd (cue_past T t e i h n)

-- a single cue as a track
cue-of : (m : Answer (Cue Bytes)) (t : Track Bytes) → answered alone m ≡ is t → (c : Cue Bytes) × (m ≡ is c) × (alone c ≡ t)
cue-of (is c) t e = (c, refl, cc)
cue-of (refused n p) t e = absurd (let z : ◌≡◌ {A = ℕ} 0 1 = cc in omega arith)

-- a query whose promise holds of an outcome
module _ (q : Query) {T : track.Tables} {lent left : List ℕ} {answer : Reply} {t : Track Bytes} (p : Queried q T lent answer left) where
  -- without a number: what it gives
  module _ (e : track_in T ≡ some t) (z : query-promise.number_of answer ≡ 0) where
    gives-it : (r : Resolution) × (q.asks t ≡ styles.is r) × Gives q T lent t r answer left
    gives-it = of_track (p.taken.0 z)
      where
        of_track : ((k : Track Bytes) × (r : Resolution) × Takes q T lent k r)
            → (r : Resolution) × (q.asks t ≡ styles.is r) × Gives q T lent t r answer left
        of_track (k, r, h) =
            let g : Takes q T lent t r = subst (λ (x : Track Bytes). Takes q T lent x r) (same_some h.askable.means e) h in
            (r, g.asked, p.gives t r g)

    style_is : (r : Resolution) → q.asks t ≡ styles.is r → style_in T.strings answer ≡ r.style
    style_is r f =
        let g = gives-it in
        g.2.style ∙ one g.1 f
      where
        one : {r s : Resolution} {o : styles.Read Resolution} → o ≡ styles.is r → o ≡ styles.is s → r.style ≡ s.style
        one {r} {s} x y = let w : styles.is r ≡ styles.is s = sym x ∙ y in cc

    ids_exactly : Exactly (q.reaches t) (ids_in q.text T.strings left (count_of answer))
    ids_exactly = let g = gives-it in subst (Exactly (q.reaches t)) (sym g.2.ids) g.2.reached

    ids_order : InOrder t.styles (q.names t) (ids_in q.text T.strings left (count_of answer))
    ids_order = let g = gives-it in subst (InOrder t.styles (q.names t)) (sym g.2.ids) g.2.order

    ids_count : (l : List Bytes) → Exactly (q.reaches t) l → count_of answer ≡ length l
    ids_count l x = gives-it.2.count l x

  -- where none of 1, 2, 3 and 17 is met: which number it is
  module _ (a : Askable q.text T t) where
    refuses : (n : ℕ) → q.asks t ≡ styles.refused n → (n ≡ 14) ⊎ (n ≡ 15) → query-promise.number_of answer ≡ n
    refuses n e (inl g) = ((p.refused 14 0 (omega arith)).1 (own-size a (rw g at e))).0 ∙ sym g
    refuses n e (inr g) = ((p.refused 15 0 (omega arith)).1 (own-color a (rw g at e))).0 ∙ sym g

    overflows : (r : Resolution) (ids : List Bytes) → q.asks t ≡ styles.is r → Exactly (q.reaches t) r.ids → Exactly (q.reaches t) ids
        → (query-promise.number_of answer ≡ 18) ↔ TooMany lent ids
    overflows r ids e x y = (
      (λ f.
          by-test (leb (length ids * 4) (length lent))
          (λ u.
          by-test (leb (length ids) 65536)
          (λ v.
          let n : query-promise.number_of answer ≡ 0 = p.taken.1 (t, r, taken (leb-true _ _ u) (leb-true _ _ v)) in
          absurd (omega (arith, n, f)))
          (λ v. inr (leb-false _ _ v)))
          (λ u. inl (leb-false _ _ u))),
      (λ o. ((p.refused 18 0 (omega arith)).1 (too_many a e (over o))).0),
    )
      where
        same : length r.ids ≡ length ids
        same = same_count r.ids ids x y

        taken : length ids * 4 ≤ length lent → length ids ≤ 65536 → Takes q T lent t r
        taken u v = record { askable = a; asked = e; rows = omega (arith, u, same); few = omega (arith, v, same) }

        over : TooMany lent ids → TooMany lent r.ids
        over (inl h) = inl (omega (arith, h, same))
        over (inr h) = inr (omega (arith, h, same))

pub demand_2 : Demand2
demand_2 = record {
  parse_gives = λ text lent left answer f t l u d m p.
      let c = parsed-case text lent l d.size (utf8-end text u) p (parsed-is text f u d t m) in
      let q : Parsed text lent (Ok tt) left = subst (λ (a : Result ⊤ Refusal). Parsed text lent a left) c.0 p in
      (c.0, c.1, passing left.track (λ r c. (parsed-track q).passes {r = r} c));
  parse_only = λ text lent left p.
      let s = parsed-track p in
      (s.tree, s.track, s.derives, s.meant-so, s.means);
  parse_refuses = λ text lent left answer n p q h. q.refused n p h;
  parse_clears = λ text lent left answer p h. p.cleared h;
  cue_gives = λ text lent left answer f c l u d m p.
      let k = cue_case text lent l d.size (utf8-end text u) p (cue_is text f u d c m) in
      let q : CueParsed text lent (Ok tt) left = subst (λ (a : Result ⊤ Refusal). CueParsed text lent a left) k.0 p in
      (k.0, k.1, passing left.track (λ r x. (cue_track q).passes {r = r} x));
  cue_only = λ text lent left p.
      let s = cue_track p in
      let c = cue-of _ s.track s.meant-so in
      (s.tree, c.0, s.derives, c.1, s.means ∙ ap some (sym c.2));
  cue_refuses = λ text lent left answer n p q h. q.refused n p h;
  cue_clears = λ text lent left answer p h. p.cleared h;
  write_gives = λ T t out left answer l e f p.
      leaves _ out left answer p (written_of t) (asked-gives whole_text T t l e (written_of t) refl (length out)) f;
  write_full = λ T t out left answer l e p.
      full _ out left answer p (written_of t) (asked-gives whole_text T t l e (written_of t) refl (length out));
  cue-written = λ i T t c out left answer l e a f p.
      leaves _ out left answer p (cue_written c) (asked-gives (cue_number i) T t l e (cue_written c) (asked-cue i t.cues c a) (length out)) f;
  cue_full = λ i T t c out left answer l e a p.
      full _ out left answer p (cue_written c) (asked-gives (cue_number i) T t l e (cue_written c) (asked-cue i t.cues c a) (length out));
  cue_past = λ i T t out left answer l e h p.
      past _ out left answer p (asked-meets (cue_number i) T t l e (asked-past i t.cues h) (length out));
  text-gives = λ i T t c out left answer l e a f p. leaves _ out left answer p (text_of c.segments) (spoken_gives T t l e i c a (length out)) f;
  text-full = λ i T t c out left answer l e a p. full _ out left answer p (text_of c.segments) (spoken_gives T t l e i c a (length out));
  text-past = λ i T t out left answer l e h p. past _ out left answer p (spoken_meets T t l e i h (length out));
  check_takes = λ T answer p. p.taken;
  check_refuses = λ T answer n p c h. c.refused n p h;
  resolver_follows = λ value T t lent left answer e p z. p.no_style z t e;
  resolver_counts = λ value T t lent left answer e p z. ids_exactly (of_value value) p.queried e z;
  region_gives = λ id T t r lent left answer e s p z. (style_is (of_region id) p e z r s, ids_exactly (of_region id) p e z);
  effective_gives = λ i T t r lent left answer e s p z. (style_is (of_cue_of i) p e z r s, ids_exactly (of_cue_of i) p e z);
  region_refused = λ id T t n lent left answer a e p. refuses (of_region id) p a n e (region_refused t id e);
  effective_refused = λ i T t n lent left answer a e p. refuses (of_cue_of i) p a n e (cue_refused t i e);
  resolver_full = λ value T t ids lent left answer a x p.
      overflows (of_value value) p.queried a (resolve t.styles value) ids refl (resolve-answers t.styles value).ids_reached x;
  region_full = λ id T t r ids lent left answer a e x p. overflows (of_region id) p a r ids e (region_exactly t id r e) x;
  effective_full = λ i T t r ids lent left answer a e x p. overflows (of_cue_of i) p a r ids e (cue_exactly t i r e) x;
}

-- ---- 3

-- the numbers of a text that is turned away
met-low : {d k j : ℕ} {s : Bytes} {n p : ℕ} → Meets d k j s n p → n ≤ 11
met-low (too_deep v e) = omega arith
met-low (too_many_nodes v e) = omega arith
met-low (no_tag_name v e x) = omega arith
met-low (too_many_attributes v e) = omega arith
met-low (slash v e) = omega arith
met-low (no_value v x b c) = omega arith
met-low (end_in_tag v e x f) = omega arith
met-low (open_close_tag v x) = omega arith

away_low : {text : Bytes} {lent : xml.Tables} {n p : ℕ} → xml.TurnsAway text lent n p → n ≤ 11
away_low (xml.short_table h) = omega arith
away_low (xml.long_text h g) = omega arith
away_low (xml.not_utf8 h g u v) = omega arith
away_low (xml.first-met r f) = met-low f.met

-- a track that was written
pub record Wrote (T : track.Tables) (n : ℕ) (written : Bytes) : Type 0 where
  pub of : Track Bytes
  pub handed : track_in T ≡ some of
  pub text : take n written ≡ written_of of

given-text : (T : track.Tables) (lent : ℕ) (o : Outcome) (n : ℕ) → Comes whole_text T lent o → some n ≡ count_in o
    → (t : Track Bytes) × (track_in T ≡ some t) × (o ≡ gives (written_of t)) × (n ≡ length (written_of t))
unfolding count_in within
given-text T lent _ n (short_table h) e = absurd (let z : ◌≡◌ {A = ℕ} 0 1 = cc in omega arith)
given-text T lent _ n (no_track h m) e = absurd (let z : ◌≡◌ {A = ℕ} 0 1 = cc in omega arith)
given-text T lent _ n (of_track t h s) e =
    by-test (fits lent (written_of t))
    (λ f. (t, s, rw f, let g : some n ≡ some (length (written_of t)) = rw f at e in cc))
    (λ f. let g : some n ≡ none = rw f at e in absurd (let z : ◌≡◌ {A = ℕ} 0 1 = cc in omega arith))

take_all : (w z : Bytes) → take (length w) (w ++ z) ≡ w
take_all [] z = refl
take_all (x ∷ w) z = ap (λ (l : Bytes). x ∷ l) (take_all w z)

wrote : (T : track.Tables) (out written : Bytes) (n : ℕ) → Promise whole_text T out (Ok n) written → Wrote T n written
unfolding bytes_of text_in_of
wrote T out written n p =
    let g = given-text T (length out) p.outcome n p.comes p.count in
    let w : Bytes = written_of g.0 in
    let b : written ≡ w ++ replicate (length out - length w) 0 =
    p.bytes ∙ ap (λ (o : Outcome). text_in_of o ++ replicate (length out - length (text_in_of o)) 0) g.2 in
    record {
      of = g.0;
      handed = g.1;
      text = ap (λ (k : ℕ). take k written) g.3 ∙ ap (take (length w)) b ∙ take_all w (replicate (length out - length w) 0);
    }

handed_is : (T : track.Tables) (t : Track Bytes) → track_in T ≡ some t → (is_track T ≡ true) × (track_at T ≡ t)
unfolding track_in
handed_is T t e =
    by-test (is_track T) (λ h. (h, let g : some (track_at T) ≡ some t = rw h at e in cc))
    (λ h. let g : none ≡ some t = rw h at e in absurd (let z : ◌≡◌ {A = ℕ} 0 1 = cc in omega arith))

module _ (T : track.Tables) (t : Track Bytes) (signed : Signed T.times) (e : track_in T ≡ some t) (plain : is_plain_track t ≡ true) where
  ok : is_track T ≡ true
  ok = (handed_is T t e).0

  all_plain : CuesPlain t.cues
  unfolding is_plain_track
  all_plain =
      let k = (handed_is T t e).1 in
      cues_plain t.cues plain (rw k at (cues_checked T ok signed))

  module _ (left : Tables) (lent : Tables) (p : Parsed (written_of t) lent (Ok tt) left) where
    back_of : (n : ℕ) (written : Bytes) → take n written ≡ written_of t → Back t n written left
    back_of n written w =
        let s = parsed-track p in
        let k = (handed_is T t e).1 in
        let d = derives t (rw k at (names-fit T ok)) in
        let f : s.tree ≡ tree_of t = grammar.no_two (written_of t) s.tree (tree_of t) s.derives.derived d in
        record {
          tree = tree_of t;
          derived = rw w d;
          given = s.track;
          means = s.means;
          cues = read_back t all_plain s.track (rw (f, decoded-tree t) at s.meant-so);
        }

  reads : (out written : Bytes) (n : ℕ) → Promise whole_text T out (Ok n) written
      → (lent left : Tables) → Parsed (take n written) lent (Ok tt) left → Back t n written left
  reads out written n p lent left q =
      let w = wrote T out written n p in
      let x : take n written ≡ written_of t = w.text ∙ ap written_of (same_some w.handed e) in
      back_of left lent (rw x at q) n written x

pub demand_3 : Demand3
demand_3 = record {
  takes_exactly = λ text lent left answer l u p. (
    (λ e. let w = p.taken.0 e in (w.0, w.1.derives)),
    (λ w. p.taken.1 (w.0, takes_of text lent l u w.0 w.1)),
  );
  gives-that_tree = λ text lent left answer f l u d p.
      let h = p.tree f (takes_of text lent l u f d) in
      (xml.places_of d.derived, h.shown, h.node-rows, h.attr-rows);
  none-above_11 = λ text lent left answer n p q e.
      by-test (leb 1 n) (λ t. away_low ((q.refused n p (leb-true 1 n t)).0 e)) (λ t. let z = leb-false 1 n t in omega (arith, z));
  no_two = grammar.no_two;
  reads_back = λ T t signed e plain out written n p lent left q. reads T t signed e plain out written n p lent left q;
}
  where
    takes_of : (text : Bytes) (lent : xml.Tables) → xml.LongEnough lent → Utf8 text → (f : Forest) → Derives text f → xml.Takes text lent f
    takes_of text lent l u f d = record { readable = record { long_enough = l; short = d.size; valid = u }; derives = d }

-- ---- the change requests of document 02
pub times_in_order : RequestD
times_in_order = record { in_order = ways.in_order; some_way = ways.some_way; no_two_ways = ways.one_way; as_before = ways.as_before }

pub order_of_ids : RequestK
order_of_ids = record {
  value-order = λ value T t lent left answer e p z. ids_order (of_value value) p.queried e z;
  region_order = λ id T t lent left answer e p z. ids_order (of_region id) p e z;
  cue_order = λ i T t lent left answer e p z. ids_order (of_cue_of i) p e z;
  one_order = λ styles ids l m x y. lists_only styles x y;
  value-count = λ value T t ids lent left answer e x p z. ids_count (of_value value) p.queried e z ids x;
  region-count = λ id T t ids lent left answer e x p z. ids_count (of_region id) p e z ids x;
  cue-count = λ i T t ids lent left answer e x p z. ids_count (of_cue_of i) p e z ids x;
}

pub demands : Demands
demands = record { first = demand_1; second = demand_2; third = demand_3; request_d = times_in_order; request_k = order_of_ids }
