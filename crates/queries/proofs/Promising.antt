-- From what the inner functions leave to the promise. Assumes nothing.
--     check_taken, check_none_asked     what the check says
--     finish_none, finish_some          the end
--     table_is                          the table of ids, from its cells
--     refused-query, checked-query, valued-query, over-query, given-query     a refusal by any number, by the check, by a value, 18; a style, or none
use Rattle.queries.specs.Reply.{Reply}
use Rattle.std.specs.Prelude.{Some, Result, Ok, Err, ⊤}
use Prim.Native.Nat.{ℕ, zero, suc, ◌+◌, ◌-◌, ◌*◌, ◌≤◌, ◌<◌}
use mathlib.Core.Path.{◌≡◌, refl, sym, ap, ap₂, subst, ◌∙◌}
use mathlib.Core.Bool.{Bool, true, false, cond, ◌||◌}
use mathlib.Core.Logic.{◌⊎◌, inl, inr}
use mathlib.Core.List.{List, [], ◌∷◌, ◌++◌}
use mathlib.Core.Option.{Option, none, some}
use native.Mathlib.Omega.{arith}
use lib.ListN.{length, get_or, replicate}
use lib.Dec.{leb, ltb}
use borrow.Author.Tests.{eq-eqb, ne_eqb, eqb-true, le-leb, leb-true, leb-false, lt-ltb, ltb-true}
use Rattle.scan.specs.Loop.{loop, go}
use Rattle.utf8.specs.Utf8.{Utf8, utf8_end, LongestValid}
use Rattle.utf8.proofs.Utf8Laws.{utf8-end, end_utf8}
use Rattle.scan.proofs.Every.{by-test}
use Rattle.decimals.proofs.Tests.{no}
use Rattle.tree.specs.declared.answers.Refusal.{Refusal}
use Rattle.track.specs.declared.strings.Span.{Span}
use Rattle.track.specs.Track.{Bytes, Track}
use Rattle.track.specs.Tables.{Tables, rows_from}
use Rattle.track.specs.Meaning.{is_utf8, is_track, bytes_at, track_at, track_in}
use Rattle.track.specs.Check as track
use Rattle.track.specs.Check.{is_full, check_of}
use Rattle.track.proofs.Answers.{long_full, full-long}
use Rattle.track.proofs.Exactly.{track_some, track_none, check_short, check_none, check_track}
use Rattle.styles.specs.declared.apply.Walk.{Walk}
use Rattle.styles.specs.Resolve.{Resolution}
use Rattle.styles.specs.Own.{Read, is, refused}
use Rattle.styles.specs.Cells.{Tidy}
use Rattle.styles.specs.Ids.{Row, row_at, rows_in, ids_in}
use Rattle.styles.specs.Steps.{state_at, Over, style_of, Stood}
use Rattle.styles.proofs.Members.{same_count}
use Rattle.styles.proofs.Places.{rows-count, ids_length}
use Rattle.queries.specs.declared.query.Resolved.{Resolved}
use Rattle.queries.specs.Promise.{
  number_of,
  place_of,
  count_of,
  name_in,
  style_in,
  AbsentZero,
  Asked,
  Askable,
  Query,
  id_cells,
  id_table,
  TurnsAway,
  short_table,
  long_text,
  not_utf8,
  no_track,
  own-size,
  own-color,
  too_many,
  Takes,
  Gives,
  Queried,
}
use Rattle.queries.specs.Steps.{check_rest, check_text, query_check, answer_of, FinishPost}
use Rattle.queries.proofs.Handed.{Accepted}
use Rattle.queries.proofs.Reaching.{Reached}

-- ---- the check
module _ (text : Bytes) (r : ℕ) (l : LongestValid text r) where
  pub is-broken : r < length text → is_utf8 text ≡ false
  unfolding is_utf8
  is-broken h = ne_eqb (utf8_end text) (length text) (λ e. omega (arith, l.is))

  pub is-utf8 : length text ≤ r → is_utf8 text ≡ true
  unfolding is_utf8
  is-utf8 h = eq-eqb (utf8_end text) (length text) (omega (arith, l.is, l.within_text))

-- the test on the text, and what it tests
module _ (text : Bytes) where
  valid_test : Utf8 text → is_utf8 text ≡ true
  unfolding is_utf8
  valid_test u = eq-eqb (utf8_end text) (length text) (utf8-end text u)

  test_valid : is_utf8 text ≡ true → Utf8 text
  unfolding is_utf8
  test_valid e = end_utf8 text (eqb-true (utf8_end text) (length text) e)

  broken_test : ¬ Utf8 text → is_utf8 text ≡ false
  broken_test n = by-test (is_utf8 text) (λ e. absurd (n (test_valid e))) (λ e. e)

  test_broken : is_utf8 text ≡ false → ¬ Utf8 text
  test_broken e u = no (sym (valid_test u) ∙ e)

module _ (text : Bytes) (T : Tables) where
  -- what is answered, test by test
  short : is_full T ≡ false → query_check text T ≡ track.refused_as_of 1
  unfolding query_check check_text
  short f = rw (check_short T f)

  long : is_full T ≡ true → leb (length text) 65536 ≡ false → query_check text T ≡ track.refused_as_of 2
  unfolding query_check check_text check_rest
  long f l = by-test (is_track T) (λ t. rw (check_track T f t, l)) (λ t. rw (check_none T f t, l))

  broken : is_full T ≡ true → leb (length text) 65536 ≡ true → is_utf8 text ≡ false → query_check text T ≡ track.refused_as_of 3
  unfolding query_check check_text check_rest
  broken f l u = by-test (is_track T) (λ t. rw (check_track T f t, l, u)) (λ t. rw (check_none T f t, l, u))

  none-held : is_full T ≡ true → leb (length text) 65536 ≡ true → is_utf8 text ≡ true → is_track T ≡ false → query_check text T ≡ track.refused_as_of 17
  unfolding query_check check_text check_rest
  none-held f l u t = rw (check_none T f t, l, u)

  held : is_full T ≡ true → leb (length text) 65536 ≡ true → is_utf8 text ≡ true → is_track T ≡ true → query_check text T ≡ Ok tt
  unfolding query_check check_text check_rest
  held f l u t = rw (check_track T f t, l, u)

  -- any fact of the check, by the five ways
  ways : (P : Result ⊤ Refusal → Type 0) → (is_full T ≡ false → P (track.refused_as_of 1))
      → (is_full T ≡ true → leb (length text) 65536 ≡ false → P (track.refused_as_of 2))
      → (is_full T ≡ true → leb (length text) 65536 ≡ true → is_utf8 text ≡ false → P (track.refused_as_of 3))
      → (is_full T ≡ true → leb (length text) 65536 ≡ true → is_utf8 text ≡ true → is_track T ≡ false → P (track.refused_as_of 17))
      → (is_full T ≡ true → leb (length text) 65536 ≡ true → is_utf8 text ≡ true → is_track T ≡ true → P (Ok tt))
      → P (query_check text T)
  ways P a b c d e =
      by-test (is_full T)
      (λ f.
      by-test (leb (length text) 65536)
      (λ l.
      by-test (is_utf8 text)
      (λ u. by-test (is_track T) (λ t. rw (held f l u t) (e f l u t)) (λ t. rw (none-held f l u t) (d f l u t)))
      (λ u. rw (broken f l u) (c f l u)))
      (λ l. rw (long f l) (b f l)))
      (λ f. rw (short f) (a f))

  abbrev Taken : Result ⊤ Refusal → Type 0
  Taken (Ok tt) = Accepted T × (length text ≤ 65536) × (is_utf8 text ≡ true)
  Taken (Err r) = Unit {0}

  taken : Taken (query_check text T)
  taken =
      ways Taken (λ f. tt) (λ f l. tt) (λ f l u. tt) (λ f l u t. tt)
      (λ f l u t. (record { full = f; is-track = t }, leb-true (length text) 65536 l, u))

  pub check_taken : query_check text T ≡ (Ok tt) → Accepted T × (length text ≤ 65536) × (is_utf8 text ≡ true)
  check_taken h = rw h at taken

-- no text is asked for
pub check_none_asked : (T : Tables) → query_check [] T ≡ check_of T
unfolding is_utf8 utf8_end loop go
check_none_asked T =
    ways [] T (λ (c : Result ⊤ Refusal). c ≡ check_of T) (λ f. sym (check_short T f)) (λ f l. no l) (λ f l u. no u) (λ f l u t. sym (check_none T f t))
    (λ f l u t. sym (check_track T f t))

-- ---- the end
module _ (name : Span) (w : Walk) (t : List ℕ) where
  pub finish_none : w.found ≡ false → FinishPost name (Some w) t t (Ok (Resolved.NoStyle w.count))
  finish_none h = (rw h, refl)

  pub finish_some : w.found ≡ true
      → FinishPost name (Some w) t t (Ok (Resolved.Style (record { name = name; look = w.look; ids = w.count })))
  finish_some h = (rw h, refl)

-- ---- the table of ids
pub zeros : (n i : ℕ) → ◌≡◌ {A = ℕ} (get_or (replicate n 0) i 0) 0
zeros zero i = refl
zeros (suc n) zero = refl
zeros (suc n) (suc i) = zeros n i

all_zero : (t : List ℕ) → ((c : ℕ) → get_or t c 0 ≡ 0) → t ≡ replicate (length t) 0
all_zero [] h = refl
all_zero (a ∷ t) h = let e : a ≡ 0 = h 0 in rw e (ap (λ (l : List ℕ). 0 ∷ l) (all_zero t (λ c. h (suc c))))

module _ (a b c d : ℕ) (t : List ℕ) where
  row_on : (j : ℕ) → row_at (a ∷ b ∷ c ∷ d ∷ t) (suc j) ≡ row_at t j
  unfolding row_at
  row_on j =
      let e : suc j * 4 ≡ suc (suc (suc (suc (j * 4)))) = omega arith in
      let f : suc j * 4 + 1 ≡ suc (suc (suc (suc (j * 4 + 1)))) = omega arith in
      let g : suc j * 4 + 2 ≡ suc (suc (suc (suc (j * 4 + 2)))) = omega arith in
      rw (f, g, e)

  rows_on : (n j : ℕ) → rows_from (row_at (a ∷ b ∷ c ∷ d ∷ t)) n (suc j) ≡ rows_from (row_at t) n j
  unfolding rows_from
  rows_on zero j = refl
  rows_on (suc n) j =
      let e : suc j + 1 ≡ suc (j + 1) = omega arith in
      rw (row_on j, e) (ap (λ (l : List Row). row_at t j ∷ l) (rows_on n (j + 1)))

-- n rows with nothing in their last cell, and nothing behind them
pub table_is : (n : ℕ) (t : List ℕ) → n * 4 ≤ length t → ((i : ℕ) → i < n → get_or t (i * 4 + 3) 0 ≡ 0) → ((c : ℕ) → n * 4 ≤ c → get_or t c 0 ≡ 0)
    → t ≡ id_cells (rows_in t n) ++ replicate (length t - n * 4) 0
unfolding rows_in rows_from row_at id_cells
table_is zero t h m b =
    let e : length t ≡ length t - 0 * 4 = omega arith in
    all_zero t (λ c. b c (omega arith)) ∙ ap (λ (n : ℕ). replicate {A = ℕ} n 0) e
table_is (suc n) [] h m b = absurd (omega arith)
table_is (suc n) (x ∷ []) h m b = absurd (omega arith)
table_is (suc n) (x ∷ y ∷ []) h m b = absurd (omega arith)
table_is (suc n) (x ∷ y ∷ z ∷ []) h m b = absurd (omega arith)
table_is (suc n) (x ∷ y ∷ z ∷ v ∷ t) h m b =
    let e : v ≡ 0 = m 0 (omega arith) in
    let k = table_is n t (omega arith) (λ i l. marked i l) (λ c l. behind c l) in
    let o : length t - n * 4 ≡ length (x ∷ y ∷ z ∷ v ∷ t) - suc n * 4 = omega arith in
    ap (λ (u : ℕ). x ∷ y ∷ z ∷ u ∷ t) e
    ∙ (ap (λ (l : List ℕ). x ∷ y ∷ z ∷ 0 ∷ l) k
    ∙ ap₂ (λ (l : List Row) (u : ℕ). x ∷ y ∷ z ∷ 0 ∷ (id_cells l ++ replicate {A = ℕ} u 0)) (sym (rows_on x y z v t n 0)) o)
  where
    marked : (i : ℕ) → i < n → get_or t (i * 4 + 3) 0 ≡ 0
    marked i l = let e : suc i * 4 + 3 ≡ suc (suc (suc (suc (i * 4 + 3)))) = omega arith in rw e at (m (suc i) (omega arith))

    behind : (c : ℕ) → n * 4 ≤ c → get_or t c 0 ≡ 0
    behind c l = b (suc (suc (suc (suc c)))) (omega arith)

-- ---- the numbers: which one is met, as a function of the tests
is_over : List ℕ → List Bytes → Bool
is_over lent ids = ltb (length lent) (length ids * 4) || ltb 65536 (length ids)

module _ (lent : List ℕ) (ids : List Bytes) where
  is-over : Over lent ids → is_over lent ids ≡ true
  unfolding is_over
  is-over (inl o) = rw (lt-ltb (length lent) (length ids * 4) o)
  is-over (inr o) = by-test (ltb (length lent) (length ids * 4)) (λ t. rw t) (λ t. rw (t, lt-ltb 65536 (length ids) o))

  not_over : length ids * 4 ≤ length lent → length ids ≤ 65536 → is_over lent ids ≡ false
  unfolding is_over
  not_over a b =
      by-test (ltb (length lent) (length ids * 4)) (λ t. absurd (omega (arith, ltb-true (length lent) (length ids * 4) t)))
      (λ t. rw t (by-test (ltb 65536 (length ids)) (λ u. absurd (omega (arith, ltb-true 65536 (length ids) u))) (λ u. u)))

last_met : List ℕ → Read Resolution → Option ℕ
last_met lent (refused n) = some n
last_met lent (is r) = cond (is_over lent r.ids) (some 18) none

track_met : List ℕ → Asked → Option (Track Bytes) → Option ℕ
track_met lent ask none = some 17
track_met lent ask (some k) = last_met lent (ask k)

met : Query → Tables → List ℕ → Option ℕ
met q T lent =
    cond (is_full T) (cond (leb (length q.text) 65536) (cond (is_utf8 q.text) (track_met lent q.asks (track_in T)) (some 3)) (some 2)) (some 1)

no_name : {A : Type 0} {B : Type 0} {b : B} → none ≡ some b → A
no_name e = let z : ◌≡◌ {A = ℕ} 0 1 = cc in absurd (omega arith)

never : {A : Type 0} {n : ℕ} → 0 < n → n ≡ 0 → A
never p e = absurd (omega arith)

module _ (q : Query) (T : Tables) (lent : List ℕ) where
  asks_met : {k : Track Bytes} → Askable q.text T k → met q T lent ≡ last_met lent (q.asks k)
  unfolding met track_met
  asks_met h = rw (long_full T h.long_enough, le-leb (length q.text) 65536 h.short, valid_test q.text h.valid, h.means)

  away_met : {n p : ℕ} → TurnsAway q T lent n p → met q T lent ≡ some n
  unfolding met track_met last_met
  away_met (short_table h) = by-test (is_full T) (λ f. absurd (h (full-long T f))) (λ f. rw f)
  away_met (long_text l h) =
      by-test (leb (length q.text) 65536) (λ t. absurd (omega (arith, leb-true (length q.text) 65536 t))) (λ t. rw (long_full T l, t))
  away_met (not_utf8 l s u) = rw (long_full T l, le-leb (length q.text) 65536 s, broken_test q.text u)
  away_met (no_track l s u e) = rw (long_full T l, le-leb (length q.text) 65536 s, valid_test q.text u, e)
  away_met (own-size h e) = asks_met h ∙ rw e
  away_met (own-color h e) = asks_met h ∙ rw e
  away_met (too_many {r = r} h e o) = asks_met h ∙ rw (e, is-over lent r.ids o)

  away_place : {n p : ℕ} → TurnsAway q T lent n p → p ≡ 0
  away_place (short_table h) = refl
  away_place (long_text l h) = refl
  away_place (not_utf8 l s u) = refl
  away_place (no_track l s u e) = refl
  away_place (own-size h e) = refl
  away_place (own-color h e) = refl
  away_place (too_many h e o) = refl

  takes_met : {k : Track Bytes} {r : Resolution} → Takes q T lent k r → met q T lent ≡ none
  unfolding last_met
  takes_met {r = r} t = asks_met t.askable ∙ rw (t.asked, not_over lent r.ids t.rows t.few)

  taken-only : {A : Type 0} {k : Track Bytes} {r : Resolution} {n p : ℕ} → Takes q T lent k r → TurnsAway q T lent n p → A
  taken-only t a = no_name (sym (takes_met t) ∙ away_met a)

  -- ---- the promise
  -- a refusal
  pub refused-query : (r : Refusal) → 0 < r.number → TurnsAway q T lent r.number r.place → (left : List ℕ) → left ≡ replicate (length lent) 0
      → Queried q T lent (Err r) left
  unfolding number_of place_of
  refused-query r g w left z = record {
    taken = (λ e. never g e, λ t. taken-only t.2 w);
    gives = λ k x t. taken-only t w;
    refused = λ n p h. (λ s. moved s.0 s.1, λ a. (once a, away_place w ∙ sym (away_place a)));
    cleared = λ h. z;
  }
    where
      moved : {n p : ℕ} → r.number ≡ n → r.place ≡ p → TurnsAway q T lent n p
      moved {n} {p} e f = subst (λ i. TurnsAway q T lent i p) e (subst (λ i. TurnsAway q T lent r.number i) f w)

      once : {n p : ℕ} → TurnsAway q T lent n p → r.number ≡ n
      once {n} a = let e : some r.number ≡ some n = sym (away_met w) ∙ away_met a in cc

  abbrev Away : Result ⊤ Refusal → Type 0
  Away (Ok tt) = Unit {0}
  Away (Err r) = (0 < r.number) × TurnsAway q T lent r.number r.place

  away : Away (query_check q.text T)
  away =
      ways q.text T Away
      (λ f. (omega arith, short_table (λ l. no (sym (long_full T l) ∙ f))))
      (λ f l. (omega arith, long_text (full-long T f) (over l)))
      (λ f l u. (omega arith, not_utf8 (full-long T f) (leb-true (length q.text) 65536 l) (test_broken q.text u)))
      (λ f l u t. (omega arith, no_track (full-long T f) (leb-true (length q.text) 65536 l) (test_valid q.text u) (track_none T t)))
      (λ f l u t. tt)
    where
      over : leb (length q.text) 65536 ≡ false → 65536 < length q.text
      over l = leb-false (length q.text) 65536 l

  -- the check refuses
  pub checked-query : (r : Refusal) → query_check q.text T ≡ Err r → (left : List ℕ) → left ≡ replicate (length lent) 0
      → Queried q T lent (Err r) left
  checked-query r h left z = let w : Away (Err r) = rw h at away in refused-query r w.0 w.1 left z

  module _ (h : query_check q.text T ≡ (Ok tt)) where
    handed : Askable q.text T (track_at T)
    handed =
        let a = check_taken q.text T h in
        record { long_enough = full-long T a.0.full; short = a.1; valid = test_valid q.text a.2; means = track_some T a.0.is-track }

    -- a value of a region refuses
    pub valued-query : (n : ℕ) → q.asks (track_at T) ≡ refused n → (n ≡ 14) ⊎ (n ≡ 15) → (left : List ℕ) → left ≡ replicate (length lent) 0
        → Queried q T lent (Err (record { number = n; place = 0 })) left
    valued-query n e (inl g) left z =
        rw g (refused-query (record { number = 14; place = 0 }) (omega arith) (own-size handed (rw g at e)) left z)
    valued-query n e (inr g) left z =
        rw g (refused-query (record { number = 15; place = 0 }) (omega arith) (own-color handed (rw g at e)) left z)

    module _ (r : Resolution) (e : q.asks (track_at T) ≡ is r) where
      -- 18
      pub over-query : Over lent r.ids → (left : List ℕ) → left ≡ replicate (length lent) 0
          → Queried q T lent (Err (record { number = 18; place = 0 })) left
      over-query o left z = refused-query (record { number = 18; place = 0 }) (omega arith) (too_many handed e o) left z

      -- a style, or none
      module _ (reached : Reached q (track_at T) r) (left : List ℕ) (kept : length left ≡ length lent) (w : Walk)
          (style_is : style_of T.strings w ≡ r.style) (ids-are : ids_in q.text T.strings left w.count ≡ r.ids) (tidy : Tidy w.look)
          (stood : Stood q.text T.strings left w.count) (behind : (c : ℕ) → w.count * 4 ≤ c → get_or left c 0 ≡ 0)
          (walked : q.walks T (state_at left w))
        where
          many : length r.ids ≡ w.count
          many = rw (← ids-are) (ids_length q.text T.strings left w.count)

          takes : Takes q T lent (track_at T) r
          takes = record { askable = handed; asked = e; rows = omega (arith, many, stood.fits, kept); few = omega (arith, many, stood.few) }

          table : left ≡ id_table (rows_in left w.count) (length lent)
          table =
              let t = table_is w.count left stood.fits stood.marks behind in
              rw (rows-count left w.count, ← kept) t

          gives : (answer : Reply) → style_in T.strings answer ≡ style_of T.strings w → count_of answer ≡ w.count
              → ((b : Bytes) → name_in q.text answer ≡ some b → b ≡ q.name) → AbsentZero answer → answer ≡ answer_of q.at w
              → Gives q T lent (track_at T) r answer left
          gives answer s c m a v = record {
            style = s ∙ style_is;
            named = m;
            absent = a;
            ids = rw c ids-are;
            order = reached.1;
            reached = reached.0;
            count = λ l x. c ∙ (sym many ∙ same_count r.ids l reached.0 x);
            walked = state_at left w;
            is-walk = walked;
            told = v ∙ rw (rows-count left w.count);
            table = table;
            within = λ i l. stood.rows i (rw c at l);
          }

          as_answer : (answer : Reply) → number_of answer ≡ 0 → Gives q T lent (track_at T) r answer left → Queried q T lent answer left
          as_answer answer n g = record {
            taken = (λ z. (track_at T, r, takes), λ t. n);
            gives = λ k x t. same k x t;
            refused = λ i p z. (λ s. never z (sym s.0 ∙ n), λ a. taken-only takes a);
            cleared = λ z. never z n;
          }
            where
              same : (k : Track Bytes) (x : Resolution) → Takes q T lent k x → Gives q T lent k x answer left
              same k x t =
                  let a : some k ≡ some (track_at T) = sym t.askable.means ∙ handed.means in
                  let b : k ≡ track_at T = cc in
                  let c : is x ≡ is r = sym t.asked ∙ (ap q.asks b ∙ e) in
                  let d : x ≡ r = cc in
                  rw (b, d) g

          pub given-query : bytes_at q.text q.at ≡ q.name → Queried q T lent (answer_of q.at w) left
          unfolding number_of count_of name_in style_in
          given-query p =
              by-test w.found
              (λ t. rw t (as_answer (Ok (Resolved.Style (record { name = q.at; look = w.look; ids = w.count }))) refl (gives _ (rw t) refl named tidy
              (rw t))))
              (λ t. rw t (as_answer (Ok (Resolved.NoStyle w.count)) refl (gives _ (rw t) refl (λ b x. no_name x) tt (rw t))))
            where
              named : (b : Bytes) → some (bytes_at q.text q.at) ≡ some b → b ≡ q.name
              named b x = let y : b ≡ bytes_at q.text q.at = cc in y ∙ p
