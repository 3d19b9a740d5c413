-- What the public calls promise. Assumes nothing.
--     answers_met, answers_filled    a number is met, or a text is written as far as it fits: for any call that writes
--     answers_determined             and such a call is determined, if its input allows one outcome
--     promise_refused                what the check refuses
--     promise_done, promise_met      there is such a text; or a number is met
--     promise_cue, promise_past      a cue, and an index past the end
--     determined                     two outcomes that meet the promise are one
use Rattle.std.specs.Prelude.{⊤, Result, Ok, Err}
use Prim.Native.Nat.{ℕ, zero, suc, ◌+◌, ◌-◌, ◌≤◌, ◌<◌}
use mathlib.Core.Path.{◌≡◌, refl, sym, ap, ap₂, ◌∙◌}
use mathlib.Core.Bool.{true, ◌&&◌, false≢true}
use mathlib.Core.List.{List, ◌++◌}
use mathlib.Core.Option.{some}
use native.Mathlib.Omega.{arith}
use native.Mathlib.Nat.{sub-zero, zero-add}
use lib.ListN.{length, replicate}
use lib.Dec.{leb}
use Rattle.scan.proofs.Every.{by-test}
use Rattle.tree.specs.declared.answers.Refusal.{Refusal}
use Rattle.track.specs.Track.{Bytes, Cue, Track}
use Rattle.track.specs.Tables.{Tables, cue_count, rows_from}
use Rattle.track.specs.Meaning.{is_track, cue_in, track_at, track_in}
use Rattle.track.specs.Steps.{is_full, check_of, refused_as_of}
use Rattle.track.proofs.Answers.{full-long, long_full}
use Rattle.track.proofs.Exactly.{no_some, track_some, track_none, check_short, check_none, check_track}
use Rattle.track.proofs.ShownLaws.{cues-in}
use Rattle.written.specs.Written.{cue_written}
use Rattle.writer.specs.Promise.{number_of, place_of, bytes_of, cue_numbered, cue_number, Outcome, gives, meets, fits, within, Comes}
use Rattle.writer.specs.Promise.{short_table, no_track, of_track, number_in, place_in, count_in, text_in_of, Answers, Promise}
use Rattle.writer.specs.Calls.{refused_with, fitted, Filled}
use Rattle.writer.proofs.CallLaws.{accepted}

-- ---- a refusal, and a text, of whatever input allows it
module _ (may : Outcome → Type 0) (lent left : List ℕ) where
  pub answers_met : (n p : ℕ) → may (meets n p) → left ≡ replicate (length lent) 0
      → Answers may lent (Err (record { number = n; place = p })) left
  unfolding number_of place_of bytes_of number_in place_in count_in text_in_of
  answers_met n p c e =
      record { outcome = meets n p; comes = c; number = refl; place = refl; count = refl; bytes = e ∙ rw (sub-zero (length lent)) refl }

  gave : (w : Bytes) → may (gives w) → left ≡ w ++ replicate (length lent - length w) 0 → Answers may lent (Ok (length w)) left
  unfolding number_of place_of bytes_of number_in place_in count_in text_in_of
  gave w c e = record { outcome = gives w; comes = c; number = refl; place = refl; count = refl; bytes = e }

  pub answers_filled : (w : Bytes) (r : Result ℕ Refusal) (k : ℕ) → k ≡ length lent → may (within (length lent) (gives w)) → Filled w k r left
      → Answers may lent r left
  unfolding within fits fitted
  answers_filled w r k q c a =
      let b : Filled w (length lent) r left = rw q at a in
      by-test (leb (length w) (length lent) && leb (length w) 65536)
      (λ e.
      let d : r ≡ Ok (length w) = b.answer ∙ rw e refl in
      rw d (gave w (rw e at c) (rw d at b.bytes)))
      (λ e.
      let d : r ≡ refused_with 18 = b.answer ∙ rw e refl in
      rw d (answers_met 18 0 (rw e at c) (rw d at b.bytes)))

-- where the check refuses
track_refused : {X : Type 0} (x : Refusal) → ◌≡◌ {A = Result ⊤ Refusal} (Ok tt) (Err x) → X
track_refused x e = let z : ◌≡◌ {A = ℕ} 0 1 = cc in absurd (omega arith)

same_answer : (n : ℕ) (x : Refusal) → refused_as_of n ≡ Err x → Err x ≡ refused_with n
same_answer n x e = let q : x ≡ record { number = n; place = 0 } = cc in ap Err q

module _ (asked : Track Bytes → Outcome) (T : Tables) (lent left : List ℕ) where
  pub promise_refused : (x : Refusal) → check_of T ≡ Err x → left ≡ replicate (length lent) 0 → Promise asked T lent (Err x) left
  promise_refused x e b =
      by-test (is_full T)
      (λ f. by-test (is_track T)
      (λ h. track_refused x (sym (check_track T f h) ∙ e))
      (λ h. rw (same_answer 17 x (sym (check_none T f h) ∙ e)) (answers_met _ lent left 17 0 (no_track (full-long T f) (track_none T h)) b)))
      (λ f. rw (same_answer 1 x (sym (check_short T f) ∙ e))
      (answers_met _ lent left 1 0 (short_table (λ l. false≢true (sym f ∙ long_full T l))) b))

  -- where there is a track: w is the text that is asked for, or there is none
  module _ (f : is_full T ≡ true) (h : is_track T ≡ true) where
    comes_of : (o : Outcome) → asked (track_at T) ≡ o → Comes asked T (length lent) (within (length lent) o)
    comes_of o e =
        let c : Comes asked T (length lent) (within (length lent) (asked (track_at T))) = of_track (track_at T) (full-long T f) (track_some T h) in
        rw e at c

    pub promise_done : (w : Bytes) → asked (track_at T) ≡ gives w → (r : Result ℕ Refusal) (k : ℕ) → k ≡ length lent → Filled w k r left
        → Promise asked T lent r left
    promise_done w e r k q a = answers_filled _ lent left w r k q (comes_of (gives w) e) a

    pub promise_met : (n p : ℕ) → asked (track_at T) ≡ meets n p → (r : Result ℕ Refusal) → r ≡ Err (record { number = n; place = p })
        → left ≡ replicate (length lent) 0 → Promise asked T lent r left
    unfolding within
    promise_met n p e r a b = rw a (answers_met _ lent left n p (comes_of (meets n p) e) b)

-- ---- a cue by its index
cue_there : (g : ℕ → Cue Bytes) (n j i : ℕ) → i < n → cue_numbered i (rows_from g n j) ≡ gives (cue_written (g (j + i)))
unfolding cue_numbered rows_from
cue_there g zero j i h = absurd (omega arith)
cue_there g (suc n) j zero h = let e : j + 0 ≡ j = omega arith in rw e refl
cue_there g (suc n) j (suc i) h = let e : j + 1 + i ≡ j + suc i = omega arith in cue_there g n (j + 1) i (omega arith) ∙ rw e refl

cue_past : (g : ℕ → Cue Bytes) (n j i : ℕ) → n ≤ i → cue_numbered i (rows_from g n j) ≡ meets 17 0
unfolding cue_numbered rows_from
cue_past g zero j i h = refl
cue_past g (suc n) j zero h = absurd (omega arith)
cue_past g (suc n) j (suc i) h = cue_past g n (j + 1) i (omega arith)

module _ (T : Tables) (i : ℕ) where
  cue-text : i < cue_count T.head → cue_number i (track_at T) ≡ gives (cue_written (cue_in T i))
  cue-text h = ap (cue_numbered i) (cues-in T) ∙ (cue_there (cue_in T) (cue_count T.head) 0 i h ∙ rw (zero-add i) refl)

  cue_none : cue_count T.head ≤ i → cue_number i (track_at T) ≡ meets 17 0
  cue_none h = ap (cue_numbered i) (cues-in T) ∙ cue_past (cue_in T) (cue_count T.head) 0 i h

  module _ (lent left : List ℕ) (r : Result ℕ Refusal) (e : check_of T ≡ (Ok tt)) where
    pub promise_past :
        cue_count T.head ≤ i → r ≡ refused_with 17 → left ≡ replicate (length lent) 0 → Promise (cue_number i) T lent r left
    promise_past h a b = promise_met (cue_number i) T lent left (accepted T e).0 (accepted T e).1 17 0 (cue_none h) r a b

    pub promise_cue :
        i < cue_count T.head → (k : ℕ) → k ≡ length lent → Filled (cue_written (cue_in T i)) k r left
        → Promise (cue_number i) T lent r left
    promise_cue h k q a = promise_done (cue_number i) T lent left (accepted T e).0 (accepted T e).1 _ (cue-text h) r k q a

-- ---- two outcomes that meet the promise are one
same_refusal : (x y : Refusal) → x.number ≡ y.number → x.place ≡ y.place → x ≡ y
same_refusal x y e f = ap₂ (λ (n p : ℕ). let z : Refusal = record { number = n; place = p } in z) e f

same_said : (a b : Result ℕ Refusal) → number_of a ≡ number_of b → place_of a ≡ place_of b → bytes_of a ≡ bytes_of b → a ≡ b
unfolding number_of place_of bytes_of
same_said (Ok n) (Ok m) e f g = let q : n ≡ m = cc in ap Ok q
same_said (Ok n) (Err y) e f g = no_some (sym g)
same_said (Err x) (Ok m) e f g = no_some g
same_said (Err x) (Err y) e f g = ap Err (same_refusal x y e f)

-- of equal tables and bytes there is one outcome
module _ (asked : Track Bytes → Outcome) (T : Tables) (lent : ℕ) where
  one_track : (t u : Track Bytes) → track_in T ≡ some t → track_in T ≡ some u → t ≡ u
  one_track t u a b = let e : some t ≡ some u = sym a ∙ b in cc

  one_outcome : (o v : Outcome) → Comes asked T lent o → Comes asked T lent v → o ≡ v
  one_outcome _ _ (short_table a) (short_table b) = refl
  one_outcome _ _ (short_table a) (no_track b c) = absurd (a b)
  one_outcome _ _ (short_table a) (of_track t b c) = absurd (a b)
  one_outcome _ _ (no_track a b) (short_table c) = absurd (c a)
  one_outcome _ _ (no_track a b) (no_track c d) = refl
  one_outcome _ _ (no_track a b) (of_track t c d) = no_some (sym b ∙ d)
  one_outcome _ _ (of_track t a b) (short_table c) = absurd (c a)
  one_outcome _ _ (of_track t a b) (no_track c d) = no_some (sym d ∙ b)
  one_outcome _ _ (of_track t a b) (of_track u c d) = ap (λ (k : Track Bytes). within lent (asked k)) (one_track t u b d)

-- whatever the input, if it allows one outcome
pub answers_determined :
    (may : Outcome → Type 0) → ((o v : Outcome) → may o → may v → o ≡ v) → (lent : List ℕ) (a b : Result ℕ Refusal) (u v : List ℕ) → Answers may lent a u
    → Answers may lent b v → (a ≡ b) × (u ≡ v)
answers_determined may one lent a b u v p q =
    let e : p.outcome ≡ q.outcome = one p.outcome q.outcome p.comes q.comes in (
      same_said a b (p.number ∙ (ap number_in e ∙ sym q.number)) (p.place ∙ (ap place_in e ∙ sym q.place)) (p.count ∙ (ap count_in e ∙ sym q.count)),
      p.bytes ∙ (ap (λ (o : Outcome). text_in_of o ++ replicate (length lent - length (text_in_of o)) 0) e ∙ sym q.bytes),
    )

pub determined :
    (asked : Track Bytes → Outcome) (T : Tables) (lent : List ℕ) (a b : Result ℕ Refusal) (u v : List ℕ) → Promise asked T lent a u
    → Promise asked T lent b v → (a ≡ b) × (u ≡ v)
determined asked T lent a b u v p q = answers_determined _ (one_outcome asked T (length lent)) lent a b u v p q
