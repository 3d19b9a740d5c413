-- What the check answers, exactly. Assumes nothing.
--     check_short, check_none, check_track     its answer where a table is short, where the tables mean none, and where they mean one
--     track_some, track_none                   what the tables then hold
--     promised                                 that answer keeps the promise
--     determined, checked-is                   and no other does
use Rattle.std.specs.Prelude.{Result, Ok, Err, ⊤}
use Prim.Native.Nat.{ℕ, ◌<◌}
use mathlib.Core.Path.{◌≡◌, refl, sym, ap, ap₂, subst, ◌∙◌}
use mathlib.Core.Bool.{true, false}
use mathlib.Core.Option.{none, some}
use native.Mathlib.Omega.{arith}
use Rattle.scan.proofs.Every.{by-test}
use Rattle.decimals.proofs.Tests.{no}
use Rattle.tree.specs.declared.answers.Refusal.{Refusal}
use Rattle.track.specs.Tables.{Tables, lengths, LongEnough}
use Rattle.track.specs.Meaning.{is_track, track_at, track_in}
use Rattle.track.specs.Check.{number_of, place_of, Says, TurnsAway, short_table, no_track, Checked}
use Rattle.track.specs.Steps.{refused_as_of, is_full, check_of}
use Rattle.track.proofs.Answers.{long_full, full-long}

refusal_same : (x y : Refusal) → x.number ≡ y.number → x.place ≡ y.place → x ≡ y
refusal_same x y a b = ap₂ (λ (m n : ℕ). record { number = m; place = n }) a b

differ : {A : Type 0} {x y : Result ⊤ Refusal} → x ≡ y → (number_of x ≡ number_of y → ⊥) → A
unfolding number_of
differ e d = absurd (d (ap number_of e))

pub no_some : {A B : Type 0} {b : B} → none ≡ some b → A
no_some e = let z : ◌≡◌ {A = ℕ} 0 1 = cc in absurd (omega arith)

module _ (T : Tables) where
  pub check_short : is_full T ≡ false → check_of T ≡ refused_as_of 1
  unfolding check_of
  check_short e = rw e

  pub check_none : is_full T ≡ true → is_track T ≡ false → check_of T ≡ refused_as_of 17
  unfolding check_of
  check_none f e = rw (f, e)

  pub check_track : is_full T ≡ true → is_track T ≡ true → check_of T ≡ Ok tt
  unfolding check_of
  check_track f e = rw (f, e)

  pub track_some : is_track T ≡ true → track_in T ≡ some (track_at T)
  unfolding track_in
  track_some e = rw e

  pub track_none : is_track T ≡ false → track_in T ≡ none
  unfolding track_in
  track_none e = rw e

-- ---- the promise
no_number : {A : Type 0} {n : ℕ} → 0 < n → 0 ≡ n → A
no_number z e = absurd (omega arith)

same_said : (n : ℕ) → 0 < n → (r s : Result ⊤ Refusal) → Says r n 0 → Says s n 0 → r ≡ s
unfolding number_of place_of
same_said n z (Ok tt) s h g = no_number z h.0
same_said n z (Err x) (Ok tt) h g = no_number z g.0
same_said n z (Err x) (Err y) h g = ap Err (refusal_same x y (h.0 ∙ sym g.0) (h.1 ∙ sym g.1))

module _ (T : Tables) where
  -- the three ways, with what is said in each
  ways : {A : Type 0}
      → (LongEnough (lengths T) → track_in T ≡ some (track_at T) → check_of T ≡ (Ok tt) → A)
      → (LongEnough (lengths T) → track_in T ≡ none → check_of T ≡ refused_as_of 17 → A)
      → (¬ LongEnough (lengths T) → check_of T ≡ refused_as_of 1 → A) → A
  ways a b c =
      by-test (is_full T)
      (λ f. by-test (is_track T) (λ e. a (full-long T f) (track_some T e) (check_track T f e))
      (λ e. b (full-long T f) (track_none T e) (check_none T f e)))
      (λ f. c (λ l. no (sym (long_full T l) ∙ f)) (check_short T f))

  kept : Checked T (check_of T)
  unfolding number_of place_of
  kept = ways
      (λ l t e. record {
        taken = (λ s. (l, (track_at T, t)), λ h. e);
        refused = λ n p z. (λ s. absurd (omega (arith, rw e at s.0)), λ h. absurd (met l t n p h));
      })
      (λ l t e. record {
        taken = (λ s. differ (sym s ∙ e) (λ q. omega arith), λ h. no_some (sym t ∙ h.1.1));
        refused = λ n p z. (λ s. said (no_track l t) (rw e at s.0) (rw e at s.1), λ h. seventeen l e n p h);
      })
      (λ l e. record {
        taken = (λ s. differ (sym s ∙ e) (λ q. omega arith), λ h. absurd (l h.0));
        refused = λ n p z. (λ s. said (short_table l) (rw e at s.0) (rw e at s.1), λ h. one l e n p h);
      })
    where
      met : LongEnough (lengths T) → track_in T ≡ some (track_at T) → (n p : ℕ) → TurnsAway T n p → ⊥
      met l t n p (short_table h) = h l
      met l t n p (no_track h e) = no_some (sym e ∙ t)

      said : {a n p : ℕ} → TurnsAway T a 0 → a ≡ n → 0 ≡ p → TurnsAway T n p
      said {a} {n} {p} h e f = subst (λ k. TurnsAway T k p) e (subst (λ k. TurnsAway T a k) f h)

      seventeen : LongEnough (lengths T) → check_of T ≡ refused_as_of 17 → (n p : ℕ) → TurnsAway T n p → Says (check_of T) n p
      seventeen l e n p (short_table h) = absurd (h l)
      seventeen l e n p (no_track h t) = rw e (refl, refl)

      one : ¬ LongEnough (lengths T) → check_of T ≡ refused_as_of 1 → (n p : ℕ) → TurnsAway T n p → Says (check_of T) n p
      one l e n p (short_table h) = rw e (refl, refl)
      one l e n p (no_track h t) = absurd (l h)

  pub promised : {r : Result ⊤ Refusal} → r ≡ check_of T → Checked T r
  promised e = subst (Checked T) (sym e) kept

  -- two answers that keep the promise are the same
  pub determined : (r s : Result ⊤ Refusal) → Checked T r → Checked T s → r ≡ s
  determined r s a b = ways
      (λ l t e. a.taken.1 (l, (track_at T, t)) ∙ sym (b.taken.1 (l, (track_at T, t))))
      (λ l t e. let k = no_track l t in same_said 17 (omega arith) r s ((a.refused 17 0 (omega arith)).1 k) ((b.refused 17 0 (omega arith)).1 k))
      (λ l e. let k = short_table l in same_said 1 (omega arith) r s ((a.refused 1 0 (omega arith)).1 k) ((b.refused 1 0 (omega arith)).1 k))

  -- so the tests of the program are the answer of everything that keeps it
  pub checked-is : {r : Result ⊤ Refusal} → Checked T r → r ≡ check_of T
  checked-is {r} c = determined r (check_of T) c kept
