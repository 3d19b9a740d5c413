-- A track written, and what was written read back. Assumes nothing.
--     count_fits, count_stands     what is written stands in the bytes that are lent
--     nothing_read, returned       no text is read; what came of writing and reading
--     signed-more, signed_all      reading a cell tells that it is an i64, and past the end is none
use Rattle.std.specs.Prelude.{Result, Ok, Err, ⊤}
use Prim.Native.Nat.{ℕ, zero, suc, ◌+◌, ◌≤◌, ◌<◌, ◌^◌}
use mathlib.Core.Path.{◌≡◌, refl, sym}
use mathlib.Core.Logic.{◌⊎◌, inl, inr}
use mathlib.Core.List.{List, [], ◌∷◌}
use native.Mathlib.Omega.{arith}
use lib.Dec.{ltb}
use lib.ListN.{length, get_or, take}
use lib.Seq.{length-take-le}
use lib.IntN.{ℤ, pos}
use lib.Signed.{mag}
use borrow.Author.Tests.{ltb-true, ltb-false}
use Rattle.scan.proofs.Every.{by-test}
use Rattle.track.specs.Track.{Bytes, Track}
use Rattle.track.specs.Tables as track
use Rattle.grammar.specs.Tree.{Forest}
use Rattle.xml.specs.Reading.{Placed}
use Rattle.meaning.proofs.Computing.{computing}
use Rattle.meaning.proofs.Examples.{no_text}
use Rattle.laid.specs.Laid.{whole}
use Rattle.promised.specs.Promise.{number_of, Tables, AllZero, Takes, TurnsAway, Parsed}
use Rattle.promised.proofs.Numbers.{whole_numbers}
use Rattle.promised.proofs.Promises.{some_number}
use Rattle.promised.proofs.Determined.{decided}
use Rattle.promised.proofs.Cases.{parsed-refused}
use Rattle.writer.specs.Promise.{Outcome, Promise, whole_text}
use Rattle.rewritten.proofs.Fitting.{bytes_fit}
use Rattle.ttml.specs.declared.back.NotBack.{NotBack}
use Rattle.ttml.specs.ReadBack.{Signed, Returned}
use Rattle.ttml.specs.Steps.{count_of, outcome_of}
use Rattle.ttml.proofs.Demands.{demand_3}
use Rattle.tree.specs.declared.answers.Refusal.{Refusal}

-- ---- what is written stands in the bytes that are lent
module _ {asked : Track Bytes → Outcome} {T : track.Tables} {out left : Bytes} {n : ℕ} where
  pub count_fits : (answer : Result ℕ Refusal) → n ≡ count_of answer → Promise asked T out answer left → n ≤ length left
  count_fits (Ok m) e p = rw e (bytes_fit m p)
  count_fits (Err r) e p = omega (arith, e)

  pub count_stands : (answer : Result ℕ Refusal) → n ≡ count_of answer → Promise asked T out answer left → n ≡ length (take n left)
  count_stands answer e p = sym (length-take-le n left (count_fits answer e p))

-- ---- after a track was written
-- no text has no track, whatever tables are lent
pub nothing_read : {lent left : Tables} {answer : Result ⊤ Refusal} → Parsed [] lent answer left → AllZero lent left
unfolding computing
nothing_read {lent} {left} {answer} p = p.cleared (by (decided whole whole_numbers [] lent))
  where
    by : ((f : Forest) × (t : Track Placed) × Takes whole [] lent f t) ⊎ ((n : ℕ) × (i : ℕ) × TurnsAway whole [] lent n i) → 0 < number_of answer
    by (inl w) = omega (arith, (parsed-refused [] lent w.2.long_enough (omega arith) refl p no_text).0)
    by (inr w) =
        let l = some_number whole whole_numbers [] lent w.2 in
        omega (arith, l, ((p.refused w.0 w.1 l).1 w.2).0)

module _ {T : track.Tables} {out written : Bytes} {lent left : Tables} {n : ℕ} {r : Result ℕ NotBack} (signed : Signed T.times) where
  pub returned : (answer : Result ℕ Refusal) (reading : Result ⊤ Refusal) → n ≡ count_of answer → r ≡ outcome_of answer reading
      → Promise whole_text T out answer written → Parsed (take n written) lent reading left → Returned T out lent r written left
  returned (Ok m) (Ok tt) e o p q =
      let w : Parsed (take m written) lent (Ok tt) left = rw e at q in
      rw o (record {
        went = (p, w);
        comes = λ k b z t h plain.
            let f : m ≡ k = cc in
            rw (sym f) (demand_3.reads_back T t signed h plain out written m p lent left w);
      })
  returned (Ok m) (Err x) e o p q = rw o (record {
    went = (p, rw e at q);
    comes = λ k b z t h plain. absurd (let y : ◌≡◌ {A = ℕ} 0 1 = cc in omega arith);
  })
  returned (Err x) reading e o p q = rw o (record {
    went = (p, nothing_read (rw e at q));
    comes = λ k b z t h plain. absurd (let y : ◌≡◌ {A = ℕ} 0 1 = cc in omega arith);
  })

-- ---- the cells of times
abbrev pub SignedTo : ℕ → List ℤ → Type 0
SignedTo n times = (i : ℕ) → i < n → mag (get_or times i (pos 0)) < 2 ^ 63

pub signed-more : (times : List ℤ) (n : ℕ) → SignedTo n times → mag (get_or times n (pos 0)) < 2 ^ 63 → SignedTo (n + 1) times
signed-more times n h z i l =
    by-test (ltb i n) (λ e. h i (ltb-true i n e)) (λ e. let same : i ≡ n = omega (arith, ltb-false i n e) in rw same z)

past_end : (times : List ℤ) (i : ℕ) → length times ≤ i → mag (get_or times i (pos 0)) < 2 ^ 63
past_end [] i l = omega arith
past_end (x ∷ r) zero l = absurd (omega arith)
past_end (x ∷ r) (suc i) l = past_end r i (omega arith)

pub signed_all : (times : List ℤ) (n : ℕ) → SignedTo n times → length times ≤ n → Signed times
signed_all times n h l i =
    by-test (ltb i n) (λ e. h i (ltb-true i n e)) (λ e. past_end times i (omega (arith, ltb-false i n e)))
