-- What the functions on queries answer, by cases. Assumes nothing.
--     tell_style, tell_none, tell_refused    the cells of each answer
--     as_promised                            of an answer that a query promises
use Rattle.queries.specs.Reply.{Reply}
use Rattle.std.specs.Prelude.{Ok, Err}
use Prim.Native.Nat.{ℕ}
use mathlib.Core.Path.{◌≡◌, refl}
use mathlib.Core.List.{List}
use lib.ListN.{length}
use lib.Ieee.{Float}
use Rattle.tree.specs.declared.answers.Refusal.{Refusal}
use Rattle.track.specs.declared.values.Look.{Look}
use Rattle.track.specs.Tables.{span}
use Rattle.styles.specs.Cells.{blank_look}
use Rattle.queries.specs.declared.query.Styled.{Styled}
use Rattle.queries.specs.declared.query.Resolved.{Resolved}
use Rattle.told.specs.Queries.{AnswerPut, ToldAs, NoRoom, AnswersInC}
use Rattle.told.specs.Steps.{This}

module _ (x : Reply) {out out' : List ℕ} {size size' : List Float} where
  pub tell_style : (a : Styled) → x ≡ Ok (Resolved.Style a) → AnswerPut 0 1 a.ids a.name a.look out out' size size' → ToldAs x out out' size size' 0
  tell_style a e p = rw e (refl, p)

  pub tell_none : (n : ℕ) (b : Look) → x ≡ Ok (Resolved.NoStyle n) → b ≡ blank_look → AnswerPut 0 0 n (span 0 0) b out out' size size'
      → ToldAs x out out' size size' 0
  tell_none n b e f p = rw e (refl, rw f at p)

  pub tell_refused : (r : Refusal) (b : Look) → x ≡ Err r → b ≡ blank_look → AnswerPut r.place 0 0 (span 0 0) b out out' size size'
      → ToldAs x out out' size size' r.number
  tell_refused r b e f p = rw e (refl, rw f at p)

module _ {P : Reply → List ℕ → Type 0} {lent left out out' : List ℕ} {size size' : List Float} {r : ℕ} where
  pub as_promised : {x : Reply} {found : List ℕ} → length found ≡ length lent → P x found
      → AnswersInC (This x found) found left out out' size size' r → AnswersInC P lent left out out' size size' r
  as_promised {x} {found} l p a = record {
    room = λ g f.
        let w = a.room g f in
        record { answer = w.answer; promised = rw (w.promised.0, w.promised.1) p; number = w.number; is = w.is; stands = w.stands };
    no_cells = λ g. as_lent (a.no_cells g);
    no_float = λ g. as_lent (a.no_float g);
  }
    where
      as_lent : NoRoom found left out out' size size' r → NoRoom lent left out out' size size' r
      as_lent n = record { is = n.is; ids = rw (← l) n.ids; cells = n.cells; floats = n.floats }
