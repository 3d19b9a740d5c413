-- What the call promises. Assumes nothing.
--     decided_no, decided_yes            what a test tells
--     rows-far, cue_decided              when the cue is there
--     determined                         two outcomes that meet the promise are one
use Rattle.std.specs.Prelude.{Result}
use Prim.Native.Nat.{ℕ, ◌+◌, ◌≤◌, ◌<◌}
use mathlib.Core.Path.{◌≡◌, refl, sym, ◌∙◌}
use mathlib.Core.Bool.{Bool, true, false, not, false≢true}
use mathlib.Core.List.{List}
use native.Mathlib.Omega.{arith}
use lib.ListN.{length}
use Rattle.track.specs.Tables.{cue_count}
use Rattle.track.specs.Meaning.{all_rows}
use Rattle.walk.specs.Text.{row_within_of}
use Rattle.writer.specs.Promise.{Outcome}
use Rattle.writer.proofs.Promised.{answers_determined}
use Rattle.spoken.specs.Promise.{Tables, first_row, row_count, HasCue, Comes, short_table, no_cue, of_cue, PlainText}
use Rattle.spoken.specs.Steps.{Decides}
use Rattle.tree.specs.declared.answers.Refusal.{Refusal}

-- ---- after `if !f(..)`
pub decided_no : (P : Type 0) (r : Bool) → Decides P r → not r ≡ true → ¬ P
decided_no P true d e = absurd (false≢true e)
decided_no P false d e = d

pub decided_yes : (P : Type 0) (r : Bool) → Decides P r → not r ≡ false → P
decided_yes P true d e = d
decided_yes P false d e = absurd (false≢true (sym e))

-- ---- the cue, whose rows are b from row a on
module _ (T : Tables) (i a b : ℕ) (e : a ≡ first_row T i) (f : b ≡ row_count T i) where
  pub rows-far : 16384 < a + b → ¬ HasCue T i
  rows-far h k = omega (arith, h, e, f, k.rows)

  texts_far : all_rows (row_within_of T.segments) b a ≡ false → ¬ HasCue T i
  texts_far h k = false≢true (sym h ∙ rw (e, f) k.within-texts)

  cue-found : i < cue_count T.head → i < 2048 → a + b ≤ 16384 → all_rows (row_within_of T.segments) b a ≡ true → HasCue T i
  cue-found c r n w = record { counted = c; row = r; rows = omega (arith, n, e, f); within-texts = rw (e, f) at w }

  pub cue_decided : i < cue_count T.head → i < 2048 → a + b ≤ 16384 → (r : Bool) → r ≡ all_rows (row_within_of T.segments) b a → Decides (HasCue T i) r
  cue_decided c d n true w = cue-found c d n (sym w)
  cue_decided c d n false w = texts_far (sym w)

one_outcome : (T : Tables) (i lent : ℕ) (o v : Outcome) → Comes T i lent o → Comes T i lent v → o ≡ v
one_outcome T i lent _ _ (short_table a) (short_table b) = refl
one_outcome T i lent _ _ (short_table a) (no_cue b c) = absurd (a b)
one_outcome T i lent _ _ (short_table a) (of_cue b c) = absurd (a b)
one_outcome T i lent _ _ (no_cue a b) (short_table c) = absurd (c a)
one_outcome T i lent _ _ (no_cue a b) (no_cue c d) = refl
one_outcome T i lent _ _ (no_cue a b) (of_cue c d) = absurd (b d)
one_outcome T i lent _ _ (of_cue a b) (short_table c) = absurd (c a)
one_outcome T i lent _ _ (of_cue a b) (no_cue c d) = absurd (d b)
one_outcome T i lent _ _ (of_cue a b) (of_cue c d) = refl

pub determined : (T : Tables) (i : ℕ) (lent : List ℕ) (a b : Result ℕ Refusal) (u v : List ℕ) → PlainText T i lent a u → PlainText T i lent b v
    → (a ≡ b) × (u ≡ v)
determined T i lent a b u v p q = answers_determined _ (one_outcome T i (length lent)) lent a b u v p q
