-- Blank tables, and what is stored in them first. Assumes nothing.
--     filled-from         cells stored at the start of a blank table
--     blank-as            a table that was as long is blank
--     Blank, lined_none   what the tables of cues are before the first cue
use Prim.Native.Nat.{ℕ, ◌-◌, ◌≤◌}
use mathlib.Core.Path.{◌≡◌, refl, ap, ◌∙◌}
use mathlib.Core.List.{List, []}
use native.Mathlib.Omega.{arith}
use native.Mathlib.Nat.{sub-zero}
use lib.IntN.{pos}
use lib.ListN.{length, replicate}
use lib.Seq.{sets}
use Rattle.track.specs.Layout.{each, filled, joined_cells, all_segments}
use Rattle.track.specs.Layout as placing
use Rattle.records.proofs.RowLaws.{filled_more}
use Rattle.xml.specs.Reading.{lay}
use Rattle.meaning.specs.Cues.{made_in}
use Rattle.laid.specs.Laid.{laid_cues, total, cue_texts}
use Rattle.cues.specs.Steps.{CueTables, Base, Lined, no_line}

-- cells stored at the start of a blank table
pub filled-from : (n : ℕ) {h h' row cells : List ℕ} → h ≡ replicate n 0 → row ≡ cells → length cells ≤ n → h' ≡ sets h 0 row → h' ≡ filled n cells
filled-from n {h} {h'} {row} {cells} b e k p =
    let w : sets (replicate (n - 0) 0) 0 cells ≡ filled n cells = filled_more 0 [] cells n (omega arith) in
    p ∙ ap (λ (l : List ℕ). sets l 0 row) b ∙ ap (sets (replicate n 0) 0) e ∙ (rw sub-zero at w)

pub blank-as : {A : Type 0} {a b : ℕ} → a ≡ b → (x : A) {l : List A} → l ≡ replicate a x → l ≡ replicate b x
blank-as h x e = rw h at e

-- no cue
pub record Blank (b : Base) (T : CueTables) : Type 0 where
  pub cues : T.cues ≡ replicate b.lengths.cues 0
  pub times : T.times ≡ replicate b.lengths.times (pos 0)
  pub segments : T.segments ≡ replicate b.lengths.segments 0
  pub extras : T.extras ≡ b.extras
  pub texts : T.texts ≡ replicate b.lengths.texts 0

pub lined_none : {b : Base} {T : CueTables} → Blank b T → Lined b 0 [] (no_line b.rows) T
unfolding made_in total laid_cues joined_cells all_segments each placing.cue_extras cue_texts lay
lined_none x = record {
  many = refl;
  made = refl;
  kept = omega arith;
  few_cues = omega arith;
  few_rows = omega arith;
  in-cues = x.cues ∙ rw sub-zero;
  in_times = x.times ∙ rw sub-zero;
  in_cells = x.segments ∙ rw sub-zero;
  in_extras = x.extras;
  in_texts = x.texts;
  order = omega arith;
  room = omega arith;
}
