-- What stands beside the rows grows with them: times, the f32 of sizes, extras. Assumes nothing.
--     each_append, each-length, cell-added, sets_right     lists, cell by cell
--     times_added, style_size_added, extras_added     one more
use Prim.Native.Nat.{ℕ, suc, ◌+◌, ◌-◌, ◌*◌, ◌≤◌}
use mathlib.Core.List.{List, [], ◌∷◌, ◌++◌, append-nil}
use mathlib.Core.Path.{◌≡◌, refl, ap, ◌∙◌}
use native.Mathlib.Omega.{arith}
use native.Mathlib.Nat.{add-suc, suc-add, suc-mul, add-mul}
use lib.IntN.{pos}
use lib.ListN.{length, set, replicate}
use lib.Seq.{sets}
use Rattle.scan.proofs.Stores.{sets_append}
use Rattle.track.specs.declared.values.Extra.{Extra}
use Rattle.track.specs.declared.values.Rows.{Rows}
use Rattle.track.specs.Tables.{zero_float}
use Rattle.track.specs.Layout.{each, joined_cells, filled_times, filled_sizes, cue_times, style_size, extra_cells, lay_extras}
use Rattle.track.specs.Layout.{PlacedStyle, PlacedCue}
use Rattle.records.proofs.RowLaws.{filled_more, joined-append, joined_length, extra_wide}

-- ---- lists, cell by cell
module _ {A B : Type 0} (g : A → B) where
  pub each_append : (a b : List A) → each g (a ++ b) ≡ each g a ++ each g b
  unfolding each
  each_append [] b = refl
  each_append (x ∷ a) b = rw (each_append a b)

  pub each-length : (l : List A) → length (each g l) ≡ length l
  unfolding each
  each-length [] = refl
  each-length (x ∷ l) = ap suc (each-length l)

  -- a cell more in a table that is filled up
  pub cell-added : (z : B) (n : ℕ) (l : List A) (x : A) → length l + 1 ≤ n
      → let a = each g l in let b = each g (l ++ (x ∷ [])) in
      sets (a ++ replicate (n - length a) z) (length l) (g x ∷ []) ≡ b ++ replicate (n - length b) z
  unfolding each
  cell-added z n l x h =
      let e : length (each g l) ≡ length l = each-length l in
      rw (← e, each_append l (x ∷ [])) (filled_more z (each g l) (g x ∷ []) n (omega arith))

module _ {A : Type 0} where
  -- a run stored in the second of two tables
  set_right : (a b : List A) (i : ℕ) (x : A) → set (a ++ b) (length a + i) x ≡ a ++ set b i x
  set_right [] b i x = ap (λ (k : ℕ). set b k x) (omega arith)
  set_right (y ∷ a) b i x = rw (suc-add (length a) i) (ap (λ (l : List A). y ∷ l) (set_right a b i x))

  pub sets_right : (v a b : List A) (i : ℕ) → sets (a ++ b) (length a + i) v ≡ a ++ sets b i v
  sets_right [] a b i = refl
  sets_right (x ∷ v) a b i = rw (set_right a b i x, ← (add-suc (length a) i)) (sets_right v a (set b i x) (suc i))

-- ---- times of cues
pub times_append : (a b : List PlacedCue) → cue_times (a ++ b) ≡ cue_times a ++ cue_times b
times_append [] b = refl
times_append (x ∷ a) b = rw (times_append a b)

pub times_length : (l : List PlacedCue) → length (cue_times l) ≡ length l * 2
times_length [] = refl
times_length (x ∷ l) =
    let e = times_length l in
    rw suc-mul (omega arith)

-- a cue's times more
pub times_added : (n : ℕ) (l : List PlacedCue) (x : PlacedCue) → length l * 2 + 2 ≤ n
    → sets (filled_times n (cue_times l)) (length l * 2) (x.cue.start ∷ x.cue.end ∷ []) ≡ filled_times n (cue_times (l ++ (x ∷ [])))
times_added n l x h =
    let e : length (cue_times l) ≡ length l * 2 = times_length l in
    rw (← e, times_append l (x ∷ [])) (filled_more (pos 0) (cue_times l) (x.cue.start ∷ x.cue.end ∷ []) n (omega arith))

-- ---- sizes of styles
pub style_size_added : (n : ℕ) (l : List PlacedStyle) (x : PlacedStyle) → length l + 1 ≤ n
    → sets (filled_sizes n (each style_size l)) (length l) (style_size x ∷ []) ≡ filled_sizes n (each style_size (l ++ (x ∷ [])))
style_size_added n l x h = cell-added style_size zero_float n l x h

-- ---- extras
pub extras_added : (t : List ℕ) (x : Rows) (l : List Extra) (e : Extra)
    → sets (lay_extras t x l) ((x.first + length l) * 3) (extra_cells e) ≡ lay_extras t x (l ++ (e ∷ []))
unfolding lay_extras joined_cells
extras_added t x l e =
    let a = joined_cells extra_cells l in
    let k : length a ≡ length l * 3 = joined_length extra_cells 3 extra_wide l in
    let p : (x.first + length l) * 3 ≡ x.first * 3 + length a = rw add-mul (omega arith) in
    let j : joined_cells extra_cells (l ++ (e ∷ [])) ≡ a ++ extra_cells e = joined-append extra_cells l (e ∷ []) ∙ rw append-nil in
    rw (p, j) (sets_append a (extra_cells e) t (x.first * 3))
