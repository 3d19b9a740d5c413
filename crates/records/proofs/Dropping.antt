-- A row dropped from a table, and what stands then. Assumes nothing.
--     dropped     cells of any type; unwrap_cells     the row of a wrapper, so that what it wraps stands
use Prim.Native.Nat.{ℕ, suc, ◌+◌, ◌-◌, ◌*◌, ◌≤◌}
use mathlib.Core.Path.{◌≡◌, ◌∙◌}
use mathlib.Core.List.{List, ◌++◌, append_assoc}
use native.Mathlib.Omega.{arith}
use lib.ListN.{length, take, drop, replicate, length-append, length-drop, length-replicate}
use lib.Seq.{sets, sets-eq, length-take-le, take_at, drop_at}
use Rattle.track.specs.declared.strings.Span.{Span}
use Rattle.track.specs.Track.{Wrapper, Segments, segment_rows}
use Rattle.track.specs.Track as track
use Rattle.track.specs.Layout.{preorder}
use Rattle.records.specs.Siblings.{row_cells, cells_of, pulled, without_cells}
use Rattle.records.proofs.SegmentRows.{sets_after, wrapper_row_lem, row-wide, cells-length, cells-wrapped}

module _ {A : Type 0} (z : A) where
  -- cells are pulled over those that are dropped, and as many at the end are cleared
  pub dropped : (t t' t'' : List A) (at end w : ℕ) → at + w ≤ end → end ≤ length t → t' ≡ pulled at end w t
      → t'' ≡ sets t' (end - w) (replicate w z) → t'' ≡ without_cells z w at end t
  dropped t t' t'' at end w h g e f =
      let run : List A = take (end - (at + w)) (drop (at + w) t) in
      let clear : List A = replicate w z in
      let l : length run ≡ end - (at + w) = length-take-le (end - (at + w)) (drop (at + w) t) (rw length-drop (omega arith)) in
      let c : length clear ≡ w = length-replicate w z in
      let place : end - w ≡ at + length run = omega arith in
      let last : at + length (run ++ clear) ≡ end = rw length-append (omega arith) in
      f ∙ rw (e, place) (sets_after run clear t at) ∙ sets-eq (run ++ clear) t at (omega arith) ∙ rw last (simp append_assoc)

  -- a row that stands before a body is dropped
  pub without-row : (pre row body rest t : List A) (w at end : ℕ) → t ≡ pre ++ ((row ++ body) ++ rest) → length pre ≡ at → length row ≡ w
      → end ≡ at + w + length body → without_cells z w at end t ≡ pre ++ (body ++ (replicate w z ++ rest))
  without-row pre row body rest t w at end e p r n =
      let one : t ≡ (pre ++ row) ++ (body ++ rest) = e ∙ simp append_assoc in
      let two : t ≡ ((pre ++ row) ++ body) ++ rest = e ∙ simp append_assoc in
      let first : take at t ≡ pre = rw e (take_at pre ((row ++ body) ++ rest) at p) in
      let after : drop (at + w) t ≡ body ++ rest =
      rw one (drop_at (pre ++ row) (body ++ rest) (at + w) (rw length-append (omega arith))) in
      let part : take (end - (at + w)) (body ++ rest) ≡ body = take_at body rest (end - (at + w)) (omega arith) in
      let last : drop end t ≡ rest = rw two (drop_at ((pre ++ row) ++ body) rest end (simp length-append (omega arith))) in
      rw (first, after, part, last)

-- the row of a wrapper
pub unwrap_cells : (pre rest t t' : List ℕ) (x : Wrapper Span) (c : Segments Span) (at n : ℕ)
    → t ≡ pre ++ (cells_of (preorder (track.wrap x c track.done)) ++ rest) → length pre ≡ at * 6 → n ≡ at + suc (segment_rows c)
    → t' ≡ without_cells 0 6 (at * 6) (n * 6) t → t' ≡ pre ++ (cells_of (preorder c) ++ (replicate 6 0 ++ rest))
unwrap_cells pre rest t t' x c at n e p m d =
    let body : List ℕ = cells_of (preorder c) in
    let row : List ℕ = row_cells (wrapper_row_lem x c) in
    let end : n * 6 ≡ at * 6 + 6 + length body = omega (arith, m, cells-length c) in
    d ∙ without-row 0 pre row body rest t 6 (at * 6) (n * 6) (rw (cells-wrapped x c) at e) p (row-wide (wrapper_row_lem x c)) end
