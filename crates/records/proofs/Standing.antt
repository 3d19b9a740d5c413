-- Segments that stand in their table, as rows are put before and after them. Assumes nothing.
use Prim.Native.Nat.{ℕ, suc, ◌+◌, ◌-◌, ◌*◌, ◌≤◌}
use mathlib.Core.Path.{◌≡◌, sym, ap, ◌∙◌}
use mathlib.Core.List.{List, [], ◌∷◌, ◌++◌, append_assoc}
use native.Mathlib.Omega.{arith}
use lib.ListN.{length, length-append}
use Rattle.track.specs.declared.strings.Span.{Span}
use Rattle.track.specs.Track.{Wrapper, Segments, segment_rows, joined}
use Rattle.track.specs.Track as track
use Rattle.track.specs.Layout.{Sized, wrapper_of, preorder, joined_cells}
use Rattle.records.specs.Siblings.{cells_of, Stands, Room, later, and_these, and_cleared, Shifted, Put, Dropped}
use Rattle.track.proofs.SegmentsLaid.{rows-many}
use Rattle.records.proofs.SegmentRows.{rows-joined, cells-joined, wrap-cells, add_cells}
use Rattle.records.proofs.Dropping.{unwrap_cells}
pub use Rattle.records.proofs.SegmentRows.{cells-length}

-- none, at a row
pub stands_start : (pre rest t : List ℕ) (at : ℕ) → length pre ≡ at * 6 → t ≡ pre ++ rest → Stands pre rest at at track.done t
unfolding segment_rows preorder joined_cells
stands_start pre rest t at l e = record { count = omega arith; before = l; in_cells = e }

module _ (pre rest : List ℕ) (at n : ℕ) (f : Segments Span) (t : List ℕ) (s : Stands pre rest at n f t) where
  -- rows that the table has are in the rest
  pub stands_room : (k : ℕ) → (n + k) * 6 ≤ length t → Room k rest
  stands_room k h = omega (arith, s.count, s.before, cells-length f, simp length-append at (ap length s.in_cells))

  -- a wrapper around them all
  pub stands_wrap : (t' t'' : List ℕ) (x : Wrapper Span) → Room 1 rest → Shifted at n 1 t t' → Put at (1 + segment_rows f) (wrapper_of x) t' t''
      → Stands pre (later 1 rest) at (n + 1) (track.wrap x f track.done) t''
  unfolding segment_rows
  stands_wrap t' t'' x r m p =
      record {
        count = omega (arith, s.count);
        before = s.before;
        in_cells = wrap-cells pre rest t t' f at n s.in_cells s.before s.count t'' x r m p;
      }

  -- one row more
  pub stands_add : (t' : List ℕ) (h : Segments Span) (x : Sized) → preorder h ≡ x ∷ [] → Room 1 rest → Put n x.rows x.segment t t'
      → Stands pre (later 1 rest) at (n + 1) (joined f h) t'
  stands_add t' h x o r p =
      let one : segment_rows h ≡ 1 = sym (rows-many h) ∙ rw o in
      record {
        count = omega (arith, s.count, rows-joined f h);
        before = s.before;
        in_cells = add_cells pre rest t t' f at n s.in_cells s.before s.count h x o r p;
      }

  -- none yet, after these
  pub stands_none : Stands (and_these pre f) rest n n track.done t
  stands_none =
      stands_start (and_these pre f) rest t n (rw length-append (omega (arith, s.count, s.before, cells-length f)))
      (s.in_cells ∙ sym (append_assoc pre (cells_of (preorder f)) rest))

  -- those that stand after these, with them
  pub stands_join : (rest' : List ℕ) (m : ℕ) (g : Segments Span) (t' : List ℕ) → Stands (and_these pre f) rest' n m g t'
      → Stands pre rest' at m (joined f g) t'
  stands_join rest' m g t' s' =
      record {
        count = omega (arith, s.count, s'.count, rows-joined f g);
        before = s.before;
        in_cells = rw (cells-joined f g) (s'.in_cells ∙ simp append_assoc);
      }

-- `drop_segment` of a wrapper that is all of the rows: what it wraps stands, and a cleared row after it
pub stands_unwrap : (pre rest : List ℕ) (at n : ℕ) (x : Wrapper Span) (c : Segments Span) (t t' : List ℕ)
    → Stands pre rest at n (track.wrap x c track.done) t → Dropped at n t t' → Stands pre (and_cleared rest) at (n - 1) c t'
unfolding segment_rows
stands_unwrap pre rest at n x c t t' s d =
    let m : n ≡ at + suc (segment_rows c) = omega (arith, s.count) in
    record {
      count = omega arith;
      before = s.before;
      in_cells = unwrap_cells pre rest t t' x c at n s.in_cells s.before m d;
    }
