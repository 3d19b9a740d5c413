-- How segments stand in their table. Definitions alone.
use Rattle.std.specs.Prelude.{ℕ, ◌+◌, ◌-◌, ◌*◌, ◌≤◌, ◌≡◌, List, [], ◌∷◌, ◌++◌, length, take, drop, replicate}
use Rattle.std.proofs.lemmas.List.Edits.{sets}
use Rattle.scan.specs.Part.{part}
use Rattle.track.specs.declared.strings.Span.{Span}
use Rattle.track.specs.declared.segments.Segment.{Segment}
use Rattle.track.specs.Track.{Wrapper, Segments, segment_rows}
use Rattle.track.specs.Layout.{Sized, wrapper_of, preorder, joined_cells, segment_cells}

-- the rows of those wrappers, around n rows
unfoldable pub wrapper_rows : List (Wrapper Span) → ℕ → List Sized
unfolding wrapper_of
wrapper_rows [] n = []
wrapper_rows (x ∷ l) n = record { segment = wrapper_of x; rows = 1 + (length l + n) } ∷ wrapper_rows l n

abbrev pub row_cells : Sized → List ℕ
row_cells x = segment_cells x.segment x.rows

abbrev pub cells_of : List Sized → List ℕ
cells_of l = joined_cells row_cells l

-- ---- cells of a table moved
-- those from `at + by` up to `end`, by so many places toward the start
abbrev pub pulled : {A : Type 0} → (at end by : ℕ) → List A → List A
pulled at end by t = sets t at (take (end - (at + by)) (drop (at + by) t))

-- the w cells at `at` dropped: those after them, up to `end`, stand w cells earlier, and w cells z follow them
abbrev pub without_cells : {A : Type 0} → A → (w at end : ℕ) → List A → List A
without_cells z w at end t = take at t ++ (take (end - (at + w)) (drop (at + w) t) ++ (replicate w z ++ drop end t))

-- ---- the table of segments, or parts of it
-- the segments f stand in rows `at` up to n of the table t, after what stands in `pre` and before what stands in `rest`
pub record Stands (pre rest : List ℕ) (at n : ℕ) (f : Segments Span) (t : List ℕ) : Type 0 where
  pub count : n ≡ at + segment_rows f
  pub before : length pre ≡ at * 6
  pub in_cells : t ≡ pre ++ (cells_of (preorder f) ++ rest)

-- with k rows more before the rest
abbrev pub Room : ℕ → List ℕ → Type 0
Room k rest = k * 6 ≤ length rest

-- the rest without its first k rows
abbrev pub later : ℕ → List ℕ → List ℕ
later k x = drop (k * 6) x

-- what stands before, and these segments after it
abbrev pub and_these : List ℕ → Segments Span → List ℕ
and_these x f = x ++ cells_of (preorder f)

-- a cleared row before the rest
abbrev pub and_cleared : List ℕ → List ℕ
and_cleared x = replicate 6 0 ++ x

-- what `shift_segments`, `put_segment` and `drop_segment` ensure
abbrev pub Shifted : (at end by : ℕ) (t t' : List ℕ) → Type 0
Shifted at end by t t' = t' ≡ sets t ((at + by) * 6) (part (at * 6) (end * 6) t)

abbrev pub Put : (i rows : ℕ) → Segment → (t t' : List ℕ) → Type 0
Put i rows s t t' = t' ≡ sets t (i * 6) (segment_cells s rows)

abbrev pub Dropped : (at end : ℕ) (t t' : List ℕ) → Type 0
Dropped at end t t' = t' ≡ without_cells 0 6 (at * 6) (end * 6) t
