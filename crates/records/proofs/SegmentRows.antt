-- Rows of segments in their table: a wrapper is put before rows that stand already, and a segment after them. Assumes nothing.
use Prim.Native.Nat.{ℕ, suc, ◌+◌, ◌-◌, ◌*◌, ◌≤◌}
use mathlib.Core.Path.{◌≡◌, refl, sym, ap, ◌∙◌}
use mathlib.Core.List.{List, [], ◌∷◌, ◌++◌, append-nil, append_assoc}
use native.Mathlib.Omega.{arith}
use native.Mathlib.Nat.{add-zero, add-suc, suc-add, add_comm}
use lib.ListN.{length, set, take, drop, length-append, length-drop, take-append-drop}
use lib.Seq.{sets, sets-eq, length-take-le, take-append_seam, take_at, drop_at, drop-drop, drop-append-add}
use lib.IntN.{ℤ}
use Rattle.track.specs.declared.strings.Span.{Span}
use Rattle.track.specs.declared.segments.Segment.{Segment}
use Rattle.track.specs.Track.{Wrapper, Segments, segment_rows, joined, wrapped}
use Rattle.track.specs.Track as track
use Rattle.track.specs.Layout.{Sized, wrapper_of, preorder, joined_cells}
use Rattle.scan.specs.Part.{part}
use Rattle.records.specs.Siblings.{wrapper_rows, row_cells, cells_of}
use Rattle.records.proofs.RowLaws.{joined-append, joined_length, segment_wide}
use Rattle.track.proofs.SegmentsLaid.{rows-many}

-- ---- lists of cells, of any type
module _ {A : Type 0} where
  -- cells over as many others
  pub sets_at : (p a b r : List A) (i : ℕ) → length p ≡ i → length a ≡ length b → sets (p ++ (a ++ r)) i b ≡ p ++ (b ++ r)
  sets_at p a b r i h e =
      let last : drop (i + length b) (p ++ (a ++ r)) ≡ r =
      rw (← (append_assoc p a r)) (drop_at (p ++ a) r (i + length b) (rw length-append (omega arith))) in
      sets-eq b (p ++ (a ++ r)) i (simp length-append (omega arith)) ∙ rw (take_at p (a ++ r) i h, last, append_assoc)

  -- what is stored after a run
  pub sets_after : (a b t : List A) (i : ℕ) → sets (sets t i a) (i + length a) b ≡ sets t i (a ++ b)
  sets_after [] b t i = rw (add-zero i)
  sets_after (x ∷ a) b t i = rw (add-suc i (length a), ← (suc-add i (length a))) (sets_after a b (set t i x) (suc i))

  -- the body is moved by as many cells as the head has, and the head put before it
  pub put_before : (pre body head rest t t' t'' : List A) (at by : ℕ) → t ≡ pre ++ (body ++ rest) → length pre ≡ at → length head ≡ by
      → by ≤ length rest
      → t' ≡ sets t (at + by) (take (length body) (drop at t)) → t'' ≡ sets t' at head → t'' ≡ pre ++ (head ++ (body ++ drop by rest))
  put_before pre body head rest t t' t'' at by e p h k e' e'' =
      let m : List A = body ++ rest in
      let a : List A = take (length body) (drop by m) in
      let over : length body ≤ length (drop by m) = simp (length-drop, length-append) (omega arith) in
      let all : by ≤ length m = simp length-append (omega arith) in
      let la : length a ≡ length body = length-take-le (length body) (drop by m) over in
      let lt : length (take by m) ≡ by = length-take-le by m all in
      let piece : take (length body) (drop at t) ≡ body = rw (e, drop_at pre m at p) (take-append_seam body rest) in
      let end : drop (length body) (drop by m) ≡ drop by rest =
      drop-drop (length body) by m ∙ rw (add_comm by (length body)) (drop-append-add body rest by) in
      let parts : m ≡ take by m ++ (a ++ drop by rest) =
      sym (take-append-drop by m) ∙ ap (λ (l : List A). take by m ++ l)
      (sym (take-append-drop (length body) (drop by m)) ∙ ap (λ (l : List A). a ++ l) end) in
      let whole : t ≡ (pre ++ take by m) ++ (a ++ drop by rest) =
      e ∙ ap (λ (l : List A). pre ++ l) parts ∙ sym (append_assoc pre (take by m) (a ++ drop by rest)) in
      let moved : t' ≡ (pre ++ take by m) ++ (body ++ drop by rest) =
      e' ∙ ap (λ (l : List A). sets t (at + by) l) piece ∙ ap (λ (l : List A). sets l (at + by) body) whole
      ∙ sets_at (pre ++ take by m) a body (drop by rest) (at + by) (rw length-append (omega arith)) la in
      e'' ∙ ap (λ (l : List A). sets l at head) (moved ∙ append_assoc pre (take by m) (body ++ drop by rest))
      ∙ sets_at pre (take by m) head (body ++ drop by rest) at p (lt ∙ sym h)

  -- a row after the body
  pub put_after : (pre body row rest t t' : List A) (n w : ℕ) → t ≡ pre ++ (body ++ rest) → length pre + length body ≡ n → length row ≡ w
      → w ≤ length rest
      → t' ≡ sets t n row → t' ≡ pre ++ ((body ++ row) ++ drop w rest)
  put_after pre body row rest t t' n w e p h k e' =
      let l : length (take w rest) ≡ length row = length-take-le w rest k ∙ sym h in
      let whole : t ≡ (pre ++ body) ++ (take w rest ++ drop w rest) = e ∙ rw (take-append-drop w rest, append_assoc) in
      e' ∙ ap (λ (x : List A). sets x n row) whole ∙ sets_at (pre ++ body) (take w rest) row (drop w rest) n (rw length-append p) l
      ∙ simp append_assoc

-- ---- segments in preorder
pub preorder-joined : (f g : Segments Span) → preorder (joined f g) ≡ preorder f ++ preorder g
unfolding preorder joined
preorder-joined track.done g = refl
preorder-joined (track.text s x) g = rw (preorder-joined x g)
preorder-joined (track.break x) g = rw (preorder-joined x g)
preorder-joined (track.timestamp t x) g = rw (preorder-joined x g)
preorder-joined (track.wrap w c x) g = rw (preorder-joined x g, append_assoc)

pub rows-joined : (f g : Segments Span) → segment_rows (joined f g) ≡ segment_rows f + segment_rows g
rows-joined f g =
    let e : length (preorder (joined f g)) ≡ length (preorder f) + length (preorder g) =
    rw (preorder-joined f g) (length-append (preorder f) (preorder g)) in
    rw (rows-many (joined f g), rows-many f, rows-many g) at e

pub joined-done : {S : Type 0} (f : Segments S) → joined f track.done ≡ f
unfolding joined
joined-done track.done = refl
joined-done (track.text s x) = rw (joined-done x)
joined-done (track.break x) = rw (joined-done x)
joined-done (track.timestamp t x) = rw (joined-done x)
joined-done (track.wrap w c x) = rw (joined-done x)

pub joined-assoc : {S : Type 0} (f g h : Segments S) → joined (joined f g) h ≡ joined f (joined g h)
unfolding joined
joined-assoc track.done g h = refl
joined-assoc (track.text s x) g h = rw (joined-assoc x g h)
joined-assoc (track.break x) g h = rw (joined-assoc x g h)
joined-assoc (track.timestamp t x) g h = rw (joined-assoc x g h)
joined-assoc (track.wrap w c x) g h = rw (joined-assoc x g h)

pub rows-wrapped : (l : List (Wrapper Span)) (f : Segments Span) → segment_rows (wrapped l f) ≡ length l + segment_rows f
unfolding wrapped segment_rows
rows-wrapped [] f = omega arith
rows-wrapped (x ∷ l) f = let i = rows-wrapped l f in omega arith

pub preorder-wrapped : (l : List (Wrapper Span)) (f : Segments Span) → preorder (wrapped l f) ≡ wrapper_rows l (segment_rows f) ++ preorder f
unfolding wrapped wrapper_rows preorder
preorder-wrapped [] f = refl
preorder-wrapped (x ∷ l) f = rw (rows-wrapped l f, append-nil (preorder (wrapped l f)), preorder-wrapped l f)

pub wrappers_length : (l : List (Wrapper Span)) (n : ℕ) → length (wrapper_rows l n) ≡ length l
unfolding wrapper_rows
wrappers_length [] n = refl
wrappers_length (x ∷ l) n = rw (wrappers_length l n)

-- ---- their rows in the table
-- the row of a wrapper around these
abbrev pub wrapper_row_lem : Wrapper Span → Segments Span → Sized
wrapper_row_lem x f = record { segment = wrapper_of x; rows = 1 + segment_rows f }

pub row-wide : (x : Sized) → length (row_cells x) ≡ 6
row-wide x = segment_wide x.segment x.rows

pub cells-length : (f : Segments Span) → length (cells_of (preorder f)) ≡ segment_rows f * 6
cells-length f = joined_length row_cells 6 row-wide (preorder f) ∙ rw (rows-many f)

pub cells-joined : (f g : Segments Span) → cells_of (preorder (joined f g)) ≡ cells_of (preorder f) ++ cells_of (preorder g)
cells-joined f g = rw (preorder-joined f g) (joined-append row_cells (preorder f) (preorder g))

pub cells-wrapped : (x : Wrapper Span) (f : Segments Span)
    → cells_of (preorder (track.wrap x f track.done)) ≡ row_cells (wrapper_row_lem x f) ++ cells_of (preorder f)
unfolding preorder joined_cells
cells-wrapped x f = rw (append-nil (preorder f))

module _ (pre rest t t' : List ℕ) (f : Segments Span) (at n : ℕ) (e : t ≡ pre ++ (cells_of (preorder f) ++ rest)) (p : length pre ≡ at * 6)
    (m : n ≡ at + segment_rows f) where
  -- `shift_segments` by one and `put_segment` of a wrapper
  pub wrap-cells : (t'' : List ℕ) (x : Wrapper Span) → 6 ≤ length rest → t' ≡ sets t ((at + 1) * 6) (part (at * 6) (n * 6) t)
      → t'' ≡ sets t' (at * 6) (row_cells (wrapper_row_lem x f))
      → t'' ≡ pre ++ (cells_of (preorder (track.wrap x f track.done)) ++ drop 6 rest)
  wrap-cells t'' x k e' e'' =
      let body : List ℕ = cells_of (preorder f) in
      let row : List ℕ = row_cells (wrapper_row_lem x f) in
      let next : (at + 1) * 6 ≡ at * 6 + 6 = omega arith in
      let many : n * 6 - at * 6 ≡ length body = omega (arith, m, cells-length f) in
      rw (cells-wrapped x f, append_assoc row body (drop 6 rest))
      (put_before pre body row rest t t' t'' (at * 6) 6 e p (row-wide (wrapper_row_lem x f)) k (rw (next, many) at e') e'')

  -- a segment more that has one row
  pub add_cells : (h : Segments Span) (x : Sized) → preorder h ≡ x ∷ [] → 6 ≤ length rest → t' ≡ sets t (n * 6) (row_cells x)
      → t' ≡ pre ++ (cells_of (preorder (joined f h)) ++ drop 6 rest)
  unfolding joined_cells
  add_cells h x o k e' =
      let body : List ℕ = cells_of (preorder f) in
      rw (cells-joined f h, o, append-nil (row_cells x))
      (put_after pre body (row_cells x) rest t t' (n * 6) 6 e (omega (arith, m, p, cells-length f)) (row-wide x) k e')

-- those that have one row
pub text-one : (s : Span) → preorder (track.text s track.done) ≡ record { segment = Segment.Text s; rows = 1 } ∷ []
unfolding preorder
text-one s = refl

pub break-one : preorder (track.break track.done) ≡ record { segment = Segment.Break; rows = 1 } ∷ []
unfolding preorder
break-one = refl

pub timestamp-one : (t : ℤ) → preorder (track.timestamp t track.done) ≡ record { segment = Segment.Timestamp t; rows = 1 } ∷ []
unfolding preorder
timestamp-one t = refl
