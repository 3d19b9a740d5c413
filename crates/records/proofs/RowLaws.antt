-- Tables of rows grow by a row: what `AddPost` says of the layout. Assumes nothing.
--     filled_more, row-added, table-grown     one more; param_wide … segment_wide     how many cells a row has
use Rattle.std.specs.Prelude.{Some}
use Prim.Native.Nat.{ℕ, zero, suc, ◌+◌, ◌-◌, ◌*◌, ◌≤◌}
use mathlib.Core.List.{List, [], ◌∷◌, ◌++◌, append-nil, append_assoc}
use mathlib.Core.Path.{◌≡◌, refl, ◌∙◌}
use native.Mathlib.Omega.{arith}
use native.Mathlib.Nat.{suc-mul, sub-zero, zero-sub, suc-sub-suc, mul-le-mul_right}
use lib.ListN.{length, drop, replicate, length-append, length-replicate}
use lib.Seq.{sets, sets-eq, take-append_seam, drop-append-add}
use Rattle.track.specs.declared.values.Param.{Param}
use Rattle.track.specs.declared.values.Extra.{Extra}
use Rattle.track.specs.declared.values.Style.{Style}
use Rattle.track.specs.declared.values.Region.{Region}
use Rattle.track.specs.declared.values.Cue.{Cue}
use Rattle.track.specs.declared.segments.Segment.{Segment}
use Rattle.track.specs.Layout.{joined_cells, filled, param_cells, extra_cells, style_cells, region_cells, cue_cells, segment_cells, head_cells, Placed}
use Rattle.records.specs.Posts.{AddPost, head_row, head_of}
use Rattle.records.proofs.Storing.{optional-wide, look-wide, font-wide}

-- ---- a table that is filled up
drop_replicate : {A : Type 0} (k n : ℕ) (d : A) → drop k (replicate n d) ≡ replicate (n - k) d
drop_replicate zero n d = rw (sub-zero n)
drop_replicate (suc k) zero d = rw (zero-sub (suc k))
drop_replicate (suc k) (suc n) d = rw (suc-sub-suc n k) (drop_replicate k n d)

-- a run stored after what stands in it
pub filled_more : {A : Type 0} (d : A) (l v : List A) (n : ℕ) → length l + length v ≤ n
    → sets (l ++ replicate (n - length l) d) (length l) v ≡ l ++ v ++ replicate (n - length (l ++ v)) d
filled_more d l v n h =
    let r = replicate (n - length l) d in
    let e : n - length (l ++ v) ≡ n - length l - length v = rw length-append (omega arith) in
    sets-eq v (l ++ r) (length l) (rw (length-append, length-replicate) (omega arith))
    ∙ rw (take-append_seam l r, drop-append-add l r (length v), drop_replicate (length v) (n - length l) d, e)

module _ {A : Type 0} (f : A → List ℕ) where
  pub joined-append : (a b : List A) → joined_cells f (a ++ b) ≡ joined_cells f a ++ joined_cells f b
  unfolding joined_cells
  joined-append [] b = refl
  joined-append (x ∷ a) b = rw (joined-append a b, append_assoc)

-- ---- rows of w cells
module _ {A : Type 0} (f : A → List ℕ) (w : ℕ) (wide : (x : A) → length (f x) ≡ w) where
  pub joined_length : (l : List A) → length (joined_cells f l) ≡ length l * w
  unfolding joined_cells
  joined_length [] = omega arith
  joined_length (x ∷ l) =
      let e = wide x in
      let i = joined_length l in
      rw (length-append, suc-mul) (omega arith)

  -- a row more
  pub row-added : (n : ℕ) (l : List A) (x : A) → length l * w + w ≤ n
      → sets (filled n (joined_cells f l)) (length l * w) (f x) ≡ filled n (joined_cells f (l ++ (x ∷ [])))
  unfolding joined_cells
  row-added n l x h =
      let e = wide x in
      let k : length (joined_cells f l) ≡ length l * w = joined_length l in
      let j : joined_cells f (l ++ (x ∷ [])) ≡ joined_cells f l ++ f x = joined-append f l (x ∷ []) ∙ rw append-nil in
      rw (← k, j) (filled_more 0 (joined_cells f l) (f x) n (omega arith))

  -- and there is one more
  pub table-grown : (most : ℕ) (l : List A) (x : A) (t t' : List ℕ) (m : ℕ) → t ≡ filled (most * w) (joined_cells f l)
      → AddPost most w (f x) t t' (length l) (Some m)
      → (t' ≡ filled (most * w) (joined_cells f (l ++ (x ∷ [])))) × (m ≡ length (l ++ (x ∷ [])))
  table-grown most l x t t' m e p =
      let h : suc (length l) * w ≤ most * w = mul-le-mul_right w p.0 in
      (p.2 ∙ rw e (row-added (most * w) l x (rw suc-mul at h)), p.1 ∙ rw length-append)

-- ---- how many cells a row has
pub param_wide : (x : Param) → length (param_cells x) ≡ 4
unfolding param_cells
param_wide x = refl

pub extra_wide : (x : Extra) → length (extra_cells x) ≡ 3
unfolding extra_cells
extra_wide x = refl

pub region_wide : (x : Region) → length (region_cells x) ≡ 4
unfolding region_cells
region_wide x = refl

pub style_wide : (x : Style) → length (style_cells x) ≡ 27
unfolding style_cells
style_wide x = simp length-append (omega (arith, simp length-append at (look-wide x.look)))

pub cue_wide : (x : Cue) → length (cue_cells x) ≡ 11
unfolding cue_cells
cue_wide x = simp length-append (rw (optional-wide x.has_style x.style, optional-wide x.has_region x.region))

pub segment_wide : (s : Segment) (n : ℕ) → length (segment_cells s n) ≡ 6
unfolding segment_cells
segment_wide (Segment.Text s) n = refl
segment_wide Segment.Break n = refl
segment_wide (Segment.Timestamp t) n = refl
segment_wide Segment.Bold n = refl
segment_wide Segment.Italic n = refl
segment_wide Segment.Underline n = refl
segment_wide Segment.Strike n = refl
segment_wide (Segment.Color c) n = refl
segment_wide (Segment.Font x) n = rw (font-wide x)

-- the head of a track, as it is laid out
pub head_laid : (k : Placed) (u v : ℕ) → head_row (head_of k u v) ≡ head_cells k u v
unfolding head_cells head_of
head_laid k u v = refl
