-- The text of segments in their rows. Assumes nothing.
--     text-none, text-step      the text of no rows; of rows, it is that of the first, of its children and of the rest
--     TextWithin, text-within   a text stands within its table
use Prim.Native.Nat.{ℕ, ◌+◌, ◌-◌, ◌≤◌}
use mathlib.Core.Path.{◌≡◌, refl}
use mathlib.Core.List.{List, [], ◌++◌}
use native.Mathlib.Omega.{arith}
use lib.ListN.{length}
use Rattle.track.specs.declared.strings.Span.{Span}
use Rattle.track.specs.declared.segments.Segment.{Segment}
use Rattle.track.specs.Track.{Segments}
use Rattle.track.specs.Track as track
use Rattle.track.specs.Tables.{cell, segment_at, segments_at, followed_by}
use Rattle.track.proofs.Spans.{span-within}
use Rattle.track.proofs.SegmentLaws.{Walk, segments_none, segments_more, Holds, segment_holds}
use Rattle.walk.specs.Text.{plain_text, own_text}

-- a segment, its children and its later siblings; one without children has one row
followed :
    (z y v : List ℕ) (m : ℕ) (s : Segment) (c x : Segments Span) → Holds z y m s → (m ≡ 1 → c ≡ track.done)
    → plain_text v (followed_by s c x) ≡ own_text v s ++ (plain_text v c ++ plain_text v x)
unfolding plain_text own_text
followed z y v m (Segment.Text s) c x h e = rw (e h.0)
followed z y v m Segment.Break c x h e = rw (e h)
followed z y v m (Segment.Timestamp t) c x h e = rw (e h)
followed z y v m Segment.Bold c x h e = refl
followed z y v m Segment.Italic c x h e = refl
followed z y v m Segment.Underline c x h e = refl
followed z y v m Segment.Strike c x h e = refl
followed z y v m (Segment.Color k) c x h e = refl
followed z y v m (Segment.Font k) c x h e = refl

pub text-none : (y t : List ℕ) (d i : ℕ) → plain_text y (segments_at t d 0 i) ≡ []
unfolding plain_text
text-none y t d i = rw (segments_none t d i)

abbrev pub TextWithin : List ℕ → Segment → Type 0
TextWithin y (Segment.Text s) = s.place + s.len ≤ length y
TextWithin y Segment.Break = Unit {0}
TextWithin y (Segment.Timestamp t) = Unit {0}
TextWithin y Segment.Bold = Unit {0}
TextWithin y Segment.Italic = Unit {0}
TextWithin y Segment.Underline = Unit {0}
TextWithin y Segment.Strike = Unit {0}
TextWithin y (Segment.Color c) = Unit {0}
TextWithin y (Segment.Font x) = Unit {0}

within : (z y : List ℕ) (m : ℕ) (s : Segment) → Holds z y m s → TextWithin y s
within z y m (Segment.Text s) h = span-within y s.place s.len h.1
within z y m Segment.Break h = tt
within z y m (Segment.Timestamp t) h = tt
within z y m Segment.Bold h = tt
within z y m Segment.Italic h = tt
within z y m Segment.Underline h = tt
within z y m Segment.Strike h = tt
within z y m (Segment.Color k) h = tt
within z y m (Segment.Font k) h = tt

-- the first of n rows from row i on
module _ (t z y : List ℕ) (d n i : ℕ) (w : Walk t z y d n i) (m : ℕ) (q : m ≡ cell 6 t i 1) (s : Segment) (p : s ≡ segment_at t i) where
  -- in any bytes v
  pub text-step :
      (v : List ℕ) → plain_text v (segments_at t d n i)
      ≡ own_text v s ++ (plain_text v (segments_at t (d - 1) (m - 1) (i + 1)) ++ plain_text v (segments_at t d (n - m) (i + m)))
  text-step v =
      rw (q, p, segments_more t d n i w.deep w.least w.most)
      (followed z y v (cell 6 t i 1) (segment_at t i) _ _ (segment_holds t z y i w.is) alone)
    where
      alone : cell 6 t i 1 ≡ 1 → segments_at t (d - 1) (cell 6 t i 1 - 1) (i + 1) ≡ track.done
      alone e = let k : cell 6 t i 1 - 1 ≡ 0 = omega arith in rw k (segments_none t (d - 1) (i + 1))

  pub text-within : TextWithin y s
  text-within = rw p (within z y (cell 6 t i 1) (segment_at t i) (segment_holds t z y i w.is))
