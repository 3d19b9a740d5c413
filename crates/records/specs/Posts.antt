-- What the writers of rows ask and ensure.
use Rattle.std.specs.Prelude.{Option, Some, None, ℕ, ◌+◌, ◌*◌, ◌≤◌, ◌<◌, ◌^◌, ◌≡◌, List, [], ◌∷◌, ◌++◌, ℤ, Float, length}
use Rattle.std.proofs.lemmas.List.Edits.{sets}
use Rattle.track.specs.declared.strings.Span.{Span}
use Rattle.track.specs.declared.values.Rows.{Rows}
use Rattle.track.specs.declared.segments.Segment.{Segment}
use Rattle.track.specs.Layout.{Placed, optional_cells, all_segments}
use Rattle.records.specs.declared.head.Head.{Head}

-- places, lengths and rows are kept in 32 bits
abbrev pub SmallSpan : Span → Type 0
SmallSpan x = (x.place < 2 ^ 32) × (x.len < 2 ^ 32)

abbrev pub SmallRows : Rows → Type 0
SmallRows x = (x.first < 2 ^ 32) × (x.count < 2 ^ 32)

abbrev pub SmallSegment : Segment → Type 0
SmallSegment (Segment.Text s) = SmallSpan s
SmallSegment Segment.Break = Unit {0}
SmallSegment (Segment.Timestamp t) = Unit {0}
SmallSegment Segment.Bold = Unit {0}
SmallSegment Segment.Italic = Unit {0}
SmallSegment Segment.Underline = Unit {0}
SmallSegment Segment.Strike = Unit {0}
SmallSegment (Segment.Color c) = Unit {0}
SmallSegment (Segment.Font x) = SmallSpan x.family

abbrev pub SmallHead : Head → Type 0
SmallHead x =
    (x.params < 2 ^ 32) × (x.styles < 2 ^ 32) × (x.regions < 2 ^ 32) × (x.cues < 2 ^ 32) × (x.segments < 2 ^ 32) × SmallSpan x.lang
    × (x.strings < 2 ^ 32) × (x.texts < 2 ^ 32)

-- the ten cells of the head, as `head_cells` of track has them
abbrev pub head_row : Head → List ℕ
head_row x =
    x.params ∷ x.styles ∷ x.regions ∷ x.cues ∷ x.segments ∷ (optional_cells x.has_lang x.lang ++ (x.strings ∷ x.texts ∷ []))

-- the head of a placed track that uses u and v bytes
unfoldable pub head_of : Placed → (u v : ℕ) → Head
unfolding all_segments
head_of k u v =
    record {
      params = length k.params;
      styles = length k.styles;
      regions = length k.regions;
      cues = length k.cues;
      segments = length (all_segments k.cues);
      has_lang = k.has_lang;
      lang = k.lang;
      strings = u;
      texts = v;
    }

-- a row of w cells is added to a table t of n rows, and there are one more; or there are `most` already, and nothing is written
abbrev pub AddPost : (most w : ℕ) → List ℕ → (t t' : List ℕ) → ℕ → Option ℕ → Type 0
AddPost most w row t t' n (Some m) = (n < most) × (m ≡ n + 1) × (t' ≡ sets t (n * w) row)
AddPost most w row t t' n None = (most ≤ n) × (t' ≡ t)

-- with it a float or times are written beside
abbrev pub ValuePost : ℕ → Float → (t t' : List Float) → Option ℕ → Type 0
ValuePost i v t t' (Some m) = t' ≡ sets t i (v ∷ [])
ValuePost i v t t' None = t' ≡ t

abbrev pub TimesPost : ℕ → ℤ → ℤ → (t t' : List ℤ) → Option ℕ → Type 0
TimesPost i v w t t' (Some m) = t' ≡ sets t i (v ∷ w ∷ [])
TimesPost i v w t t' None = t' ≡ t
