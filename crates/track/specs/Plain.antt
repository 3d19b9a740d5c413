-- Plain tracks (document 01, "Limits and what is turned away"): those that are read back as they were written. Definitions alone.
use Rattle.std.specs.Prelude.{◌≡◌, Bool, true, false, not, ◌&&◌, List, [], ◌∷◌}
use Rattle.track.specs.Track.{Bytes, Wrapper, Segments, Cue, Track, no_segments, one_segment, is_bare_font}
use Rattle.track.specs.Track as track

-- ---- segments
unfoldable pub begins_with_text : Segments Bytes → Bool
begins_with_text track.done = false
begins_with_text (track.text s x) = true
begins_with_text (track.break x) = false
begins_with_text (track.timestamp t x) = false
begins_with_text (track.wrap w c x) = false

unfoldable pub is_empty_text : Bytes → Bool
is_empty_text [] = true
is_empty_text (b ∷ s) = false

unfoldable pub is_strike : Wrapper Bytes → Bool
is_strike track.bold = false
is_strike track.italic = false
is_strike track.underline = false
is_strike track.strike = true
is_strike (track.color c) = false
is_strike (track.font a s) = false

-- "no strike, no timestamp; no empty text, no two texts adjacent; a font without family and size never has exactly one child"
unfoldable pub is_plain_segments : Segments Bytes → Bool
unfolding one_segment begins_with_text is_empty_text is_bare_font is_strike
is_plain_segments track.done = true
is_plain_segments (track.text s x) = not (is_empty_text s) && not (begins_with_text x) && is_plain_segments x
is_plain_segments (track.break x) = is_plain_segments x
is_plain_segments (track.timestamp t x) = false
is_plain_segments (track.wrap w c x) = not (is_strike w) && not (is_bare_font w && one_segment c) && is_plain_segments c && is_plain_segments x

-- "and is never a cue's only segment"
unfoldable pub is_bare_cue : Segments Bytes → Bool
unfolding no_segments is_bare_font
is_bare_cue track.done = false
is_bare_cue (track.text s x) = false
is_bare_cue (track.break x) = false
is_bare_cue (track.timestamp t x) = false
is_bare_cue (track.wrap w c x) = is_bare_font w && no_segments x

-- ---- the whole
unfoldable pub is_plain_cue : Cue Bytes → Bool
unfolding is_plain_segments is_bare_cue
is_plain_cue x = x.preserve && is_plain_segments x.segments && not (is_bare_cue x.segments)

unfoldable pub all_of : {A : Type 0} → (A → Bool) → List A → Bool
all_of p [] = true
all_of p (x ∷ l) = p x && all_of p l

unfoldable pub is_plain_track : Track Bytes → Bool
unfolding is_plain_cue all_of
is_plain_track t = all_of is_plain_cue t.cues

-- "neither its writing nor its written text meets a number": `meets` says that one of the two does
pub record Plain (meets : Track Bytes → Type 0) (t : Track Bytes) : Type 0 where
  pub shape : is_plain_track t ≡ true
  pub unmet : meets t → ⊥
