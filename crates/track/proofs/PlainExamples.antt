-- Worked cases of plain segments and cues. Assumes nothing.
use mathlib.Core.Path.{◌≡◌, refl}
use mathlib.Core.Bool.{true, false}
use mathlib.Core.List.{[], ◌∷◌}
use mathlib.Core.Option.{none, some}
use lib.IntN.{pos}
use Rattle.track.specs.Track.{Bytes, Segments, Cue}
use Rattle.track.specs.Track as track
use Rattle.track.specs.Plain.{is_plain_segments, is_plain_cue}

-- A
abbrev letter : Segments Bytes → Segments Bytes
letter x = track.text (65 ∷ []) x

abbrev bare : Segments Bytes → Segments Bytes → Segments Bytes
bare c x = track.wrap (track.font none none) c x

abbrev cue : Segments Bytes → Cue Bytes
cue s = record { start = pos 0; end = pos 1; style = none; region = none; preserve = true; extras = []; segments = s }

-- A<br/>A, and texts that a wrapper parts
pub broken : is_plain_segments (letter (track.break (letter track.done))) ≡ true
unfolding is_plain_segments
broken = refl

pub parted : is_plain_segments (letter (track.wrap track.bold (letter track.done) (letter track.done))) ≡ true
unfolding is_plain_segments
parted = refl

-- none of these: adjacent texts, an empty text, a timestamp, strike
pub adjacent : is_plain_segments (letter (letter track.done)) ≡ false
unfolding is_plain_segments
adjacent = refl

pub empty : is_plain_segments (track.text [] track.done) ≡ false
unfolding is_plain_segments
empty = refl

pub timed : is_plain_segments (letter (track.timestamp (pos 0) (letter track.done))) ≡ false
unfolding is_plain_segments
timed = refl

pub struck : is_plain_segments (track.wrap track.strike (letter track.done) track.done) ≡ false
unfolding is_plain_segments
struck = refl

-- a font without family and size: with one child, with none or two, and with a family
pub bare-one : is_plain_segments (bare (letter track.done) (letter track.done)) ≡ false
unfolding is_plain_segments
bare-one = refl

pub bare-none : is_plain_segments (bare track.done (letter track.done)) ≡ true
unfolding is_plain_segments
bare-none = refl

pub bare-two : is_plain_segments (bare (letter (track.break track.done)) (letter track.done)) ≡ true
unfolding is_plain_segments
bare-two = refl

pub family_one : is_plain_segments (track.wrap (track.font (some (65 ∷ [])) none) (letter track.done) track.done) ≡ true
unfolding is_plain_segments
family_one = refl

-- as a cue's only segment, and not
pub only : is_plain_cue (cue (bare (letter (track.break track.done)) track.done)) ≡ false
unfolding is_plain_cue
only = refl

pub not_only : is_plain_cue (cue (bare (letter (track.break track.done)) (track.break track.done))) ≡ true
unfolding is_plain_cue
not_only = refl
