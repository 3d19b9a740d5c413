-- Worked cases of the whole calls: whatever meets the promise answers so. Each from what the text means, computed in `meaning`.
use Rattle.std.specs.Prelude.{Result, Ok, ⊤}
use mathlib.Core.Path.{◌≡◌, refl}
use mathlib.Core.List.{[], ◌∷◌}
use mathlib.Core.Option.{none, some}
use native.Mathlib.Omega.{arith}
use lib.IntN.{pos}
use Rattle.track.specs.Track.{Bytes, Track, done, text, break}
use Rattle.track.specs.Meaning.{track_in}
use Rattle.meaning.proofs.Computing.{computing}
use Rattle.meaning.proofs.Examples.{utf8, cue, example, no_tt}
use Rattle.promised.specs.Promise.{Says, Tables, LongEnough, Parsed}
use Rattle.promised.proofs.Cases.{parsed-case, parsed-refused}
use Rattle.tree.specs.declared.answers.Refusal.{Refusal}

-- document 01, "Output"
abbrev pub film : Bytes
film = utf8 "<tt><body><p begin=\"1s\" dur=\"500ms\">A<br/>B</p></body></tt>"

abbrev pub film_track : Track Bytes
film_track = record {
  lang = none;
  params = [];
  styles = [];
  regions = [];
  cues = cue (pos 1000000) (pos 1500000) (text (utf8 "A") (break (text (utf8 "B") done))) ∷ [];
}

module _ {lent left : Tables} {answer : Result ⊤ Refusal} (long : LongEnough lent) where
  pub film-read : Parsed film lent answer left → (answer ≡ (Ok tt)) × (track_in left.track ≡ some film_track)
  unfolding computing
  film-read p = parsed-case film lent long (omega arith) refl p example

  pub no_tt_refused : Parsed (utf8 "<a/>") lent answer left → Says answer 12 0
  unfolding computing
  no_tt_refused p = parsed-refused (utf8 "<a/>") lent long (omega arith) refl p no_tt
