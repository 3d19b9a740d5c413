-- What is known of the track that a tree means, to `parse` and to `bytes_to_cue`. Assumes nothing.
--     Good                       its strings, its extras, its limits, its values
--     good_whole, good_single    both are good
use Prim.Native.Nat.{ℕ, ◌≤◌}
use mathlib.Core.Path.{◌≡◌, refl}
use mathlib.Core.Option.{Option, none, some}
use native.Mathlib.Omega.{arith}
use lib.ListN.{length}
use lib.IntN.{pos}
use Rattle.track.specs.Track.{Cue, Track, segment_rows}
use Rattle.xml.specs.Reading.{Placed}
use Rattle.meaning.specs.Words.{ascii}
use Rattle.meaning.specs.Answers.{Answer, is, refused, answered}
use Rattle.meaning.specs.Nodes.{Nodes, Element, first_element}
use Rattle.meaning.specs.Space.{collapse, space_of}
use Rattle.meaning.specs.Timing.{time_of, or_zero}
use Rattle.meaning.specs.Inline.{content_of}
use Rattle.meaning.specs.Cues.{made_in}
use Rattle.meaning.specs.Meaning.{timing, stop_of, cue_in, cue_from, cue_of}
use Rattle.meaning.specs.Kinds.{with_places}
use Rattle.meaning.proofs.Within.{Holds, holds_is, holds_refused, any, WithinLimits, track_within, cue_within}
use Rattle.laid.specs.Laid.{whole, alone, single, total}
use Rattle.laid.proofs.Counting.{attr_count, extras_of, extras_within}
use Rattle.laid.proofs.Strings.{TrackHolds, Kept, NodesIn, track_holds, single-holds}
use Rattle.laid.proofs.Values.{CueValues, Values, Inner, track_values, cue-values}

pub record Good (meant : Nodes Placed → Answer (Track Placed)) : Type 1 where
  pub strings : (P Q : Placed → Type 0) (kept : Kept P Q) (lo hi : ℕ) → lo ≤ hi → (f : Nodes Placed) → NodesIn P Q kept lo hi f
      → Holds (TrackHolds P Q lo hi) (meant f)
  pub extras : (f : Nodes Placed) → Holds (λ t. extras_of with_places t ≤ attr_count f) (meant f)
  pub limits : (f : Nodes Placed) → Holds (WithinLimits with_places) (meant f)
  pub values : (f : Nodes Placed) → Inner 64 f → Holds Values (meant f)

pub good_whole : Good whole
good_whole = record {
  strings = λ P Q kept lo hi h f g. track_holds P Q kept lo hi h f g;
  extras = λ f. extras_within with_places f;
  limits = λ f. track_within with_places f;
  values = λ f g. track_values with_places 64 (omega arith) f g;
}

-- ---- the single cue

holds_alone : (P : Cue Placed → Type 0) (Q : Track Placed → Type 0) (m : Answer (Cue Placed)) → ((x : Cue Placed) → P x → Q (alone x)) → Holds P m
    → Holds Q (answered alone m)
holds_alone P Q (is x) k h = holds_is Q (alone x) (k x (h.holds x refl))
holds_alone P Q (refused n p) k h = holds_refused Q n p

no_extras : (e : Element Placed) → Holds (λ x. length x.extras ≡ 0) (cue_in with_places e)
unfolding cue_in
no_extras e =
    let ctx = timing none none in
    any _ (time_of with_places ctx e.at (ascii "begin") e.attrs) _ λ begin.
    any _ (time_of with_places ctx e.at (ascii "end") e.attrs) _ λ end.
    any _ (stop_of with_places e.at (or_zero begin) end e.attrs) _ λ stop.
    any _ (content_of with_places ctx (pos 0) (space_of with_places collapse e.attrs) 0 e.content) _ λ content.
    holds_is _ _ refl

from-none : (e : Option (Element Placed)) → Holds (λ x. length x.extras ≡ 0) (cue_from with_places e)
from-none none = holds_refused _ 12 0
from-none (some e) = no_extras e

alone-extras : (f : Nodes Placed) → Holds (λ t. extras_of with_places t ≤ attr_count f) (single f)
unfolding alone total cue_of
alone-extras f =
    holds_alone (λ x. length x.extras ≡ 0) (λ t. extras_of with_places t ≤ attr_count f) (cue_of with_places f) (λ x h. omega (arith, h))
    (from-none (first_element with_places (ascii "p") f))

alone-limits : (f : Nodes Placed) → Holds (WithinLimits with_places) (single f)
unfolding alone made_in
alone-limits f =
    holds_alone (λ x. segment_rows x.segments ≤ 16384) (WithinLimits with_places) (cue_of with_places f)
    (λ x h. record {
      params = omega arith;
      styles = omega arith;
      regions = omega arith;
      cues = omega arith;
      segments = omega (arith, h);
    })
    (cue_within with_places f)

alone-values : (f : Nodes Placed) → Inner 64 f → Holds Values (single f)
unfolding alone
alone-values f g =
    holds_alone CueValues Values (cue_of with_places f) (λ x h. record { styles = tt; cues = (h, tt) })
    (cue-values with_places 64 (omega arith) f g)

pub good_single : Good single
good_single = record {
  strings = λ P Q kept lo hi h f g. single-holds P Q kept lo hi h f g;
  extras = alone-extras;
  limits = alone-limits;
  values = alone-values;
}
