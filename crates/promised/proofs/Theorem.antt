-- What the promises of `parse` and of `bytes_to_cue` come to. Assumes nothing.
--     parsed-determined, cue_determined     two outcomes that meet the promise are equal, cell by cell
--     parsed-track, cue_track               what a taken text leaves passes `check_track`, and means what the text's tree means: no place is
--                                           spoken of
use Rattle.std.specs.Prelude.{Result, Ok, ⊤}
use Prim.Native.Nat.{ℕ}
use mathlib.Core.Path.{◌≡◌, refl}
use mathlib.Core.List.{List}
use mathlib.Core.Option.{some}
use Rattle.entities.specs.Decode.{decoded}
use Rattle.grammar.specs.Tree.{Forest}
use Rattle.grammar.specs.Demand.{Derives, decode_forest}
use Rattle.track.specs.Track.{Bytes, Track}
use Rattle.track.specs.Check.{Checked}
use Rattle.track.specs.Meaning.{track_in}
use Rattle.meaning.specs.Answers.{Answer, is, answered}
use Rattle.meaning.specs.Nodes.{Nodes}
use Rattle.meaning.specs.Tracks.{track_by}
use Rattle.meaning.specs.Kinds.{bare}
use Rattle.meaning.specs.Kinds as kinds
use Rattle.meaning.specs.Meaning.{track_of, cue_of}
use Rattle.meaning.proofs.Erasing.{bytes_of}
use Rattle.laid.specs.Laid.{whole, alone, single}
use Rattle.laid.proofs.Meant.{good_whole, good_single}
use Rattle.promised.specs.Promise.{Tables, Parsed, CueParsed}
use Rattle.promised.proofs.Numbers.{whole_numbers, single-numbers}
use Rattle.promised.proofs.Determined.{determined}
use Rattle.promised.proofs.Meaning.{left_passes, left_means, parsed-means, cue_means}
use Rattle.tree.specs.declared.answers.Refusal.{Refusal}

module _ {s : List ℕ} {lent : Tables} {x y : Result ⊤ Refusal} {a b : Tables} where
  pub parsed-determined : Parsed s lent x a → Parsed s lent y b → (x ≡ y) × (a ≡ b)
  parsed-determined p q = determined whole whole_numbers p q

  pub cue_determined : CueParsed s lent x a → CueParsed s lent y b → (x ≡ y) × (a ≡ b)
  cue_determined p q = determined single single-numbers p q

-- the text derives a tree within the limits, that means a track, and the tables mean the same one
pub record Stands (meant : Nodes Bytes → Answer (Track Bytes)) (s : List ℕ) (left : Tables) : Type 0 where
  pub tree : Forest
  pub derives : Derives s tree
  pub track : Track Bytes
  pub meant-so : meant (kinds.nodes_of (decode_forest decoded tree)) ≡ is track
  pub means : track_in left.track ≡ some track
  pub passes : {r : Result ⊤ Refusal} → Checked left.track r → r ≡ Ok tt

-- the single cue as a track
abbrev pub cue_alone : Nodes Bytes → Answer (Track Bytes)
cue_alone f = answered alone (cue_of bare f)

module _ {s : List ℕ} {lent left : Tables} where
  pub parsed-track : Parsed s lent (Ok tt) left → Stands (track_of bare) s left
  parsed-track p =
      let w = p.taken.0 refl in
      record {
        tree = w.0;
        derives = w.2.tree.derives;
        track = track_by bytes_of w.1;
        meant-so = parsed-means w.2;
        means = left_means whole good_whole p w.2;
        passes = left_passes whole good_whole p w.2;
      }

  pub cue_track : CueParsed s lent (Ok tt) left → Stands cue_alone s left
  cue_track p =
      let w = p.taken.0 refl in
      record {
        tree = w.0;
        derives = w.2.tree.derives;
        track = track_by bytes_of w.1;
        meant-so = cue_means w.2;
        means = left_means single good_single p w.2;
        passes = left_passes single good_single p w.2;
      }
