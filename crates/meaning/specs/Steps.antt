-- What a whole text means, by the reader by places (`tree/specs/Read`): a step on the way, which need not be believed. `promised` says it by the
-- grammar, and proofs/Theorem that the two are the same.
use Rattle.std.specs.Prelude.{ℕ, List}
use Rattle.tree.specs.Read.{Out, got, nothing, bad}
use Rattle.tree.specs.Read as read
use Rattle.track.specs.Track.{Bytes, Cue, Track}
use Rattle.xml.specs.Reading.{Placed}
use Rattle.meaning.specs.Answers.{Answer, is, refused, ◌>>=◌, answered}
use Rattle.meaning.specs.Nodes.{Nodes, nil}
use Rattle.meaning.specs.Tracks.{cue_by, track_by}
use Rattle.meaning.specs.Kinds.{with_places}
use Rattle.meaning.specs.Meaning.{track_of, cue_of}
use Rattle.meaning.specs.Texts.{nodes_read}

abbrev pub nodes_from : (s : List ℕ) → Out → Answer (Nodes Placed)
nodes_from s (got f q k a) = is (nodes_read s f)
nodes_from s (nothing q) = is nil
nodes_from s (bad n p) = refused n p

unfoldable pub nodes_of_text : (s : List ℕ) → Answer (Nodes Placed)
nodes_of_text s = nodes_from s (read.meaning s 49152 32768)

-- the track and the single cue, by their bytes
unfoldable pub parsed : (s : List ℕ) → Answer (Track Bytes)
parsed s = answered (track_by (λ (x : Placed). x.bytes)) (nodes_of_text s >>= track_of with_places)

unfoldable pub cue_parsed : (s : List ℕ) → Answer (Cue Bytes)
cue_parsed s = answered (cue_by (λ (x : Placed). x.bytes)) (nodes_of_text s >>= cue_of with_places)
