-- A text whose tree means a track, by the reader by places (`tree/specs/Read`): what the laws of this crate are about. It need not be believed.
use Rattle.std.specs.Prelude.{ℕ, ◌≡◌, List}
use Rattle.tree.specs.Trees as placed
use Rattle.tree.specs.Read as read
use Rattle.tree.specs.Posts.{Fits}
use Rattle.track.specs.Track.{Track}
use Rattle.xml.specs.Reading.{Placed}
use Rattle.meaning.specs.Answers.{Answer, is}
use Rattle.meaning.specs.Nodes.{Nodes}
use Rattle.meaning.specs.Texts.{nodes_read}

-- a text s with the tree g, by places, which means t
pub record Means (meant : Nodes Placed → Answer (Track Placed)) (s : List ℕ) (g : placed.Forest) (t : Track Placed) : Type 0 where
  pub fits : Fits s 49152 32768
  pub end : ℕ
  pub nodes : ℕ
  pub attrs : ℕ
  pub tree : read.meaning s 49152 32768 ≡ read.got g end nodes attrs
  pub means : meant (nodes_read s g) ≡ is t
