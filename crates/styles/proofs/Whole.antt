-- The styles that the contracts speak of are those of the track that the tables hold. Assumes nothing.
use mathlib.Core.Path.{◌≡◌, sym}
use Rattle.track.specs.Tables.{Tables, style_count}
use Rattle.track.specs.Meaning.{style_in, track_at}
use Rattle.track.proofs.ShownLaws.{styles-in}
use Rattle.styles.specs.Steps.{styles_in}

pub styles_whole : (T : Tables) → styles_in T.styles T.sizes T.extras T.strings (style_count T.head) ≡ (track_at T).styles
unfolding style_in
styles_whole T = sym (styles-in T)
