-- `read_nodes` meets its contract, by what is wanted. Assumes nothing.
use Rattle.reader.proofs.Shells.{track_post, cue_post, cue_asks, alone-post}
use Rattle.reader.proofs.text.read_nodes.Goals as goal

pub read_track-requires : goal.read_track-requires
read_track-requires c =
    c.requires

pub read_cue-requires : goal.read_cue-requires
read_cue-requires c =
    cue_asks _ _ _ _ _ _ _ _ _ _ c.requires

pub returns-in-Track : goal.returns-in-Track
returns-in-Track c =
    track_post c.in-Track.is _ _ c.read_track.result c.read_track.ensures

pub returns-in-Cue : goal.returns-in-Cue
returns-in-Cue c =
    cue_post c.in-Cue.is _ _ c.read_cue.result
    (alone-post _ _ _ _ _ _ _ _ _ _ _ _ _ _ _ c.read_cue.result c.requires.ready.zero c.read_cue.ensures)
