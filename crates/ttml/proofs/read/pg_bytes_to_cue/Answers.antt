-- `pg_bytes_to_cue` meets its contract: what `bytes_to_cue` promises of its answer, and that answer told. The tables keep their lengths.
use Rattle.ttml.proofs.read.pg_bytes_to_cue.Goals as goal

pub shape_of-nodes : goal.shape_of-nodes
shape_of-nodes c =
    c.nodes-1.given

pub shape_of-attrs : goal.shape_of-attrs
shape_of-attrs c =
    c.attrs-1.given

pub shape_of-head : goal.shape_of-head
shape_of-head c =
    c.head-1.given

pub shape_of-params : goal.shape_of-params
shape_of-params c =
    c.params-1.given

pub shape_of-styles : goal.shape_of-styles
shape_of-styles c =
    c.styles-1.given

pub shape_of-regions : goal.shape_of-regions
shape_of-regions c =
    c.regions-1.given

pub shape_of-cues : goal.shape_of-cues
shape_of-cues c =
    c.cues-1.given

pub shape_of-times : goal.shape_of-times
shape_of-times c =
    c.times-1.given

pub shape_of-segments : goal.shape_of-segments
shape_of-segments c =
    c.segments-1.given

pub shape_of-sizes : goal.shape_of-sizes
shape_of-sizes c =
    c.sizes-1.given

pub shape_of-extras : goal.shape_of-extras
shape_of-extras c =
    c.extras-1.given

pub shape_of-strings : goal.shape_of-strings
shape_of-strings c =
    c.strings-1.given

pub shape_of-texts : goal.shape_of-texts
shape_of-texts c =
    c.texts-1.given

pub returns : goal.returns
returns c =
    record { answer = _; promised = c.bytes_to_cue.ensures; is = c.tell.ensures }
