-- `read_track` meets its contract: the first tt, or 12. Assumes nothing.
use Rattle.meaning.specs.Words.{ascii}
use Rattle.cues.proofs.Elements.{elem-found}
use Rattle.whole.proofs.Roots.{root_no, root_is, track_as}
use Rattle.whole.proofs.read_track.Goals as goal

pub read_tt-requires : goal.read_tt-requires
read_tt-requires c =
    record {
      ready = c.requires.ready;
      element = (elem-found c.requires.tree (ascii "tt") c.find_element.ensures c.in-Some.is).element;
    }

pub returns-in_default : goal.returns-in_default
returns-in_default c =
    λ x. (root_no x c.find_element.ensures c.in_default.is, c.requires.ready.zero)

pub returns : goal.returns
returns c =
    λ x.
    let o = c.find_element.ensures in
    let e = c.in-Some.is in
    track_as _ _ _ c.read_tt.result (root_is x o e) (c.read_tt.ensures (elem-found x (ascii "tt") o e).element)
