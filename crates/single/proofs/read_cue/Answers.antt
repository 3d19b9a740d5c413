-- `read_cue` meets its contract: the first p, or 12. Assumes nothing.
use Rattle.meaning.specs.Words.{ascii}
use Rattle.cues.proofs.Elements.{elem-found}
use Rattle.single.proofs.Alone.{cue_as, first-no, first-is}
use Rattle.single.proofs.read_cue.Goals as goal

pub read_p-requires : goal.read_p-requires
read_p-requires c =
    record {
      ready = c.requires.ready;
      element = (elem-found c.requires.tree (ascii "p") c.find_element.ensures c.in-Some.is).element;
    }

pub returns-in_default : goal.returns-in_default
returns-in_default c =
    λ x. (first-no x c.find_element.ensures c.in_default.is, c.requires.ready.zero)

pub returns : goal.returns
returns c =
    λ x.
    let o = c.find_element.ensures in
    let e = c.in-Some.is in
    cue_as _ _ _ c.read_p.result (first-is x o e) (c.read_p.ensures (elem-found x (ascii "p") o e).element)
