-- `collect_inside`, by the answers for the styles and for the regions.
use Rattle.scan.proofs.Handed.{handed_on}
use Rattle.heads.proofs.Joining.{asks_styles, asks_regions, head_styles, head_regions, head_both}
use Rattle.heads.proofs.collect.collect_inside.Goals as goal

pub find_styles-requires : goal.find_styles-requires
find_styles-requires c =
    asks_styles c.requires

pub find_regions-requires : goal.find_regions-requires
find_regions-requires c =
    asks_regions c.requires _ c.in_ok-s.ensures c.find_styles.auto.extras

pub returns-in_err-s : goal.returns-in_err-s
returns-in_err-s c =
    rw (handed_on _ c.from_residual.ensures) (head_styles c.requires _ c.in_err-s.ensures)

pub returns-in_err-t : goal.returns-in_err-t
returns-in_err-t c =
    let p = c.in_ok-s.ensures in
    rw (handed_on _ c.from_residual-in_err-t.ensures) (head_regions c.requires _ p _ c.in_err-t.ensures)

pub returns : goal.returns
returns c =
    let p = c.in_ok-s.ensures in
    head_both c.requires _ p _ _ _ c.in_ok-t.ensures
