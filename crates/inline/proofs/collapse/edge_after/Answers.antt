-- `edge_after` meets its contract: an empty piece changes nothing, and else its last byte tells. Assumes nothing.
use mathlib.Core.Path.{◌∙◌}
use native.Mathlib.Omega.{arith}
use Rattle.inline.proofs.Collapsing.{edge_none, edge-last}
use Rattle.inline.proofs.collapse.edge_after.Goals as goal

pub returns-in-empty : goal.returns-in-empty
returns-in-empty c =
    λ before e. edge_none before c.args.piece.now e (omega (arith, c.in-empty.len_below))

pub returns-in-len1-up : goal.returns-in-len1-up
returns-in-len1-up c =
    λ before e. c.is_white.ensures ∙ edge-last before c.args.piece.now (omega (arith, c.in-len1-up.len_at_least))
