use mathlib.Core.Path.{◌≡◌, sym, ◌∙◌}
use native.Mathlib.Omega.{arith}
use lib.ListN.{get_or}
use Rattle.meaning.specs.Space.{white}
use Rattle.inline.proofs.Collapsing.{start, kept, spaced, dropped, all}
use Rattle.inline.proofs.collapse.collapse.Goals as goal
use Rattle.inline.proofs.collapse.collapse.Goals.{then-not-white, else-not-white+then-not-edge, else-not-white+else-not-edge}

pub loop-b-init : goal.loop-b-init
loop-b-init c =
    start c.args.piece.now c.args.boundary c.args.at c.args.texts.now (omega arith)

pub is_white-white-requires : goal.is_white-white-requires
is_white-white-requires c =
    tt

pub loop-b-preserved : goal.loop-b-preserved
loop-b-preserved c =
    let v : c.is_white-white.result ≡ white (get_or c.args.piece.now c.loop-b.b-index 0) = c.is_white-white.ensures in
    elim c.if-not-white.branch [
      | then-not-white w ↦ rw (w.texts-is, w.n-is, w.edge-is, v) (kept c.args.piece.now c.args.boundary c.args.at c.args.texts.now _ _ _ _ c.loop-b.invariant (omega arith)
          (sym v ∙ w.if-not-white.true))
      | else-not-white+then-not-edge w ↦ rw (w.texts-is, w.n-is, w.edge-is, v) (spaced c.args.piece.now c.args.boundary c.args.at c.args.texts.now _ _ _ _ c.loop-b.invariant (omega arith)
          (sym v ∙ w.if-not-white.false) (w.if-not-edge.true))
      | else-not-white+else-not-edge w ↦ rw (w.texts-is, w.n-is, w.edge-is, v) (dropped c.args.piece.now c.args.boundary c.args.at c.args.texts.now _ _ _ _ c.loop-b.invariant (omega arith)
          (sym v ∙ w.if-not-white.false) (w.if-not-edge.false))
    ]

pub returns : goal.returns
returns c =
    λ before e. all c.args.piece.now c.args.boundary c.args.at c.args.texts.now _ _ _ _ c.loop-b.invariant (omega arith) before e
