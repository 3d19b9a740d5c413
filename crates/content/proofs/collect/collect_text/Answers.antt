-- `collect_text` meets its contract: what is left is nothing, or a row. Assumes nothing.
use Prim.Native.Nat.{◌+◌, ◌*◌}
use native.Mathlib.Omega.{arith}
use Rattle.xml.proofs.PassForests.{string_long}
use Rattle.styling.specs.Posts.{space_in}
use Rattle.content.proofs.Giving.{some_before, text-none, text-some}
use lib.ListN.{get_or}
use Rattle.scan.specs.Part.{string_at}
use Rattle.content.specs.Steps.{node_place}
use Rattle.content.proofs.collect.collect_text.Goals as goal

pub returns-then-c-eq0 : goal.returns-then-c-eq0
returns-then-c-eq0 c =
    λ first hi before low e.
    let at = get_or c.args.tree.now.nodes.now (c.args.k * 6 + 2) 0 in
    let len = get_or c.args.tree.now.nodes.now (c.args.k * 6 + 3) 0 in
    let l = string_long c.args.tree.now.strings.now at len c.requires.3 in
    text-none (space_in c.args.ws) before at len (string_at c.args.tree.now.strings.now at len) (node_place c.args.tree.now.nodes.now c.args.k) first c.args.run.rows hi
    c.args.segments.now c.args.texts.now c.write_text-c.new.texts c.write_text-c.result low
    (omega (arith, c.requires.3, c.requires.0.texts)) (omega (arith, l)) (rw (c.get-place.ensures, c.get-len.ensures) at (c.write_text-c.ensures before e))
    c.requires.1 c.if-c-eq0.true

pub add_text-a-requires : goal.add_text-a-requires
add_text-a-requires c =
    let b = some_before c.args.run.boundary in
    let w = (c.write_text-c.ensures b.0 b.1).within in
    let l = string_long c.args.tree.now.strings.now c.get-place.result c.get-len.result (omega (arith, c.get-place.ensures, c.get-len.ensures, c.requires.3)) in (
      c.requires.0.wide,
      (omega (arith, c.get-place.ensures, c.requires.3, c.requires.0.small), omega (arith, w, l, c.get-len.ensures, c.requires.3, c.requires.0.small)),
    )

pub returns : goal.returns
returns c =
    λ first hi before low e.
    let at = get_or c.args.tree.now.nodes.now (c.args.k * 6 + 2) 0 in
    let len = get_or c.args.tree.now.nodes.now (c.args.k * 6 + 3) 0 in
    let l = string_long c.args.tree.now.strings.now at len c.requires.3 in
    rw (c.added.ensures, c.node_place.ensures)
    (text-some (space_in c.args.ws) before at len (string_at c.args.tree.now.strings.now at len) (node_place c.args.tree.now.nodes.now c.args.k) first c.args.run.rows hi
    c.args.segments.now c.args.texts.now c.write_text-c.new.texts c.write_text-c.result low
    (omega (arith, c.requires.3, c.requires.0.texts)) (omega (arith, l)) (rw (c.get-place.ensures, c.get-len.ensures) at (c.write_text-c.ensures before e))
    c.if-c-eq0.false
    c.add_text-a.new.segments c.requires.0.wide c.add_text-a.result (rw c.get-place.ensures at c.add_text-a.ensures))
