use mathlib.Core.Path.{◌≡◌, refl, ap, ◌∙◌}
use native.Mathlib.Omega.{arith}
use lib.ListN.{length}
use Rattle.xml.specs.Steps.{nodes_read, node_strings_read}
use Rattle.xml.proofs.PassLaws.{node-within, nodes-room, node-strings_room, nodes-ready, nodes-next, node-strings_next}
use Rattle.xml.proofs.strings.read_nodes.Goals as goal

pub loop-k-init : goal.loop-k-init
unfolding nodes_read node_strings_read
loop-k-init c =
    (refl, refl, λ k l h. absurd (omega arith))

pub overflow_mul-k : goal.overflow_mul-k
overflow_mul-k c =
    let r = c.requires _ c.loop-k-test.true in omega (arith, r.row)

pub overflow_add-k : goal.overflow_add-k
overflow_add-k c =
    let r = c.requires _ c.loop-k-test.true in omega (arith, r.row)

pub get-requires : goal.get-requires
get-requires c =
    let r = nodes-ready _ _ _ _ _ _ c.loop-k.invariant.0 c.loop-k.invariant.1 (c.requires _ c.loop-k-test.true) in
    omega (arith, r.row)

pub plain_at-p-requires : goal.plain_at-p-requires
plain_at-p-requires c =
    let r = nodes-ready _ _ _ _ _ _ c.loop-k.invariant.0 c.loop-k.invariant.1 (c.requires _ c.loop-k-test.true) in
    (omega (arith, c.get.ensures, node-within _ _ _ _ r), c.loop-k.invariant.2)

pub read_node-requires : goal.read_node-requires
read_node-requires c =
    (nodes-ready _ _ _ _ _ _ c.loop-k.invariant.0 c.loop-k.invariant.1 (c.requires _ c.loop-k-test.true), c.plain_at-p.ensures.2)

pub shape_of-nodes : goal.shape_of-nodes
shape_of-nodes c =
    ap length c.loop-k.invariant.0 ∙ nodes-room _ _ _

pub shape_of-strings : goal.shape_of-strings
shape_of-strings c =
    ap length c.loop-k.invariant.1 ∙ node-strings_room _ _ _ _

pub loop-k-preserved : goal.loop-k-preserved
loop-k-preserved c =
    let i = c.loop-k.invariant in
    let e = c.read_node.ensures in
    (nodes-next _ _ _ _ _ i.0 e.nodes_after, node-strings_next _ _ _ _ _ _ _ i.0 i.1 e.strings_after, c.plain_at-p.ensures.2)

pub returns : goal.returns
returns c =
    let i = c.loop-k.invariant in
    let e : c.loop-k.k ≡ c.args.count = omega arith in
    record { nodes_after = i.0 ∙ ap (nodes_read _ _) e; strings_after = i.1 ∙ ap (node_strings_read _ _ _) e }
