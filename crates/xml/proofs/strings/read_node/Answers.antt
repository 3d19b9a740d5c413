-- `read_node` meets its contract: the row's place and kind tell what is written and where.
use Rattle.std.proofs.Common.{◌≡◌, ◌-◌, arith, length, length-take, length-drop}
use Rattle.scan.specs.Posts.{Appended}
use Rattle.xml.specs.Steps.{node_place, node_bytes}
use Rattle.xml.proofs.PassLaws.{place_element, place_other, wrote_text, wrote_other, node-short}
use Rattle.xml.proofs.strings.read_node.Goals as goal
use Rattle.xml.proofs.strings.read_node.Goals.{Joined-kind-eq-ELEMENT, then-kind-eq-ELEMENT, else-kind-eq-ELEMENT}
use Rattle.xml.proofs.strings.read_node.Goals.{Joined-kind-eq-TEXT, then-kind-eq-TEXT, else-kind-eq-TEXT}

-- where the string begins
start_is : (c : Joined-kind-eq-ELEMENT) → c.if-kind-eq-ELEMENT.start ≡ node_place c.args.nodes.now c.args.k
start_is c =
    elim c.if-kind-eq-ELEMENT.branch [
      | then-kind-eq-ELEMENT w ↦ place_element _ _ _ _ w.if-kind-eq-ELEMENT.true c.get-place.ensures w.start-is
      | else-kind-eq-ELEMENT w ↦ place_other _ _ _ _ w.if-kind-eq-ELEMENT.false c.get-place.ensures w.start-is
    ]

-- what is written
laid-is : (c : Joined-kind-eq-TEXT) → c.if-kind-eq-ELEMENT.start ≡ node_place c.args.nodes.now c.args.k
    → Appended (node_bytes c.args.src.now c.args.nodes.now c.args.k) (node_place c.args.nodes.now c.args.k) c.args.strings.now c.if-kind-eq-TEXT.strings
    c.if-kind-eq-TEXT.end
laid-is c p =
    elim c.if-kind-eq-TEXT.branch [
      | then-kind-eq-TEXT w ↦ rw (w.strings-is, w.end-is) (wrote_text _ _ _ _ _ _ _ _ p c.get-len.ensures w.if-kind-eq-TEXT.true w.decode-end.ensures)
      | else-kind-eq-TEXT w ↦ rw (w.strings-is, w.end-is) (wrote_other _ _ _ _ _ _ _ _ p c.get-len.ensures w.if-kind-eq-TEXT.false w.copy-end.ensures)
    ]

pub decode-end-requires : goal.decode-end-requires
decode-end-requires c =
    let w = start_is (goal.at.decode-end-requires c).Joined-kind-eq-ELEMENT in
    (omega arith, omega arith, omega arith, c.requires.1)

pub slice_bounds-copy-end : goal.slice_bounds-copy-end
slice_bounds-copy-end c =
    let w = start_is (goal.at.slice_bounds-copy-end c).Joined-kind-eq-ELEMENT in omega arith

pub copy-end-requires : goal.copy-end-requires
copy-end-requires c =
    let w = start_is (goal.at.copy-end-requires c).Joined-kind-eq-ELEMENT in simp (length-take, length-drop) (omega arith)

pub put-requires : goal.put-requires
put-requires c =
    let w = start_is (goal.at.put-requires c).Joined-kind-eq-ELEMENT in
    let l = laid-is (goal.at.put-requires c).Joined-kind-eq-TEXT w in
    omega (arith, l.next, node-short c.args.src.now c.args.nodes.now c.args.k, c.requires.0)

pub returns-clause-nodes_after : goal.returns-clause-nodes_after
returns-clause-nodes_after c =
    let w = start_is (goal.at.returns-clause-nodes_after c).Joined-kind-eq-ELEMENT in
    let l = laid-is (goal.at.returns-clause-nodes_after c).Joined-kind-eq-TEXT w in
    let e : c.if-kind-eq-TEXT.end - c.if-kind-eq-ELEMENT.start ≡ length (node_bytes c.args.src.now c.args.nodes.now c.args.k) = omega (arith, l.next) in
    rw e at c.put.ensures

pub returns-clause-strings_after : goal.returns-clause-strings_after
returns-clause-strings_after c =
    let w = start_is (goal.at.returns-clause-strings_after c).Joined-kind-eq-ELEMENT in
    (laid-is (goal.at.returns-clause-strings_after c).Joined-kind-eq-TEXT w).laid
