-- `test_limits` meets its contract: a law for each number. Assumes nothing.
use Rattle.tree.proofs.Whole.{no_nodes, no_attrs, too_long, not_utf8}
use Rattle.tree.proofs.read.test_limits.Goals as goal
use Rattle.tree.proofs.read.test_limits.Goals.{then-nodes-lt-NODE_TABLE-via-then-nodes-lt-NODE_TABLE, then-nodes-lt-NODE_TABLE-via-else-nodes-lt-NODE_TABLE+then-attrs-lt-ATTR_TABLE}

pub returns-then-nodes-lt-NODE_TABLE : goal.returns-then-nodes-lt-NODE_TABLE
returns-then-nodes-lt-NODE_TABLE c =
    rw c.new.ensures (elim c.then-nodes-lt-NODE_TABLE.branch [
      | then-nodes-lt-NODE_TABLE-via-then-nodes-lt-NODE_TABLE w ↦ no_nodes c.args.src.now c.args.nodes c.args.attrs w.if-nodes-lt-NODE_TABLE.true
      | then-nodes-lt-NODE_TABLE-via-else-nodes-lt-NODE_TABLE+then-attrs-lt-ATTR_TABLE w ↦
          no_attrs c.args.src.now c.args.nodes c.args.attrs w.if-nodes-lt-NODE_TABLE.false w.if-attrs-lt-ATTR_TABLE.true
    ])

pub returns-then-src-gt-BYTES : goal.returns-then-src-gt-BYTES
returns-then-src-gt-BYTES c =
    rw c.new-then-src-gt-BYTES.ensures (too_long c.args.src.now c.args.nodes c.args.attrs c.if-nodes-lt-NODE_TABLE.false c.if-attrs-lt-ATTR_TABLE.false c.if-src-gt-BYTES.true)

pub returns-then-valid-src : goal.returns-then-valid-src
returns-then-valid-src c =
    rw c.new-then-valid-src.ensures (not_utf8 c.args.src.now c.args.nodes c.args.attrs _ c.if-nodes-lt-NODE_TABLE.false c.if-attrs-lt-ATTR_TABLE.false c.if-src-gt-BYTES.false
    c.utf8_end-valid.ensures.is c.if-valid-src.true)
