-- `read_nodes` meets its contract: the tables are those after the first k nodes.
use mathlib.Core.Path.{◌≡◌}
use Rattle.scan.specs.Bytes.{other}
use Rattle.scan.specs.Posts.{Passes}
use Rattle.xml.specs.Steps.{nodes_read, node_strings_read}
use Rattle.xml.proofs.strings.read_nodes.Given as goal

abbrev pub invariant-loop-k : goal.invariant-loop-k
invariant-loop-k l = (l.nodes ≡ nodes_read l.src l.initial.nodes l.k) × (l.strings ≡ node_strings_read l.src l.initial.nodes l.initial.strings l.k)
    × Passes (other 38) l.src l.p.from l.p.end
