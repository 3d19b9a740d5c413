-- `read_tree` meets its promises: the tables are cleared first, and again on a refusal. Assumes nothing.
use Prim.Native.Nat.{ℕ}
use mathlib.Core.Path.{◌≡◌, refl, ap, ◌∙◌}
use native.Mathlib.Omega.{arith}
use lib.ListN.{length, replicate}
use Rattle.scan.proofs.Handed.{handed_on}
use Rattle.tree.specs.Read.{prolog_end}
use Rattle.tree.proofs.Whole.{in_range, refused, tree, read_of}
use Rattle.tree.proofs.read.read_tree.Goals as goal

pub parse_document-requires : goal.parse_document-requires
parse_document-requires c =
    let f = c.in_ok-test_limits.ensures in
    record {
      short = f.short;
      long = f.long;
      wide = f.wide;
      within = omega arith;
      most = omega arith;
      least = omega arith;
    }

pub returns-in_err-test_limits : goal.returns-in_err-test_limits
returns-in_err-test_limits c =
    rw (handed_on _ c.from_residual.ensures) (read_of (refused _ _ _ _ _ _ _ (rw (c.clear.auto.cells, c.clear-2.auto.cells) at
    c.in_err-test_limits.ensures) c.clear.ensures c.clear-2.ensures))

pub returns-in-Ok : goal.returns-in-Ok
returns-in-Ok c =
    let f = rw (c.clear.auto.cells, c.clear-2.auto.cells) at c.in_ok-test_limits.ensures in
    read_of (rw (in_range c.args.src.now (length c.args.nodes.now) (length c.args.attrs.now) (prolog_end c.args.src.now) f refl)
    (tree _ _ _ _ _ _ _ _ _ _ (rw c.in-Ok.is at c.parse_document.ensures) c.clear.ensures c.clear-2.ensures f.long
    f.wide))

pub returns-in-Err : goal.returns-in-Err
returns-in-Err c =
    let f = rw (c.clear.auto.cells, c.clear-2.auto.cells) at c.in_ok-test_limits.ensures in
    let n : length c.parse_document.new.nodes ≡ length c.args.nodes.now = c.parse_document.auto.nodes ∙ c.clear.auto.cells in
    let m : length c.parse_document.new.attrs ≡ length c.args.attrs.now = c.parse_document.auto.attrs ∙ c.clear-2.auto.cells in
    read_of (refused _ _ _ _ _ _ _
    (in_range c.args.src.now (length c.args.nodes.now) (length c.args.attrs.now) (prolog_end c.args.src.now) f refl
    ∙ rw c.in-Err.is at c.parse_document.ensures)
    (c.clear-in-Err.ensures ∙ ap (λ (k : ℕ). replicate k 0) n) (c.clear-in-Err-2.ensures ∙ ap (λ (k : ℕ). replicate k 0) m))
