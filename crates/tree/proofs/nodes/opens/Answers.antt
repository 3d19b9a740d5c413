-- `opens` meets its contract: a byte that differs, or lies beyond the text, is enough.
use Rattle.std.proofs.Common.{arith}
use Rattle.scan.proofs.Searches.{mark_off, mark_not, mark_beyond}
use Rattle.tree.specs.Read.{comment_mark}
use Rattle.tree.proofs.Comments.{opens_none, opens_here, rest_length, rest_first, rest_at}
use Rattle.tree.proofs.nodes.opens.Goals as goal

pub returns-in-60 : goal.returns-in-60
returns-in-60 c =
    let s = c.args.src.now in
    let p = c.args.at in
    let l = rest_length s p in
    let a = rest_first s p in
    let b = rest_at s p 1 in
    let d = rest_at s p 2 in
    let e = rest_at s p 3 in
    opens_here s p (omega arith) (omega arith) (omega arith) (omega arith) (omega arith)

pub returns-in_default : goal.returns-in_default
returns-in_default c =
    let s = c.args.src.now in
    let p = c.args.at in
    let l = rest_length s p in
    opens_none s p (mark_beyond s comment_mark p 3 (omega arith) (omega arith))

pub returns-in_default-2 : goal.returns-in_default-2
returns-in_default-2 c =
    let s = c.args.src.now in
    let p = c.args.at in
    let l = rest_at s p 3 in
    opens_none s p (mark_not s comment_mark p 3 (omega arith) (λ e. omega arith))

pub returns-in_default-3 : goal.returns-in_default-3
returns-in_default-3 c =
    let s = c.args.src.now in
    let p = c.args.at in
    let l = rest_at s p 2 in
    opens_none s p (mark_not s comment_mark p 2 (omega arith) (λ e. omega arith))

pub returns-in_default-4 : goal.returns-in_default-4
returns-in_default-4 c =
    let s = c.args.src.now in
    let p = c.args.at in
    let l = rest_at s p 1 in
    opens_none s p (mark_not s comment_mark p 1 (omega arith) (λ e. omega arith))

pub returns-in_default-5 : goal.returns-in_default-5
returns-in_default-5 c =
    let s = c.args.src.now in
    let p = c.args.at in
    let l = rest_first s p in
    let m = rest_length s p in
    opens_none s p (mark_off s comment_mark p 0 (omega arith) (omega arith) (λ e. omega arith))
