-- `parser::parse_document` meets its contract: the text stays the same, and the prolog ends where `begin` says. Assumes nothing.
use Rattle.std.proofs.Common.{◌≡◌, sym, ◌∙◌, ap}
use Rattle.tree.specs.Read.{prolog_end}
use Rattle.tree.proofs.PrologLaws.{begin}
use Rattle.tree.proofs.parser.parse_document.Goals as goal

pub returns : goal.returns
returns c =
    let n = ap (λ b. b.now) c.new.ensures.0 in
    let a : c.skip_blanks.result.src.now ≡ c.args.src.now = ap (λ b. b.now) c.skip_blanks.ensures.0 ∙ n in
    let e : c.skip_prolog.result.src.now ≡ c.args.src.now = ap (λ b. b.now) c.skip_prolog.ensures.0 ∙ a in
    let b = rw (n, c.new.ensures.1) at c.skip_blanks.ensures.1 in
    let p : c.skip_prolog.result.pos ≡ prolog_end c.args.src.now = c.skip_prolog.ensures.1.0 ∙ rw a (sym (begin c.args.src.now _ b)) in
    rw (e, p) at c.parse_nodes.ensures
