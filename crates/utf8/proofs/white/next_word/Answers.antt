-- `next_word` answers the next word, which is not empty since white space stops before it; or that there is none.
use native.Mathlib.Omega.{arith}
use Rattle.utf8.proofs.WhiteLaws.{words_from-none}
use Rattle.utf8.proofs.Wording.{word_at}
use borrow.Author.Rules.{rules}
use Rattle.utf8.proofs.white.next_word.Goals as goal

pub returns-then-src-start : goal.returns-then-src-start
returns-then-src-start c =
    λ ws. words_from-none c.args.src.now _ ws (omega arith)

pub returns : goal.returns
returns c =
    word_at c.args.src.now _ _ _ c.white_end-start.ensures c.word_end-end.ensures.0 (search rules)
