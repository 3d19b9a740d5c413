-- `utf8::follow` meets its contract: each of the three tests may say no; where none does, the bytes lie in the row's ranges. Assumes nothing.
use mathlib.Core.Path.{◌≡◌, sym, ◌∙◌}
use mathlib.Core.Bool.{true, false, ◌&&◌}
use Prim.Native.Nat.{ℕ, ◌+◌}
use lib.Dec.{leb}
use lib.ListN.{get_or}
use borrow.Author.Rules.{rules}
use Rattle.utf8.proofs.Utf8Laws.{followed-short, followed-not, followed-rest}
use Rattle.utf8.proofs.utf8.follow.Goals as goal
use Rattle.utf8.proofs.utf8.follow.Goals.{else-width-src-via-then-width-src+then-contains+else-all_go_on, else-width-src-via-then-width-src+else-contains}
use Rattle.utf8.proofs.utf8.follow.Goals.{else-width-src-via-else-width-src}

pub returns-then-all_go_on : goal.returns-then-all_go_on
returns-then-all_go_on c =
    let second : ℕ = get_or c.args.src.now (c.args.pos + 1) 0 in
    let within : (leb c.args.low second && leb second c.args.high) ≡ true = search rules in
    sym (followed-rest c.args.src.now _ _ _ _ c.requires.1 c.if-width-src.true within c.all_go_on.result c.all_go_on.ensures ∙ rw c.if-all_go_on.true)

pub returns-else-width-src : goal.returns-else-width-src
returns-else-width-src c =
    let second : ℕ = get_or c.args.src.now (c.args.pos + 1) 0 in
    elim c.else-width-src.branch [
      | else-width-src-via-then-width-src+then-contains+else-all_go_on w ↦
          let within : (leb c.args.low second && leb second c.args.high) ≡ true = search rules in
          sym (followed-rest c.args.src.now _ _ _ _ c.requires.1 w.if-width-src.true within w.all_go_on.result w.all_go_on.ensures
          ∙ rw w.if-all_go_on.false)
      | else-width-src-via-then-width-src+else-contains w ↦
          let without : (leb c.args.low second && leb second c.args.high) ≡ false = search rules in
          sym (followed-not c.args.src.now _ _ _ _ without)
      | else-width-src-via-else-width-src w ↦ sym (followed-short c.args.src.now _ _ _ _ c.requires.0 c.requires.1 w.if-width-src.false)
    ]
