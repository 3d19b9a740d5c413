-- Seconds up to the next colon, summed, and the frames that follow them.
use Rattle.std.specs.Prelude.{Ok, Err}
use Prim.Native.Nat.{◌+◌}
use mathlib.Core.Path.{◌≡◌, sym, ap, ◌∙◌}
use lib.ListN.{take}
use borrow.Author.Rules.{rules}
use mir.Syntax.{w64}
use mir.ValLaws.{to_z-of_z}
use Rattle.scan.specs.Split.{split_at}
use Rattle.times.specs.Expressions.{◌>>=◌, seconds_of}
use Rattle.times.specs.Steps.{number, summed, after_seconds}
use Rattle.times.proofs.Parts.{rest_of, seconds_more, seconds_err}
use Rattle.times.proofs.clock.after_minutes.Goals as goal

pub returns-in_err-us : goal.returns-in_err-us
returns-in_err-us c =
    let e : c.from_residual.result ≡ Err c.in_err-us.field-0.0 = search rules in
    let total = c.summed.ensures ∙ ap (summed (number c.args.h) (number c.args.m)) c.seconds.ensures in
    e ∙ sym (seconds_err _ _ c.find_byte-colon.ensures c.args.ctx (number c.args.h) (number c.args.m) _ (sym total ∙ c.in_err-us.was))

pub returns : goal.returns
returns c =
    let colon = c.find_byte-colon.result in
    let read = ap Ok (to_z-of_z w64 c.in_ok-us.us (search rules)) in
    let total : Ok c.in_ok-us.us ≡ summed (number c.args.h) (number c.args.m) (seconds_of (take colon c.args.text.now)) =
    sym c.in_ok-us.was ∙ (c.summed.ensures ∙ ap (summed (number c.args.h) (number c.args.m)) c.seconds.ensures) in
    let rest = rest_of c.args.text.now (colon + 1) in
    c.after_seconds.ensures
    ∙ ((λ i. (read ∙ total) i >>= λ t. after_seconds t (split_at 58 (rest i)) c.args.ctx)
    ∙ sym (seconds_more _ _ c.find_byte-colon.ensures c.args.ctx (number c.args.h) (number c.args.m) c.if-text-colon.false))
