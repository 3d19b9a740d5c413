-- `read_any` meets its contract: the places that it finds give the text's shape, and a law says what each shape spells.
use Rattle.std.proofs.Common.{◌≡◌, sym, ◌∙◌, ⊎_elim, eqb-true}
use Rattle.decimals.proofs.Reading.{rest_part, Shape, shape_bare, shape_point, shape_empty, shape_rest, shape_whole, shape_digital}
use Rattle.decimals.proofs.read.read_any.Goals as goal
use Rattle.decimals.proofs.read.read_any.Goals.{then-whole-from, else-whole-from, Joined-else-whole-eq0, Joined-whole-from}

shape : (c : Joined-whole-from) → Shape c.args.text.now c.digits_end-whole.result
    c.fraction_start-from.result c.if-whole-from.end
shape c =
    let s = c.args.text.now in
    elim c.if-whole-from.branch [
      | then-whole-from w ↦ shape_point s c.digits_end-whole.result c.fraction_start-from.result c.digits_end-whole.ensures.is c.fraction_start-from.ensures c.if-whole-from.end w.if-whole-from.true (w.end-is ∙ w.digits_end-end.ensures.is)
      | else-whole-from w ↦ rw w.end-is (shape_bare s c.digits_end-whole.result c.fraction_start-from.result c.digits_end-whole.ensures.is c.fraction_start-from.ensures w.if-whole-from.false)
    ]

-- there is a digit
some : (c : Joined-else-whole-eq0) → c.digits_end-whole.result ≡ 0 → c.if-whole-from.end ≡ c.fraction_start-from.result → ⊥
some c z e = ⊎_elim (λ w. w.1 e) (λ w. w z) c.else-whole-eq0.either

pub returns-then-is_word : goal.returns-then-is_word
returns-then-is_word c =
    sym (shape_empty c.args.negative c.args.text.now c.args.digits c.args.decimals c.digits_end-whole.result
    c.fraction_start-from.result c.if-whole-from.end (shape (goal.at.returns-then-is_word c).Joined-whole-from) c.if-whole-eq0.true
    (eqb-true c.if-whole-from.end c.fraction_start-from.result c.if-end-from.true-raw)
    ∙ rw (sym (c.is_word.ensures) ∙ c.if-is_word.true))

pub returns-then-end-from : goal.returns-then-end-from
returns-then-end-from c =
    sym (shape_empty c.args.negative c.args.text.now c.args.digits c.args.decimals c.digits_end-whole.result
    c.fraction_start-from.result c.if-whole-from.end (shape (goal.at.returns-then-end-from c).Joined-whole-from) c.if-whole-eq0.true
    (eqb-true c.if-whole-from.end c.fraction_start-from.result c.if-end-from.true-raw)
    ∙ rw (sym (c.is_word.ensures) ∙ c.if-is_word.false))

pub returns-then-is_exponent : goal.returns-then-is_exponent
returns-then-is_exponent c =
    sym (shape_rest c.args.negative c.args.text.now c.args.digits c.args.decimals c.digits_end-whole.result
    c.fraction_start-from.result c.if-whole-from.end (shape ((goal.at.returns-then-is_exponent c).Joined-whole-from)) (some ((goal.at.returns-then-is_exponent c).Joined-else-whole-eq0)) c.if-end-text.true
    ∙ rw (← (rest_part c.args.text.now c.if-whole-from.end), sym c.is_exponent.ensures ∙ c.if-is_exponent.true))

pub returns-then-end-text : goal.returns-then-end-text
returns-then-end-text c =
    sym (shape_rest c.args.negative c.args.text.now c.args.digits c.args.decimals c.digits_end-whole.result
    c.fraction_start-from.result c.if-whole-from.end (shape ((goal.at.returns-then-end-text c).Joined-whole-from)) (some ((goal.at.returns-then-end-text c).Joined-else-whole-eq0)) c.if-end-text.true
    ∙ rw (← (rest_part c.args.text.now c.if-whole-from.end), sym c.is_exponent.ensures ∙ c.if-is_exponent.false))

pub limit-requires : goal.limit-requires
limit-requires c = (
  shape_digital c.args.negative c.args.text.now c.args.digits c.args.decimals c.digits_end-whole.result
      c.fraction_start-from.result c.if-whole-from.end (shape (goal.at.limit-requires c).Joined-whole-from) c.if-end-text.false,
  c.requires.0,
  c.requires.1,
)

pub returns : goal.returns
returns c =
    c.limit.ensures ∙ sym (shape_whole c.args.negative c.args.text.now c.args.digits c.args.decimals c.digits_end-whole.result
    c.fraction_start-from.result c.if-whole-from.end (shape ((goal.at.returns c).Joined-whole-from)) (some ((goal.at.returns c).Joined-else-whole-eq0)) c.if-end-text.false)
