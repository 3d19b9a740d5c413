-- Every case that document 01 marks [P] holds: computed from the definitions, and for the tree derived from what is computed. Assumes nothing.
use Rattle.std.specs.Prelude.{Err}
use mathlib.Core.Path.{◌≡◌, refl, ◌∙◌}
use mathlib.Core.Logic.{inl, inr}
use native.Mathlib.Omega.{arith}
use lib.IntN.{negsuc}
use lib.Ieee.{of_int, mul, div, le, to_signed, round}
use Rattle.scan.proofs.Every.{by-test}
use Rattle.scan.specs.Text.{ascii}
use Rattle.scan.specs.Loop.{go, loop}
use Rattle.scan.specs.Names.{same_bytes_of}
use Rattle.scan.specs.Marks.{starts_at}
use Rattle.scan.specs.Bytes.{digit_byte, run_length_of}
use Rattle.utf8.specs.Utf8.{sequence_at, char_at, scalar, encode}
use Rattle.utf8.specs.White.{is_white, white_at, white_before, trimmed}
use Rattle.numerals.specs.Numerals.{numeral_of}
use Rattle.numerals.specs.Written.{padded, decimal_width}
use Rattle.decimals.specs.Decimal.{decimal_of}
use Rattle.entities.specs.Reference.{reference}
use Rattle.entities.specs.Decode.{decoded}
use Rattle.grammar.specs.Demand.{decode_tree, decode_forest, decode_attrs}
use Rattle.grammar.proofs.Examples as grammar
use Rattle.times.specs.Sums.{checked}
use Rattle.times.specs.declared.offset.TimingCtx.{TimingCtx}
use Rattle.times.specs.Expressions.{float, frame_rate_of, counted, chars_length, micros_of, offset_time, ◌else◌, time_in}
use Rattle.times.specs.Written.{clock_text}
use Rattle.meaning.proofs.Computing.{computing}
use Rattle.meaning.proofs.Examples.{below_zero}
use Rattle.promised.proofs.Cases.{parsed-case}
use Rattle.ttml.specs.Marked.{NoFrames, one_cue, film, Holds, All, marked}
use Rattle.times.specs.declared.offset.TimeError.{TimeError}

-- five frames, counted by whatever rate there is; no way after that gives a time
five : (ctx : TimingCtx) → time_in (ascii "5f") ctx ≡ (counted (float 5) (frame_rate_of ctx) else (Err TimeError.Invalid))
unfolding time_in offset_time trimmed white_at white_before is_white sequence_at char_at loop go digit_byte run_length_of starts_at numeral_of decimal_of of_int round
five ctx = refl

no_frames : (ctx : TimingCtx) → NoFrames ctx → time_in (ascii "5f") ctx ≡ Err TimeError.Invalid
no_frames ctx (inl e) = five ctx ∙ rw e refl
no_frames ctx (inr l) = five ctx ∙ by-test ctx.has_frame_rate (λ e. rw (e, l) refl) (λ e. rw e refl)

below : Holds (film (ascii "<tt><body><div begin=\"3s\"><p begin=\"-5s\" dur=\"1s\"/></div></body></tt>") (one_cue (negsuc 1999999) (negsuc 999999)))
unfolding Holds computing
below lent left answer long p = parsed-case _ lent long (omega arith) refl p below_zero

pub marked-hold : All marked
unfolding Holds decoded reference same_bytes_of scalar encode decode_tree decode_forest decode_attrs time_in offset_time trimmed white_at white_before is_white
    sequence_at char_at loop go digit_byte run_length_of starts_at numeral_of decimal_of chars_length micros_of checked mul div le of_int to_signed round
    clock_text padded decimal_width
marked-hold =
    ((grammar.derived, refl), (refl, (refl, (refl, (refl, (refl, (refl, (refl, (below, (no_frames, (refl, (refl, (refl, (refl, tt))))))))))))))
