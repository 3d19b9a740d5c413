-- `utf8::sequence_at` meets its contract: each arm is the row of the table with its range, and the `_` lies in none. Assumes nothing.
use native.Mathlib.Omega.{arith}
use mathlib.Core.Path.{refl}
use lib.ListN.{get_or}
use Rattle.utf8.proofs.Utf8Laws.{sequence-row, sequence-ascii, sequence-none}
use Rattle.utf8.proofs.utf8.sequence_at.Goals as goal

pub returns-in-224 : goal.returns-in-224
returns-in-224 c =
    sequence-row c.args.src.now _ 2 0xE0 0xE0 3 0xA0 0xBF refl refl refl refl c.requires (omega arith) (omega arith) _ c.follow.ensures

pub returns-in-237 : goal.returns-in-237
returns-in-237 c =
    sequence-row c.args.src.now _ 4 0xED 0xED 3 0x80 0x9F refl refl refl refl c.requires (omega arith) (omega arith) _ c.follow-in-237.ensures

pub returns-in-240 : goal.returns-in-240
returns-in-240 c =
    sequence-row c.args.src.now _ 6 0xF0 0xF0 4 0x90 0xBF refl refl refl refl c.requires (omega arith) (omega arith) _ c.follow-in-240.ensures

pub returns-in-244 : goal.returns-in-244
returns-in-244 c =
    sequence-row c.args.src.now _ 8 0xF4 0xF4 4 0x80 0x8F refl refl refl refl c.requires (omega arith) (omega arith) _ c.follow-in-244.ensures

pub returns-in-0-to-127 : goal.returns-in-0-to-127
returns-in-0-to-127 c =
    sequence-ascii c.args.src.now _ c.requires (omega arith)

pub returns-in-194-to-223 : goal.returns-in-194-to-223
returns-in-194-to-223 c =
    sequence-row c.args.src.now _ 1 0xC2 0xDF 2 0x80 0xBF refl refl refl refl c.requires (omega arith) (omega arith) _ c.follow-in-194-to-223.ensures

pub returns-in-225-to-236 : goal.returns-in-225-to-236
returns-in-225-to-236 c =
    sequence-row c.args.src.now _ 3 0xE1 0xEC 3 0x80 0xBF refl refl refl refl c.requires (omega arith) (omega arith) _ c.follow-in-225-to-236.ensures

pub returns-in-238-to-239 : goal.returns-in-238-to-239
returns-in-238-to-239 c =
    sequence-row c.args.src.now _ 5 0xEE 0xEF 3 0x80 0xBF refl refl refl refl c.requires (omega arith) (omega arith) _ c.follow-in-238-to-239.ensures

pub returns-in-241-to-243 : goal.returns-in-241-to-243
returns-in-241-to-243 c =
    sequence-row c.args.src.now _ 7 0xF1 0xF3 4 0x80 0xBF refl refl refl refl c.requires (omega arith) (omega arith) _ c.follow-in-241-to-243.ensures

pub returns-in_default : goal.returns-in_default
returns-in_default c =
    sequence-none c.args.src.now _ 0x80 0xC1 refl c.requires (omega arith) (omega arith)

pub returns-in_default-2 : goal.returns-in_default-2
returns-in_default-2 c =
    sequence-none c.args.src.now _ 0xF5 (get_or c.args.src.now c.args.pos 0) refl c.requires (omega arith) (omega arith)
