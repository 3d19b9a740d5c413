use Rattle.entities.proofs.Decoding.{run-mark, decoding_start, decoding_run, decoding_step, decoding_left, decoding_room}
use Rattle.entities.proofs.Decoding.{decoding_done}
use Rattle.entities.proofs.decode.decode_entities.Goals as goal

pub loop-from-init : goal.loop-from-init
loop-from-init c =
    decoding_start _ _ _

pub copy-to-requires : goal.copy-to-requires
copy-to-requires c =
    decoding_room _ _ _ _ _ _ c.loop-from.invariant c.requires _ c.find_byte-end.ensures

pub decode_reference-step-requires : goal.decode_reference-step-requires
decode_reference-step-requires c =
    let d = decoding_run _ _ _ _ _ _ c.loop-from.invariant _ _ _ c.find_byte-end.ensures c.copy-to.ensures in
    (c.if-end-src.true, run-mark _ _ _ c.find_byte-end.ensures c.if-end-src.true, decoding_left _ _ _ _ _ _ d c.requires)

pub loop-from-preserved-then-end-src : goal.loop-from-preserved-then-end-src
loop-from-preserved-then-end-src c =
    let d = decoding_run _ _ _ _ _ _ c.loop-from.invariant _ _ _ c.find_byte-end.ensures c.copy-to.ensures in
    decoding_step _ _ _ _ _ _ d _ _ _ c.decode_reference-step.ensures

pub loop-from-preserved : goal.loop-from-preserved
loop-from-preserved c =
    decoding_run _ _ _ _ _ _ c.loop-from.invariant _ _ _ c.find_byte-end.ensures c.copy-to.ensures

pub returns : goal.returns
returns c =
    decoding_done _ _ _ _ _ _ c.loop-from.invariant c.requires c.loop-from-test.false
