-- What is written stands in the bytes that are lent. Assumes nothing.
--     bytes_fit          what `write` and `cue_to_bytes` write
--     recaption_fits     what `recaption` writes
use Rattle.std.specs.Prelude.{Result, Ok, Err, ⊤}
use Prim.Native.Nat.{ℕ, ◌+◌, ◌-◌, ◌≤◌}
use mathlib.Core.Path.{◌≡◌, ap, ◌∙◌}
use mathlib.Core.Option.{some}
use native.Mathlib.Omega.{arith}
use lib.ListN.{length, replicate, length-append}
use Rattle.track.specs.Track.{Bytes, Track}
use Rattle.track.specs.Tables as track
use Rattle.promised.specs.Promise.{Tables}
use Rattle.writer.specs.Promise.{Promise, Outcome, gives, meets, text_in_of, count_in, bytes_of}
use Rattle.rewritten.specs.Recaption.{ThenWritten, Recaptioned}
use Rattle.tree.specs.declared.answers.Refusal.{Refusal}

count_text : (o : Outcome) (n : ℕ) → some n ≡ count_in o → n ≡ length (text_in_of o)
unfolding count_in text_in_of
count_text (gives w) n e = cc
count_text (meets k p) n e = absurd (let z : ◌≡◌ {A = ℕ} 0 1 = cc in omega arith)

pub bytes_fit : {asked : Track Bytes → Outcome} {T : track.Tables} {out left : Bytes} (n : ℕ)
    → Promise asked T out (Ok n) left → n ≤ length left
unfolding bytes_of
bytes_fit {out = out} {left = left} n p =
    let w : Bytes = text_in_of p.outcome in
    let z : Bytes = replicate (length out - length w) 0 in
    let l : length left ≡ length w + length z = ap length p.bytes ∙ length-append w z in
    omega (arith, count_text p.outcome n p.count, l)

then_fits : (T : track.Tables) (out written : Bytes) (n : ℕ) (reading : Result ⊤ Refusal)
    → ThenWritten reading T out (Ok n) written → n ≤ length written
then_fits T out written n (Ok tt) p = bytes_fit n p
then_fits T out written n (Err r) p =
    absurd (let e = p.0 in let z : ◌≡◌ {A = ℕ} 0 1 = cc in omega arith)

pub recaption_fits : {text out written : Bytes} {lent left : Tables} {n : ℕ}
    → Recaptioned text lent out (Ok n) left written → n ≤ length written
recaption_fits {out = out} {written = written} {left = left} {n = n} p = then_fits left.track out written n p.reading p.writes
