-- What the readers of an element's times ask and ensure. This file need not be believed: `parse` promises what is left in the end.
use Rattle.std.specs.Prelude as rust
use Rattle.std.specs.Prelude.{Some, None, Result, Ok, Err, ℕ, ◌≡◌, List, ℤ}
use Rattle.std.proofs.Math.Option.{Option, none, some}
use Rattle.times.specs.declared.offset.TimingCtx.{TimingCtx}
use Rattle.xml.specs.Reading.{Placed}
use Rattle.meaning.specs.Answers.{Answer, is, ◌>>=◌}
use Rattle.meaning.specs.Words.{ascii}
use Rattle.meaning.specs.Nodes.{Attr}
use Rattle.meaning.specs.Kinds.{with_places}
use Rattle.meaning.specs.Timing.{time_of, sum, or_zero, end_of, lasting_to}
use Rattle.styling.specs.Posts.{turned}
use Rattle.intervals.specs.declared.Interval.{Interval}
use Rattle.tree.specs.declared.answers.Refusal.{Refusal}

-- a time that may be absent
abbrev pub time_given : rust.Option ℤ → Option ℤ
time_given (Some z) = some z
time_given None = none

abbrev pub giving_said : Result (rust.Option ℤ) Refusal → Answer (Option ℤ)
giving_said (Ok x) = is (time_given x)
giving_said (Err r) = turned r

abbrev pub timed_said : Result Interval Refusal → Answer Interval
timed_said (Ok x) = is x
timed_said (Err r) = turned r

-- a container's own begin; `div_of` up to its start, and from its children's end on
abbrev pub begin_from : TimingCtx → (place : ℕ) → List (Attr Placed) → Answer ℤ
begin_from ctx place l = time_of with_places ctx place (ascii "begin") l >>= λ begin. is (or_zero begin)

abbrev pub start_from : TimingCtx → (place : ℕ) → ℤ → List (Attr Placed) → Answer ℤ
start_from ctx place reference l = time_of with_places ctx place (ascii "begin") l >>= λ begin. sum place reference (or_zero begin)

abbrev pub end_from : TimingCtx → (place : ℕ) → (start children : ℤ) → List (Attr Placed) → Answer ℤ
end_from ctx place start children l = time_of with_places ctx place (ascii "dur") l >>= λ dur. lasting_to place start dur children

-- the times of `cue_of_p`: from its start on; from its sums on; from its dur on; from its end on; all
abbrev pub stopping : (place : ℕ) → (reference : ℤ) (end dur : Option ℤ) (start : ℤ) → Answer Interval
stopping place reference end dur start = end_of place reference start end dur >>= λ stop. is (record { start = start; end = stop })

abbrev pub interval_from : (place : ℕ) → (reference : ℤ) (begin end dur : Option ℤ) → Answer Interval
interval_from place reference begin end dur = sum place reference (or_zero begin) >>= stopping place reference end dur

abbrev pub ended_from : TimingCtx → (place : ℕ) → (reference : ℤ) (begin end : Option ℤ) → List (Attr Placed) → Answer Interval
ended_from ctx place reference begin end l = time_of with_places ctx place (ascii "dur") l >>= interval_from place reference begin end

abbrev pub begun_from : TimingCtx → (place : ℕ) → (reference : ℤ) (begin : Option ℤ) → List (Attr Placed) → Answer Interval
begun_from ctx place reference begin l = time_of with_places ctx place (ascii "end") l >>= λ end. ended_from ctx place reference begin end l

abbrev pub interval_of : TimingCtx → (place : ℕ) → (reference : ℤ) → List (Attr Placed) → Answer Interval
interval_of ctx place reference l = time_of with_places ctx place (ascii "begin") l >>= λ begin. begun_from ctx place reference begin l

-- the times of `cue_in`: from its end on; all
abbrev pub single_from : TimingCtx → (place : ℕ) → (start : ℤ) (end : Option ℤ) → List (Attr Placed) → Answer Interval
single_from ctx place start (some z) l = is (record { start = start; end = z })
single_from ctx place start none l = end_from ctx place start start l >>= λ stop. is (record { start = start; end = stop })

abbrev pub single_of : TimingCtx → (place : ℕ) → List (Attr Placed) → Answer Interval
single_of ctx place l =
    begin_from ctx place l >>= λ start. time_of with_places ctx place (ascii "end") l >>= λ end. single_from ctx place start end l
