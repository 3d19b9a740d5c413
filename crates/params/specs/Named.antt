-- What the functions answer, in terms of `meaning`. Definitions alone.
use Rattle.std.specs.Prelude as rust
use Rattle.std.specs.Prelude.{Some, None, Result, Ok, Err, ℕ, ◌+◌, ◌≤◌, ◌≡◌, Bool, ◌&&◌, ◌||◌, List, length, Float}
use Rattle.std.proofs.Math.Option.{Option, none, some}
use Rattle.scan.specs.Names.{same_bytes_of, after_first_colon}
use Rattle.grammar.specs.Scan.{prefix}
use Rattle.times.specs.declared.offset.TimingCtx.{TimingCtx}
use Rattle.records.specs.Find.{first_that}
use Rattle.xml.specs.Reading.{Placed}
use Rattle.meaning.specs.Words.{ascii}
use Rattle.meaning.specs.Answers.{Answer, is, ◌>>=◌}
use Rattle.meaning.specs.Nodes.{Attr}
use Rattle.meaning.specs.Kinds.{with_places}
use Rattle.meaning.specs.Meaning.{timing, rate_of}
use Rattle.xml.specs.declared.find.Attribute.{Attribute}
use Rattle.styling.specs.Posts.{value_in_of, option, turned}
use Rattle.params.specs.declared.seek.Sought.{Sought}
use Rattle.tree.specs.declared.answers.Refusal.{Refusal}

-- ---- by name
-- the name of a parameter (`is_param`)
abbrev pub is_param_name : List ℕ → Bool
is_param_name s = prefix (ascii "ttp:") s || prefix (ascii "ittp:") s

abbrev pub sought_by : Sought → (name found : List ℕ) → Bool
sought_by Sought.Whole name s = same_bytes_of s name
sought_by Sought.Param name s = is_param_name s && same_bytes_of (after_first_colon s) name

-- the first attribute whose name passes
abbrev pub first_by_of : (List ℕ → Bool) → List (Attr Placed) → Option (Attr Placed)
first_by_of p l = first_that (λ (x : Attr Placed). p x.name.bytes) l

-- h is that one, its value within the strings; or there is none
pub record IsBy (z : List ℕ) (p : List ℕ → Bool) (l : List (Attr Placed)) (h : Attribute) : Type 0 where
  pub full : Placed
  pub is-first : first_by_of p l ≡ some (record { at = h.at; name = full; value = value_in_of z h })
  pub within : h.place + h.len ≤ length z

pub record NoneBy (p : List ℕ → Bool) (l : List (Attr Placed)) : Type 0 where
  pub is_none : first_by_of p l ≡ none

abbrev pub Meets : (z : List ℕ) → (List ℕ → Bool) → List (Attr Placed) → rust.Option Attribute → Type 0
Meets z p l (Some h) = IsBy z p l h
Meets z p l None = NoneBy p l

-- ---- a string that may be absent
abbrev pub found_in : (z : List ℕ) → rust.Option Attribute → Option Placed
found_in z (Some h) = some (value_in_of z h)
found_in z None = none

-- ---- rates
abbrev pub rate_said : Result (rust.Option Float) Refusal → Answer (Option Float)
rate_said (Ok x) = is (option x)
rate_said (Err r) = turned r

abbrev pub timing_said : Result TimingCtx Refusal → Answer TimingCtx
timing_said (Ok x) = is x
timing_said (Err r) = turned r

-- what `track_in` evaluates of both
abbrev pub timing_of : List (Attr Placed) → Answer TimingCtx
timing_of l =
    rate_of with_places (ascii "frameRate") l >>= λ frame. rate_of with_places (ascii "tickRate") l >>= λ tick. is (timing frame tick)
