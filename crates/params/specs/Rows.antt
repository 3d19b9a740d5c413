-- The rows of parameters. Definitions alone.
use Rattle.std.specs.Prelude.{Option, Some, None, ℕ, ◌+◌, ◌-◌, ◌*◌, ◌≤◌, ◌<◌, ◌≡◌, cond, List, [], ◌∷◌, length, get_or, take}
use Rattle.std.proofs.lemmas.List.Edits.{sets}
use Rattle.scan.specs.Names.{after_first_colon}
use Rattle.scan.specs.Part.{string_at}
use Rattle.track.specs.declared.strings.Span.{Span}
use Rattle.track.specs.Track.{Param}
use Rattle.xml.specs.Reading.{Placed}
use Rattle.styling.specs.Posts.{name_at}
use Rattle.params.specs.Named.{is_param_name}

-- the value of attribute k stands within the strings
abbrev pub ValueFits : (u z : List ℕ) (k : ℕ) → Type 0
ValueFits u z k = get_or u (k * 4 + 2) 0 + get_or u (k * 4 + 3) 0 ≤ length z

-- attribute k as a parameter: its name from the first colon on
abbrev pub param_at : (u z : List ℕ) (k : ℕ) → Param Placed
param_at u z k =
    let s = name_at u z k in
    record {
      name = record { place = get_or u (k * 4) 0 + (length s - length (after_first_colon s)); bytes = after_first_colon s };
      value = record { place = get_or u (k * 4 + 2) 0; bytes = string_at z (get_or u (k * 4 + 2) 0) (get_or u (k * 4 + 3) 0) };
    }

-- what it adds
abbrev pub params_at : (u z : List ℕ) (k : ℕ) → List (Param Placed)
params_at u z k = cond (is_param_name (name_at u z k)) (param_at u z k ∷ []) []

-- r is where its name stands, within the strings
pub record SpanIs (u z : List ℕ) (k : ℕ) (r : Span) : Type 0 where
  pub place_is : r.place ≡ (param_at u z k).name.place
  pub len_is : r.len ≡ length (param_at u z k).name.bytes
  pub within : r.place + r.len ≤ length z

-- the rows of parameters: place and length of name and value
unfoldable pub placed_params : List (Param Placed) → List ℕ
placed_params [] = []
placed_params (x ∷ l) =
    x.name.place ∷ length x.name.bytes ∷ x.value.place ∷ length x.value.bytes ∷ placed_params l

-- what attribute k adds stands in the n-th row, and all else is as it was; or there are 64 already
abbrev pub Adds : (u z : List ℕ) (k : ℕ) → (t t' : List ℕ) (n : ℕ) → Option ℕ → Type 0
Adds u z k t t' n (Some m) =
    (m ≡ n + length (params_at u z k)) × (n ≤ 64 → m ≤ 64) × (t' ≡ sets t (n * 4) (placed_params (params_at u z k)))
Adds u z k t t' n None = (64 ≤ n) × (t' ≡ t) × (params_at u z k ≡ param_at u z k ∷ [])

-- these parameters stand in the table; or they are more than 64, and the first 64 do
abbrev pub Collects : List (Param Placed) → (t t' : List ℕ) → Option ℕ → Type 0
Collects l t t' (Some n) = (n ≡ length l) × (n ≤ 64) × (t' ≡ sets t 0 (placed_params l))
Collects l t t' None = (64 < length l) × (t' ≡ sets t 0 (placed_params (take 64 l)))
