-- Extras and their rows. Definitions alone.
use Rattle.std.specs.Prelude as rust
use Rattle.std.specs.Prelude.{Some, None, ℕ, ◌+◌, ◌-◌, ◌*◌, ◌≤◌, ◌<◌, ◌^◌, ◌≡◌, Bool, cond, List, [], ◌∷◌, eqb, ltb, length, get_or, set}
use Rattle.std.proofs.Math.Option.{Option, none, some}
use Rattle.std.proofs.lemmas.List.Edits.{sets}
use Rattle.scan.specs.Part.{string_at}
use Rattle.names.specs.declared.tables.Listed.{Listed}
use Rattle.names.specs.Lists.{names, name_of}
use Rattle.track.specs.declared.values.Rows.{Rows}
use Rattle.xml.specs.Reading.{Placed}
use Rattle.meaning.specs.Nodes.{Attr, valued}
use Rattle.meaning.specs.Kinds.{with_places}
use Rattle.track.specs.Track.{Extra}
use Rattle.meaning.specs.Styling.{extra_of_style, every_extra, extra_if, extras_from}
use Rattle.styling.specs.Posts.{value_in_of}
use Rattle.xml.specs.declared.find.Attribute.{Attribute}

-- which of the attributes of a list are kept
abbrev pub wanted_by : Listed → List ℕ → List ℕ → Bool
wanted_by Listed.StyleExtra = extra_of_style
wanted_by Listed.InlineExtra = every_extra
wanted_by Listed.RegionAttr = every_extra
wanted_by Listed.InlineModelled = every_extra
wanted_by Listed.Imsc1Extension = every_extra

abbrev pub extras_of : Listed → List (Attr Placed) → List (Extra Placed)
extras_of list l = extras_from with_places (wanted_by list) 0 (names list) l

-- ---- the first attribute of each name, by the name's number: its row and 1, or 0 where there is none

-- the value of the attribute in row k
abbrev pub value_at : (u z : List ℕ) (k : ℕ) → Placed
value_at u z k = record { place = get_or u (k * 4 + 2) 0; bytes = string_at z (get_or u (k * 4 + 2) 0) (get_or u (k * 4 + 3) 0) }

-- what an entry c says, or else v
abbrev pub noted : (u z : List ℕ) (c : ℕ) → Option Placed → Option Placed
noted u z c v = cond (eqb c 0) v (some (value_at u z (c - 1)))

-- its row stands in the table, and its value within the strings
abbrev pub RowFits : (u z : List ℕ) (c : ℕ) → Type 0
RowFits u z c = (c ≡ 0 → ⊥) → ((c - 1) * 4 + 4 ≤ length u) × (get_or u ((c - 1) * 4 + 2) 0 + get_or u ((c - 1) * 4 + 3) 0 ≤ length z)

abbrev pub RowsFit : (u z rows : List ℕ) → Type 0
RowsFit u z rows = (i : ℕ) → RowFits u z (get_or rows i 0)

-- the entries are those of the attributes l
abbrev pub FirstRows : (u z : List ℕ) → Listed → (rows : List ℕ) → List (Attr Placed) → Type 0
FirstRows u z list rows l = (i : ℕ) → i < length (names list) → valued with_places (name_of list i) l ≡ noted u z (get_or rows i 0) none

-- r is written where nothing is
abbrev pub with_note : List ℕ → rust.Option ℕ → (r : ℕ) → List ℕ
with_note rows (Some i) r = cond (eqb (get_or rows i 0) 0) (set rows i r) rows
with_note rows None r = rows

abbrev pub NumberFits : List ℕ → rust.Option ℕ → Type 0
NumberFits rows (Some i) = i < length rows
NumberFits rows None = Unit {0}

abbrev pub NumberBelow : ℕ → rust.Option ℕ → Type 0
NumberBelow m (Some i) = i < m
NumberBelow m None = Unit {0}

-- where numbers end that end at e without this one
abbrev pub past_number : rust.Option ℕ → (e : ℕ) → ℕ
past_number (Some i) e = cond (ltb i e) e (i + 1)
past_number None e = e

-- from number e on there is no entry
abbrev pub NoneFrom : Listed → (e : ℕ) (rows : List ℕ) → Type 0
NoneFrom list e rows = (e ≤ length (names list)) × ((i : ℕ) → e ≤ i → get_or rows i 0 ≡ 0)

-- ---- the extra of the list's i-th name

-- with the value that an entry says
abbrev pub entry_extra : (u z : List ℕ) → Listed → (i c : ℕ) → List (Extra Placed)
entry_extra u z list i c = extra_if with_places (wanted_by list) i (name_of list i) (noted u z c none)

abbrev pub kept_in : (z : List ℕ) (i : ℕ) → rust.Option Attribute → List (Extra Placed)
kept_in z i (Some h) = record { number = i; value = value_in_of z h } ∷ []
kept_in z i None = []

-- its row
abbrev pub kept_cells : (i : ℕ) → rust.Option Attribute → List ℕ
kept_cells i (Some h) = i ∷ h.place ∷ h.len ∷ []
kept_cells i None = []

abbrev pub kept_count : rust.Option Attribute → ℕ
kept_count (Some h) = 1
kept_count None = 0

-- there is room for it in row k, and its numbers are small
abbrev pub RoomFor : (t : List ℕ) (k i : ℕ) → rust.Option Attribute → Type 0
RoomFor t k i (Some h) = (k * 3 + 3 ≤ length t) × (i < 2 ^ 32) × (h.place < 2 ^ 32) × (h.len < 2 ^ 32)
RoomFor t k i None = Unit {0}

-- the rows of extras: number, place and length of each
unfoldable pub placed_cells : List (Extra Placed) → List ℕ
placed_cells [] = []
placed_cells (x ∷ xs) = x.number ∷ x.value.place ∷ length x.value.bytes ∷ placed_cells xs

-- r extras stand in the table from row k on, which was t before
pub record Collected (xs : List (Extra Placed)) (k : ℕ) (t t' : List ℕ) (r : ℕ) : Type 0 where
  pub count : length xs ≡ r
  pub laid : t' ≡ sets t (k * 3) (placed_cells xs)

-- n rows from row k on; none have first row 0
abbrev pub rows_from : (k n : ℕ) → Rows
rows_from k n = cond (eqb n 0) (record { first = 0; count = 0 }) (record { first = k; count = n })

-- these extras stand in the table from row k on, and r says where, which is at most `many` rows
pub record Lists (xs : List (Extra Placed)) (k : ℕ) (t t' : List ℕ) (r : Rows) : Type 0 where
  pub rows : r ≡ rows_from k (length xs)
  pub count : r.count ≡ length xs
  pub laid : t' ≡ sets t (k * 3) (placed_cells xs)
