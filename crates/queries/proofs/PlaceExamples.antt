-- A worked case: the value "a a" has one id, and its row points at the first of its two places. Assumes nothing.
use Rattle.std.specs.Prelude.{None}
use mathlib.Core.Path.{refl}
use mathlib.Core.Bool.{false}
use mathlib.Core.List.{[], ◌∷◌}
use native.Mathlib.Omega.{arith}
use Rattle.scan.specs.Loop.{loop, go}
use Rattle.scan.specs.Names.{same_bytes_of}
use Rattle.scan.specs.Part.{string_at}
use Rattle.utf8.specs.Utf8.{sequence_at, char_at}
use Rattle.utf8.specs.White.{is_white, white_at, white_end, word_end_of, WordAt, NextWord}
use Rattle.utf8.proofs.WhiteLaws.{words_from-none}
use Rattle.utf8.proofs.Wording.{word_at}
use Rattle.names.specs.Numbers.{is_in}
use Rattle.track.specs.Track.{Bytes}
use Rattle.track.specs.Tables.{Tables, span, tables}
use Rattle.records.specs.Find.{first_row, first_with}
use Rattle.styles.specs.Cells.{blank_look, is_plain}
use Rattle.styles.specs.Own.{ascii}
use Rattle.styles.specs.Ids.{names_of}
use Rattle.styles.specs.Places.{row, WalkedAt, start_at, meet_at, chain_at, own_at, Walks, none, again, first}
use Rattle.queries.specs.Places.{PlacedValue}

abbrev value : Bytes
value = ascii "a a"

abbrev empty : Tables
empty = tables [] [] [] [] [] [] [] [] [] [] []

abbrev one_id : WalkedAt
one_id = record { visited = row 0 (span 0 1) ∷ []; found = false; look = blank_look }

first_word : WordAt value 0 0 1
unfolding white_end word_end_of loop go white_at sequence_at char_at is_white
first_word = word_at value 0 0 1 (record { is = refl; after = omega arith; within_text = omega arith; stops = λ l. refl }) refl (omega arith)

second_word : WordAt value 1 2 3
unfolding white_end word_end_of loop go white_at sequence_at char_at is_white
second_word = word_at value 1 2 3 (record { is = refl; after = omega arith; within_text = omega arith; stops = λ l. refl }) refl (omega arith)

no_more : NextWord value 3 None
unfolding white_end loop go
no_more ws = words_from-none value 3 ws (omega arith)

nothing : NextWord [] 0 None
unfolding white_end loop go
nothing ws = words_from-none [] 0 ws (omega arith)

walks : Walks value [] [] [] 0 (row 0 (span 0 3)) 0 start_at one_id
unfolding string_at start_at meet_at chain_at own_at first_row first_with names_of is_in same_bytes_of
walks = first {m = one_id} first_word refl (none nothing refl) (again second_word refl (none no_more refl))

pub a_a : PlacedValue value empty one_id
unfolding string_at start_at is_plain blank_look
a_a = record {
  below = one_id;
  above = start_at;
  joined = record { below = one_id; all = one_id; its_style = walks; its_ids = none nothing refl; is = refl };
  second = none nothing refl;
  is = refl;
}
