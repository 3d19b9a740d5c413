-- The tests of the check of a handed track, as the program makes them. This file need not be believed: `Check` says what is promised, and
-- `proofs/Exactly` shows that these tests give it.
use Rattle.std.specs.Prelude.{Result, Ok, Err, ⊤, ℕ, Bool, cond, ◌&&◌, length, leb}
use Rattle.track.specs.Tables.{Tables}
use Rattle.track.specs.Meaning.{is_track}
use Rattle.tree.specs.declared.answers.Refusal.{Refusal}

abbrev pub refused_as_of : ℕ → Result ⊤ Refusal
refused_as_of n = Err (record { number = n; place = 0 })

-- "1. A lent table is shorter than its fixed length."
unfoldable pub rows_full : (head params styles regions cues segments extras : ℕ) → Bool
rows_full h p s r c g e = leb 10 h && leb 256 p && leb 6912 s && leb 1024 r && leb 22528 c && leb 98304 g && leb 24576 e

unfoldable pub rest_full : (times sizes strings texts : ℕ) → Bool
rest_full t f z y = leb 4096 t && leb 256 f && leb 65536 z && leb 65536 y

unfoldable pub is_full : Tables → Bool
unfolding rows_full rest_full
is_full T =
    rows_full (length T.head) (length T.params) (length T.styles) (length T.regions) (length T.cues) (length T.segments)
    (length T.extras)
    && rest_full (length T.times) (length T.sizes) (length T.strings) (length T.texts)

-- 17 comes after 1
unfoldable pub check_of : Tables → Result ⊤ Refusal
unfolding is_full is_track
check_of T = cond (is_full T) (cond (is_track T) (Ok tt) (refused_as_of 17)) (refused_as_of 1)
