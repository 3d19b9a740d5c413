-- A text with its references read. Definitions alone.
use Rattle.std.specs.Prelude.{Option, Some, None, ℕ, zero, suc, ◌+◌, cond, List, [], ◌∷◌, ◌++◌, eqb}
use Rattle.utf8.specs.Utf8.{encode}
use Rattle.entities.specs.Reference.{name_length, reference}

-- What is written for an `&`, where n bytes that may stand in a name follow it and `later k` is what is written for all after k more
-- bytes: a reference's character, its name and its `;` being passed over; or the `&` itself.
abbrev pub refer : Option ℕ → ℕ → (ℕ → List ℕ) → List ℕ
refer (Some c) n later = encode c ++ later (n + 1)
refer None n later = 38 ∷ later 0

-- the text without its first k bytes, its references read from left to right
unfoldable pub decoded_from : ℕ → List ℕ → List ℕ
decoded_from k [] = []
decoded_from (suc k) (b ∷ s) = decoded_from k s
decoded_from zero (b ∷ s) =
    cond (eqb b 38) (refer (reference s) (name_length s) (λ k. decoded_from k s)) (b ∷ decoded_from zero s)

-- the text with its references read (the Rust's `decode_entities`)
unfoldable pub decoded : List ℕ → List ℕ
unfolding decoded_from
decoded s = decoded_from 0 s
