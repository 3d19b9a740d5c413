-- Classes of bytes and runs of them. Definitions alone.
use Rattle.std.specs.Prelude.{ℕ, suc, ◌+◌, Bool, cond, not, ◌&&◌, ◌||◌, List, [], ◌∷◌, drop, eqb, leb}
use Rattle.scan.specs.declared.bytes.Class.{Class}
use Rattle.scan.specs.declared.bytes.Class.TheVariants.{Blank, Text, Name, AttrName, Digit}

-- space, tab, LF, CR (document 01, "Blanks are space, tab, LF, CR")
unfoldable pub blank : ℕ → Bool
blank a = eqb a 32 || eqb a 9 || eqb a 10 || eqb a 13

-- any byte but `<` (document 01, "Grammar": a text is a run without `<`)
unfoldable pub text_byte : ℕ → Bool
text_byte a = not (eqb a 60)

-- any byte but a blank, `>` and `/` ("Grammar": a tag name, and a value without quote marks)
unfoldable pub name_byte : ℕ → Bool
unfolding blank
name_byte a = not (blank a || eqb a 62 || eqb a 47)

-- any of those but `=` ("Grammar": an attribute name is one without `=` too)
unfoldable pub attr_name_byte : ℕ → Bool
unfolding blank
attr_name_byte a = not (blank a || eqb a 62 || eqb a 47 || eqb a 61)

-- an ASCII digit
unfoldable pub digit_byte : ℕ → Bool
digit_byte a = leb 48 a && leb a 57

-- the bytes of a class
abbrev pub member : Class → ℕ → Bool
member Blank a = blank a
member Text a = text_byte a
member Name a = name_byte a
member AttrName a = attr_name_byte a
member Digit a = digit_byte a

-- any byte but b
abbrev pub other : ℕ → ℕ → Bool
other b a = not (eqb a b)

-- how many bytes that pass the test the text begins with
unfoldable pub run_length_of : (ℕ → Bool) → List ℕ → ℕ
run_length_of t [] = 0
run_length_of t (b ∷ s) = cond (t b) (suc (run_length_of t s)) 0

-- where a run of such bytes ends: the first place from p on whose byte fails the test, or the text's length
unfoldable pub run_end_of : (ℕ → Bool) → List ℕ → ℕ → ℕ
unfolding run_length_of
run_end_of t s p = p + run_length_of t (drop p s)
