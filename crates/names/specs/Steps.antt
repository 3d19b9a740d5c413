-- What contracts of inner functions cite. Nothing here need be believed: no public call names it.
use Rattle.std.specs.Prelude.{ℕ, ◌+◌, ◌-◌, ◌*◌, ◌%◌, Bool, cond, ◌||◌, List, length, get_or, eqb, ltb}
use Rattle.scan.specs.Text.{ascii}
use Rattle.names.specs.declared.tables.Listed.{Listed}
use Rattle.names.specs.declared.tables.Listed.TheVariants.{StyleExtra, InlineExtra, RegionAttr, InlineModelled, Imsc1Extension}

-- a name's slot, by its length, its fifth byte and its fourth from the end; the case of letters does not count
unfoldable pub slot_of : List ℕ → ℕ
slot_of s = cond (ltb (length s) 5) 0 ((length s + 50 * (get_or s 4 0 % 32) + 14 * (get_or s (length s - 4) 0 % 32)) % 129)

-- the letters that listed names begin with, whatever their case: t, i, s, a, p
unfoldable pub is_initial : ℕ → Bool
is_initial x = eqb x 20 || eqb x 9 || eqb x 19 || eqb x 1 || eqb x 16

unfoldable pub can_begin : List ℕ → Bool
unfolding is_initial
can_begin s = is_initial (get_or s 0 0 % 32)

-- the entry that can stand in each slot, counted from `#` on, or a blank
abbrev pub slots : Listed → List ℕ
slots StyleExtra =
    ascii "         G E $5' C  D H /L   9 #   @  2B   %   4-?    3  M  =J        8 ;     , 7 A * (N 1   < 6P       ) +     :    &   K O0I.F>"
slots InlineExtra =
    ascii "         H F %6( D  E I 0M   : #   A  3C   &   5.@    4  N  >K        9$<     - 8 B + )O 2   = 7Q       * ,     ;    '   L P1J/G?"
slots RegionAttr =
    ascii "         M K %;( I UJ N 1R   ? #   F  5H   &   :/E   98  S  CP6       >$A    7. = G + )T 4   B <W       * -  2 ,@    '   Q V3O0LD"
slots InlineModelled =
    ascii "        (                                            &        %              '                               $ #                 "
slots Imsc1Extension =
    ascii "                                 %            $                                             #                                    "
