-- What is read as a colour has channels below 256, and what is read as a size is one. Assumes nothing.
--     color-bytes     of `color_in`
--     size-read       of a decimal within the limits of sizes
use Rattle.std.specs.Prelude.{Option, Some, None, Result, Ok, Err}
use Prim.Native.Nat.{ℕ, ◌≤◌, ◌<◌, ◌-◌}
use mathlib.Core.Path.{◌≡◌, refl}
use mathlib.Core.Bool.{Bool, true, false, cond, ◌&&◌}
use mathlib.Core.List.{List, [], ◌∷◌}
use native.Mathlib.Omega.{arith}
use lib.ListN.{length}
use lib.Dec.{leb, leb→le, ltb, eqb}
use borrow.Author.Tests.{ltb-true}
use Rattle.scan.proofs.Every.{by-test}
use Rattle.utf8.specs.White.{trimmed}
use Rattle.utf8.specs.Utf8.{boundary}
use Rattle.scan.specs.Names.{same_folded}
use Rattle.scan.specs.Part.{part}
use Rattle.scan.specs.Split.{split_at}
use Rattle.numerals.specs.Numerals.{digits_only, value_from, unsigned_of, signed_by_of, numeral_of}
use Rattle.names.proofs.Entries.{both}
use Rattle.colors.specs.declared.read.Rgba.{Rgba}
use Rattle.colors.specs.Named.{NamedColor, ◌means◌, color_table, named_in}
use Rattle.colors.specs.Colors.{channel_of, hex_channel, ◌>>=◌, color_of, full, once, twice, hex_color, decimal_channel, rgb_parts, is_rgb, color, color_in}
use Rattle.colors.specs.Steps.{Small}
use Rattle.decimals.specs.declared.read.Digits.{Digits}
use Rattle.decimals.specs.Decimal.{decimal_of}
use Rattle.decimals.specs.Size.{size_of, is_size}
use Rattle.decimals.proofs.Reading.{decimal-limits}
use Rattle.decimals.proofs.Sizes.{size-made}
use Rattle.colors.specs.declared.read.ColorError.{ColorError}
use Rattle.numerals.specs.declared.Whole.{Whole}

-- ---- channels

abbrev UnsignedSmall : Option ℕ → Type 0
UnsignedSmall (Some m) = m ≤ 255
UnsignedSmall None = Unit {0}

unsigned_small : (s : List ℕ) (radix : ℕ) → UnsignedSmall (unsigned_of s radix 255)
unfolding unsigned_of
unsigned_small [] radix = tt
unsigned_small (b ∷ s) radix = by-test (digits_only radix (b ∷ s) && leb (value_from radix 0 (b ∷ s)) 255)
    (λ t. rw t (leb→le (value_from radix 0 (b ∷ s)) 255 (rw (both {a = digits_only radix (b ∷ s)} t).1 tt)))
    (λ t. rw t tt)

signed-small : (negative : Bool) (m : Option ℕ) → UnsignedSmall m → Small (signed_by_of negative m)
signed-small negative (Some m) h = h
signed-small negative None h = tt

numeral_small : (s : List ℕ) (radix : ℕ) → Small (numeral_of s radix 255 false)
unfolding numeral_of
numeral_small [] radix = tt
numeral_small (b ∷ s) radix = by-test (eqb b 43)
    (λ t. rw t (signed-small false (unsigned_of s radix 255) (unsigned_small s radix)))
    (λ t. rw t (signed-small false (unsigned_of (b ∷ s) radix 255) (unsigned_small (b ∷ s) radix)))

abbrev ChannelSmall : Result ℕ ColorError → Type 0
ChannelSmall (Ok n) = n < 256
ChannelSmall (Err ColorError.Invalid) = Unit {0}
ChannelSmall (Err ColorError.Cut) = Unit {0}

channel_small : (x : Option Whole) → Small x → ChannelSmall (channel_of x)
channel_small (Some w) h = omega (arith, h)
channel_small None h = tt

hex-small : (s : List ℕ) (a e : ℕ) (times : List ℕ → List ℕ) → ChannelSmall (hex_channel s a e times)
unfolding hex_channel
hex-small s a e times = by-test (boundary s a && boundary s e)
    (λ t. rw t (channel_small (numeral_of (times (part a e s)) 16 255 false) (numeral_small (times (part a e s)) 16)))
    (λ t. rw t tt)

decimal-small : (s : List ℕ) → ChannelSmall (decimal_channel s)
decimal-small s = channel_small (numeral_of (trimmed s) 10 255 false) (numeral_small (trimmed s) 10)

-- ---- colours

abbrev pub Channels : Rgba → Type 0
Channels c = (c.r < 256) × (c.g < 256) × (c.b < 256) × (c.a < 256)

abbrev ColorSmall : Result Rgba ColorError → Type 0
ColorSmall (Ok c) = Channels c
ColorSmall (Err ColorError.Invalid) = Unit {0}
ColorSmall (Err ColorError.Cut) = Unit {0}

then_small : (x : Result ℕ ColorError) (next : ℕ → Result Rgba ColorError) → ChannelSmall x → ((n : ℕ) → n < 256 → ColorSmall (next n)) → ColorSmall (x >>= next)
then_small (Ok n) next h k = k n h
then_small (Err ColorError.Invalid) next h k = tt
then_small (Err ColorError.Cut) next h k = tt

cond_small : (b : Bool) (x y : Result Rgba ColorError) → ColorSmall x → ColorSmall y → ColorSmall (cond b x y)
cond_small true x y h g = h
cond_small false x y h g = g

small_table : List NamedColor → Bool
small_table [] = true
small_table (n means c ∷ l) = ltb c.r 256 && (ltb c.g 256 && (ltb c.b 256 && (ltb c.a 256 && small_table l)))

named_small : (s : List ℕ) (l : List NamedColor) → small_table l ≡ true → ColorSmall (named_in s l)
unfolding named_in small_table
named_small s [] e = tt
named_small s (n means c ∷ l) e =
    let r = both {a = ltb c.r 256} e in
    let g = both {a = ltb c.g 256} r.1 in
    let b = both {a = ltb c.b 256} g.1 in
    let a = both {a = ltb c.a 256} b.1 in
    cond_small (same_folded s n) (Ok c) (named_in s l)
    (ltb-true c.r 256 r.0, ltb-true c.g 256 g.0, ltb-true c.b 256 b.0, ltb-true c.a 256 a.0)
    (named_small s l a.1)

name_small : (s : List ℕ) → ColorSmall (named_in s color_table)
unfolding small_table
name_small s = named_small s color_table refl

four-small : (x y z w : Result ℕ ColorError) → ChannelSmall x → ChannelSmall y → ChannelSmall z → ChannelSmall w → ColorSmall (color_of x y z w)
four-small x y z w h i j k =
    then_small x _ h λ r hr. then_small y _ i λ g hg. then_small z _ j λ b hb. then_small w _ k λ a ha. (hr, hg, hb, ha)

three_small : (x y z : Result ℕ ColorError) → ChannelSmall x → ChannelSmall y → ChannelSmall z → ColorSmall (color_of x y z full)
three_small x y z h i j = four-small x y z full h i j (omega arith)

hex-color : (s : List ℕ) → ColorSmall (hex_color s)
unfolding hex_color
hex-color s =
    cond_small (eqb (length s) 3) _ _
    (three_small (hex_channel s 0 1 twice) (hex_channel s 1 2 twice) (hex_channel s 2 3 twice)
    (hex-small s 0 1 twice) (hex-small s 1 2 twice) (hex-small s 2 3 twice))
    (cond_small (eqb (length s) 6) _ _
    (three_small (hex_channel s 0 2 once) (hex_channel s 2 4 once) (hex_channel s 4 6 once)
    (hex-small s 0 2 once) (hex-small s 2 4 once) (hex-small s 4 6 once))
    (cond_small (eqb (length s) 8) _ _
    (four-small (hex_channel s 0 2 once) (hex_channel s 2 4 once) (hex_channel s 4 6 once) (hex_channel s 6 8 once)
    (hex-small s 0 2 once) (hex-small s 2 4 once) (hex-small s 4 6 once) (hex-small s 6 8 once))
    tt))

parts_small : (s : List ℕ) (l : List (List ℕ)) → ColorSmall (rgb_parts s l)
parts_small s [] = name_small s
parts_small s (x ∷ []) = name_small s
parts_small s (x ∷ y ∷ []) = name_small s
parts_small s (x ∷ y ∷ z ∷ []) =
    three_small (decimal_channel x) (decimal_channel y) (decimal_channel z) (decimal-small x) (decimal-small y) (decimal-small z)
parts_small s (x ∷ y ∷ z ∷ w ∷ more) = name_small s

color-small : (s : List ℕ) → ColorSmall (color s)
unfolding color
color-small [] = name_small []
color-small (b ∷ s) =
    cond_small (eqb b 35) (hex_color s) _ (hex-color s)
    (cond_small (is_rgb (b ∷ s)) _ (named_in (b ∷ s) color_table)
    (parts_small (b ∷ s) (split_at 44 (part 4 (length (b ∷ s) - 1) (b ∷ s))))
    (name_small (b ∷ s)))

pub color-bytes : (s : List ℕ) {c : Rgba} → color_in s ≡ Ok c → Channels c
unfolding color_in
color-bytes s e = rw e at (color-small (trimmed s))

-- ---- sizes

pub size-read : (s : List ℕ) {d : Digits} → decimal_of s 6 10 ≡ Ok d → is_size (size_of d) ≡ true
size-read s {d} e = let w = decimal-limits 6 10 s e in size-made d w.small w.near
