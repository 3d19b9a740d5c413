-- Laws of colours as they are written: pieces one after the other, and how long they are. Assumes nothing.
use Prim.Native.Nat.{ℕ, ◌+◌, ◌<◌}
use mathlib.Core.Path.{◌≡◌, refl}
use mathlib.Core.List.{List, [], ◌∷◌}
use native.Mathlib.Omega.{arith}
use lib.ListN.{length, set}
use Rattle.scan.specs.Posts.{Appended}
use Rattle.scan.proofs.Stores.{appended_on}
use Rattle.numerals.specs.Written.{padded}
use Rattle.numerals.proofs.Writing.{padded-length}
use Rattle.colors.specs.declared.read.Rgba.{Rgba}
use Rattle.colors.specs.Written.{hex, rgb_text, rgba_text}

pub rgb_length : (c : Rgba) → length (rgb_text c) ≡ 7
unfolding rgb_text padded
rgb_length c = refl

pub rgba-length : (c : Rgba) → length (rgba_text c) ≡ 9
unfolding rgba_text padded
rgba-length c = refl

pub hex-length : (n : ℕ) → length (hex n) ≡ 2
hex-length n = padded-length 16 2 n

pub rgb_put : (c : Rgba) {t t₁ t₂ t₃ : List ℕ} {at g b e : ℕ} → at < length t → Appended (hex c.r) (at + 1) (set t at 35) t₁ g
    → Appended (hex c.g) g t₁ t₂ b → Appended (hex c.b) b t₂ t₃ e → Appended (rgb_text c) at t t₃ e
unfolding rgb_text
rgb_put c {t = t} {at = at} h x y z = appended_on (appended_on (appended_on mark x) y) z
  where
    mark : Appended (35 ∷ []) at t (set t at 35) (at + 1)
    mark = record { next = refl; within = omega arith; laid = refl }

pub rgba-put : (c : Rgba) {t t₁ t₂ : List ℕ} {at n e : ℕ} → Appended (rgb_text c) at t t₁ n → Appended (hex c.a) n t₁ t₂ e
    → Appended (rgba_text c) at t t₂ e
unfolding rgba_text
rgba-put c x y = appended_on x y
