-- What is answered says its number and its values, and nothing else does. Assumes nothing.
use Rattle.std.specs.Prelude.{Result, Ok, Err}
use Prim.Native.Nat.{ℕ}
use mathlib.Core.Path.{◌≡◌, refl, sym, ap, ◌∙◌}
use mathlib.Core.List.{List, [], ◌∷◌}
use native.Mathlib.Omega.{arith}
use Rattle.colors.specs.declared.read.Rgba.{Rgba}
use Rattle.colors.specs.Colors.{number_of, values_of, Says, ReadsColor}
use Rattle.colors.specs.declared.read.ColorError.{ColorError}

one_value : {c d : Rgba} → (c ∷ []) ≡ (d ∷ []) → c ≡ d
one_value e = cc

no_value : {A : Type 0} {c : Rgba} → ◌≡◌ {A = List Rgba} [] (c ∷ []) → A
no_value e = absurd (let z : ◌≡◌ {A = ℕ} 0 1 = cc in omega arith)

said : {t u : Result Rgba ColorError} {n : ℕ} {v : List Rgba} → Says u n v → t ≡ u → Says t n v
said (a, b) e = (ap number_of e ∙ a, ap values_of e ∙ b)

says-color : (t : Result Rgba ColorError) (v : Rgba) → Says t 0 (v ∷ []) → t ≡ Ok v
says-color (Ok c) v s = ap Ok (one_value s.1)
says-color (Err ColorError.Invalid) v s = no_value s.1
says-color (Err ColorError.Cut) v s = no_value s.1

says_none : (t : Result Rgba ColorError) → Says t 0 [] → t ≡ Err ColorError.Invalid
says_none (Ok c) s = no_value (sym s.1)
says_none (Err ColorError.Invalid) s = refl
says_none (Err ColorError.Cut) s = absurd (omega (arith, s.0))

says-cut : (t : Result Rgba ColorError) → Says t 15 [] → t ≡ Err ColorError.Cut
says-cut (Ok c) s = no_value (sym s.1)
says-cut (Err ColorError.Invalid) s = absurd (omega (arith, s.0))
says-cut (Err ColorError.Cut) s = refl

pub reads_color : {t r : Result Rgba ColorError} → r ≡ t → ReadsColor t r
reads_color {t} {r} e =
    record {
      is = e;
      color-is = λ v. ((λ s. sym e ∙ says-color r v s), λ f. said (refl, refl) (e ∙ f));
      none = ((λ s. sym e ∙ says_none r s), λ f. said (refl, refl) (e ∙ f));
      cut_inside = ((λ s. sym e ∙ says-cut r s), λ f. said (refl, refl) (e ∙ f));
    }
