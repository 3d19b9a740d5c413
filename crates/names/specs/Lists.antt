-- The lists of attribute names, in the Rust's order. The order is that of TTML 2, 10.2 (its styling attributes, 10.2.2 to
-- 10.2.52), as the Rust cites it. Definitions alone.
use Rattle.std.specs.Prelude.{ℕ, List, [], ◌∷◌, get_or}
use Rattle.scan.specs.Text.{ascii}
use Rattle.names.specs.declared.tables.Listed.{Listed}
use Rattle.names.specs.declared.tables.Listed.TheVariants.{StyleExtra, InlineExtra, RegionAttr, InlineModelled, Imsc1Extension}

-- The Rust's `STYLE_EXTRA_ORDER`: TTML 2, 10.2, without the seven names that a style's fields carry, then IMSC's two.
abbrev pub style_extra : List (List ℕ)
style_extra =
    ascii "tts:backgroundClip"
    ∷ ascii "tts:backgroundExtent"
    ∷ ascii "tts:backgroundImage"
    ∷ ascii "tts:backgroundOrigin"
    ∷ ascii "tts:backgroundPosition"
    ∷ ascii "tts:backgroundRepeat"
    ∷ ascii "tts:border"
    ∷ ascii "tts:bpd"
    ∷ ascii "tts:direction"
    ∷ ascii "tts:disparity"
    ∷ ascii "tts:display"
    ∷ ascii "tts:displayAlign"
    ∷ ascii "tts:extent"
    ∷ ascii "tts:fontKerning"
    ∷ ascii "tts:fontSelectionStrategy"
    ∷ ascii "tts:fontShear"
    ∷ ascii "tts:fontVariant"
    ∷ ascii "tts:ipd"
    ∷ ascii "tts:letterSpacing"
    ∷ ascii "tts:lineHeight"
    ∷ ascii "tts:lineShear"
    ∷ ascii "tts:luminanceGain"
    ∷ ascii "tts:opacity"
    ∷ ascii "tts:origin"
    ∷ ascii "tts:overflow"
    ∷ ascii "tts:padding"
    ∷ ascii "tts:position"
    ∷ ascii "tts:ruby"
    ∷ ascii "tts:rubyAlign"
    ∷ ascii "tts:rubyPosition"
    ∷ ascii "tts:rubyReserve"
    ∷ ascii "tts:shear"
    ∷ ascii "tts:showBackground"
    ∷ ascii "tts:textAlign"
    ∷ ascii "tts:textCombine"
    ∷ ascii "tts:textEmphasis"
    ∷ ascii "tts:textOrientation"
    ∷ ascii "tts:textOutline"
    ∷ ascii "tts:textShadow"
    ∷ ascii "tts:unicodeBidi"
    ∷ ascii "tts:visibility"
    ∷ ascii "tts:wrapOption"
    ∷ ascii "tts:writingMode"
    ∷ ascii "tts:zIndex"
    ∷ ascii "itts:forcedDisplay"
    ∷ ascii "itts:fillLineGap"
    ∷ []

-- The Rust's `P_INLINE_EXTRA_ORDER`: TTML 2, 10.2, without the names of `inline_modelled`, then IMSC's two.
abbrev pub inline_extra : List (List ℕ)
inline_extra =
    ascii "tts:backgroundClip"
    ∷ ascii "tts:backgroundColor"
    ∷ ascii "tts:backgroundExtent"
    ∷ ascii "tts:backgroundImage"
    ∷ ascii "tts:backgroundOrigin"
    ∷ ascii "tts:backgroundPosition"
    ∷ ascii "tts:backgroundRepeat"
    ∷ ascii "tts:border"
    ∷ ascii "tts:bpd"
    ∷ ascii "tts:direction"
    ∷ ascii "tts:disparity"
    ∷ ascii "tts:display"
    ∷ ascii "tts:displayAlign"
    ∷ ascii "tts:extent"
    ∷ ascii "tts:fontKerning"
    ∷ ascii "tts:fontSelectionStrategy"
    ∷ ascii "tts:fontShear"
    ∷ ascii "tts:fontVariant"
    ∷ ascii "tts:ipd"
    ∷ ascii "tts:letterSpacing"
    ∷ ascii "tts:lineHeight"
    ∷ ascii "tts:lineShear"
    ∷ ascii "tts:luminanceGain"
    ∷ ascii "tts:opacity"
    ∷ ascii "tts:origin"
    ∷ ascii "tts:overflow"
    ∷ ascii "tts:padding"
    ∷ ascii "tts:position"
    ∷ ascii "tts:ruby"
    ∷ ascii "tts:rubyAlign"
    ∷ ascii "tts:rubyPosition"
    ∷ ascii "tts:rubyReserve"
    ∷ ascii "tts:shear"
    ∷ ascii "tts:showBackground"
    ∷ ascii "tts:textAlign"
    ∷ ascii "tts:textCombine"
    ∷ ascii "tts:textEmphasis"
    ∷ ascii "tts:textOrientation"
    ∷ ascii "tts:textOutline"
    ∷ ascii "tts:textShadow"
    ∷ ascii "tts:unicodeBidi"
    ∷ ascii "tts:visibility"
    ∷ ascii "tts:wrapOption"
    ∷ ascii "tts:writingMode"
    ∷ ascii "tts:zIndex"
    ∷ ascii "itts:forcedDisplay"
    ∷ ascii "itts:fillLineGap"
    ∷ []

-- The Rust's `REGION_ATTR_ORDER`: TTML 2, 10.2, whole, then `style` and IMSC's two.
abbrev pub region_attr : List (List ℕ)
region_attr =
    ascii "tts:backgroundClip"
    ∷ ascii "tts:backgroundColor"
    ∷ ascii "tts:backgroundExtent"
    ∷ ascii "tts:backgroundImage"
    ∷ ascii "tts:backgroundOrigin"
    ∷ ascii "tts:backgroundPosition"
    ∷ ascii "tts:backgroundRepeat"
    ∷ ascii "tts:border"
    ∷ ascii "tts:bpd"
    ∷ ascii "tts:color"
    ∷ ascii "tts:direction"
    ∷ ascii "tts:disparity"
    ∷ ascii "tts:display"
    ∷ ascii "tts:displayAlign"
    ∷ ascii "tts:extent"
    ∷ ascii "tts:fontFamily"
    ∷ ascii "tts:fontKerning"
    ∷ ascii "tts:fontSelectionStrategy"
    ∷ ascii "tts:fontShear"
    ∷ ascii "tts:fontSize"
    ∷ ascii "tts:fontStyle"
    ∷ ascii "tts:fontVariant"
    ∷ ascii "tts:fontWeight"
    ∷ ascii "tts:ipd"
    ∷ ascii "tts:letterSpacing"
    ∷ ascii "tts:lineHeight"
    ∷ ascii "tts:lineShear"
    ∷ ascii "tts:luminanceGain"
    ∷ ascii "tts:opacity"
    ∷ ascii "tts:origin"
    ∷ ascii "tts:overflow"
    ∷ ascii "tts:padding"
    ∷ ascii "tts:position"
    ∷ ascii "tts:ruby"
    ∷ ascii "tts:rubyAlign"
    ∷ ascii "tts:rubyPosition"
    ∷ ascii "tts:rubyReserve"
    ∷ ascii "tts:shear"
    ∷ ascii "tts:showBackground"
    ∷ ascii "tts:textAlign"
    ∷ ascii "tts:textCombine"
    ∷ ascii "tts:textEmphasis"
    ∷ ascii "tts:textOrientation"
    ∷ ascii "tts:textOutline"
    ∷ ascii "tts:textShadow"
    ∷ ascii "tts:unicodeBidi"
    ∷ ascii "tts:visibility"
    ∷ ascii "tts:wrapOption"
    ∷ ascii "tts:writingMode"
    ∷ ascii "tts:zIndex"
    ∷ ascii "style"
    ∷ ascii "itts:forcedDisplay"
    ∷ ascii "itts:fillLineGap"
    ∷ []

-- The Rust's `P_INLINE_MODELLED_ATTRS`: what a `<p>` says of its segments (the Rust cites TTML 2, 8.1.5).
abbrev pub inline_modelled : List (List ℕ)
inline_modelled =
    ascii "tts:color"
    ∷ ascii "tts:fontFamily"
    ∷ ascii "tts:fontSize"
    ∷ ascii "tts:fontWeight"
    ∷ ascii "tts:fontStyle"
    ∷ ascii "tts:textDecoration"
    ∷ []

-- The Rust's `IMSC1_EXTENSION_PARAMS`: the parameters of the namespace `ittp:` (the Rust cites IMSC 1, 6.1).
abbrev pub imsc1_extension : List (List ℕ)
imsc1_extension =
    ascii "activeArea"
    ∷ ascii "aspectRatio"
    ∷ ascii "progressivelyDecodable"
    ∷ []

-- the names of a list
abbrev pub names : Listed → List (List ℕ)
names StyleExtra = style_extra
names InlineExtra = inline_extra
names RegionAttr = region_attr
names InlineModelled = inline_modelled
names Imsc1Extension = imsc1_extension

-- its i-th name, from 0 on
abbrev pub name_of : Listed → ℕ → List ℕ
name_of list i = get_or (names list) i []
