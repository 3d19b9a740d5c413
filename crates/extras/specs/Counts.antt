-- How many attributes stand in the first element of a name: there are never more extras. This file need not be believed.
use Rattle.std.specs.Prelude.{ℕ, ◌+◌, cond, List, length}
use Rattle.scan.specs.Part.{string_at}
use Rattle.tree.specs.Trees.{Forest, nil, text, section, elem, attrs_of}
use Rattle.xml.specs.Find.{named}

-- its own and those of all that stands in it; none where there is no such element
unfoldable pub attrs_named : (z name : List ℕ) → Forest → ℕ
attrs_named z name nil = 0
attrs_named z name (text p n f) = attrs_named z name f
attrs_named z name (section p n f) = attrs_named z name f
attrs_named z name (elem p n l c f) =
    cond (named name (string_at z (p + 1) n)) (length l + length (attrs_of c)) (attrs_named z name f)
