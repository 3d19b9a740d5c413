-- `own_values` meets its contract. Assumes nothing.
use Rattle.queries.proofs.Owning.{own-cut, own-cut_back, own-beyond, own-all}
use Rattle.queries.proofs.own.own_values.Goals as goal

pub returns-in_default : goal.returns-in_default
returns-in_default c =
    own-cut _ _ _ _ _ c.color_of.ensures c.in_default.is

pub returns-in_default-color_of : goal.returns-in_default-color_of
returns-in_default-color_of c =
    own-cut_back _ _ _ _ _ c.color_of.ensures _ c.in-Some.is _ c.color_of-2.ensures c.in_default-color_of.is

pub returns-in_default-size_of : goal.returns-in_default-size_of
returns-in_default-size_of c =
    own-beyond _ _ _ _ _ c.color_of.ensures _ c.in-Some.is _ c.color_of-2.ensures _ c.in-Some-color_of.is _
    c.size_of.ensures c.in_default-size_of.is

pub returns : goal.returns
returns c =
    own-all _ _ _ _ _ c.color_of.ensures _ c.in-Some.is _ c.color_of-2.ensures _ c.in-Some-color_of.is _
    c.size_of.ensures _ c.in-Some-size_of.is _ c.own_look.ensures
