-- `is_of` meets its contract: each arm answers for its class.
use Rattle.scan.specs.Bytes.{text_byte}
use Rattle.scan.proofs.bytes.is_of.Goals as goal

pub returns-in-Blank : goal.returns-in-Blank
returns-in-Blank c =
    rw c.in-Blank.is c.is_blank.ensures

pub returns-in-Text : goal.returns-in-Text
unfolding text_byte
returns-in-Text c =
    rw c.in-Text.is

pub returns-in-Name : goal.returns-in-Name
returns-in-Name c =
    rw c.in-Name.is c.is_name.ensures

pub returns-in-AttrName : goal.returns-in-AttrName
returns-in-AttrName c =
    rw c.in-AttrName.is c.is_attr_name.ensures

pub returns-in-Digit : goal.returns-in-Digit
returns-in-Digit c =
    rw c.in-Digit.is c.is_digit.ensures
