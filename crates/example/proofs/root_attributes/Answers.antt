-- `root_attributes` meets its promise: each way through it is a law of `Counting`.
use Rattle.xml.proofs.Given.{given-siblings}
use Rattle.example.proofs.Counting.{on_refusal, on_nothing, on_row, row-there}
use Rattle.example.proofs.root_attributes.Goals as goal

pub returns-in_default : goal.returns-in_default
returns-in_default c =
    on_refusal c.parse_xml.ensures c.in_default.is

pub find_element-requires : goal.find_element-requires
find_element-requires c =
    given-siblings c.parse_xml.ensures c.in-Ok.is

pub element_at-requires : goal.element_at-requires
element_at-requires c =
    row-there c.parse_xml.ensures c.in-Ok.is c.find_element.ensures c.in-Some.is

pub returns-in-Some : goal.returns-in-Some
returns-in-Some c =
    on_row c.parse_xml.ensures c.in-Ok.is c.find_element.ensures c.in-Some.is c.element_at.ensures

pub returns-in-None : goal.returns-in-None
returns-in-None c =
    on_nothing c.parse_xml.ensures c.in-Ok.is c.find_element.ensures c.in-None.is
