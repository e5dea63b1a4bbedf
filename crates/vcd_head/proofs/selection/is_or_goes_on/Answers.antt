use Rattle.vcd_head.proofs.Cited.{sym, ◌∙◌, strip_prefix_is, Decides-eqb}
use Rattle.vcd_head.proofs.Facts.{point_behind, rest_decides, other_front, stripped, not_stripped}
use Rattle.vcd_head.proofs.selection.is_or_goes_on.Goals as goal

pub returns-else-is_empty : goal.returns-else-is_empty
returns-else-is_empty c =
    let t = c.args.text.now in
    let n = c.args.name.now in
    let s = stripped t n c.strip_prefix.result c.in-Some.rest c.in-Some.is (strip_prefix_is Decides-eqb t n c.strip_prefix.result c.strip_prefix.ensures.cases) in
    c.starts_with.ensures.value ∙ point_behind c.in-Some.rest.now (sym c.is_empty.ensures ∙ c.if-is_empty.false) ∙ sym (rest_decides t n c.in-Some.rest.now s)

pub returns-in-None : goal.returns-in-None
returns-in-None c =
    let t = c.args.text.now in
    let n = c.args.name.now in
    let none = not_stripped t n c.strip_prefix.result (λ x e. let no = c.in-None.is in cc) (strip_prefix_is Decides-eqb t n c.strip_prefix.result c.strip_prefix.ensures.cases) in
    sym (other_front t n none)
