use Rattle.std.proofs.Common.{◌∙◌, ℕ, List, ap, ap₂, arith, subst, sym}
use Rattle.std.proofs.lemmas.Option.{slice_get_within}
use Rattle.vcd_text.proofs.Writes.{appends-none}
use Rattle.vcd_text.specs.Device.{Appends, Takes}
use Rattle.vcd_strobe.proofs.LineSteps.{no_role, there_below}
use Rattle.vcd_strobe.specs.Lines.{line_with}
use Rattle.vcd_strobe.proofs.edge_lines.put_listed.Goals as goal

pub returns-in_default-clause-takes : goal.returns-in_default-clause-takes
returns-in_default-clause-takes g c = λ codes places roles laid.
    let none = ap (line_with c.args.table.now c.args.time c.args.code _) (sym c.in_default.ensures) ∙ no_role c.args.table.now c.args.time c.args.code _ in
    subst (λ (l : List ℕ). Appends (g.W.Sink.device c.args.out.now).held (g.W.Sink.device c.args.out.now).held l) (sym none) (appends-none (g.W.Sink.device c.args.out.now).held)

pub returns-clause-takes : goal.returns-clause-takes
returns-clause-takes g c = λ codes places roles laid.
    let low = slice_get_within c.args.roles.now c.args.code c.in-Some.role (sym c.in-Some.ensures) in
    let many = roles.many in
    let k = there_below codes c.args.code (omega (arith, low, many)) in
    let text = ap₂ (line_with c.args.table.now c.args.time c.args.code) k.1 (sym c.in-Some.ensures) in
    subst (λ (l : List ℕ). Takes (g.W.Sink.device c.args.out.now) (g.W.Sink.device c.put_line.new.out) l c.put_line.result) (sym text)
    (c.put_line.ensures.takes codes k.0 places k.1 (roles.within c.args.code c.in-Some.role (sym c.in-Some.ensures)) laid)
