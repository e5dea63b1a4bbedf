use Rattle.std.proofs.Common.{◌≡◌, refl, true}
use Rattle.vcd_model.specs.History.{final_value}
use Rattle.vcd_model.specs.Items.{open_section}
use Rattle.vcd_body.specs.Contents.{held_at, shown_as}
use Rattle.vcd_strobe.proofs.ItemSteps.{stands_changed, start_by}
use Rattle.vcd_strobe.proofs.LineSteps.{code_low}
use Rattle.vcd_strobe.specs.Lines.{place_of}
use Rattle.vcd_strobe.specs.Roles.{is_followed}
use Rattle.vcd_strobe.specs.Strobes.{is_start}
use Rattle.vcd_strobe.proofs.whole.Strobe.turn.Goals as goal

pub returns-clause-takes : goal.returns-clause-takes
returns-clause-takes c = λ h names es items a d has only event known value full.
    let s = c.args.self.now in
    let r = has.roles_are c.args.code a only.declared in
    let low = code_low s.places h.codes c.args.code a has.places only.declared in
    let e = c.change_role-self.ensures.enlists r.0 r.1 low r.2.within.now in
    let held = held_at s.table (place_of c.args.code r.0.now) in
    let start = λ (f : is_followed r.0.wanted ≡ true). start_by held a.size (final_value items a) (r.2.values event f).now_is c.args.regs.section (open_section items) known.section_is in
    stands_changed s h names es items has d c.args.code a only.declared only.gives only.others _ r.0 c.args.regs.time c.args.place
    (is_start (shown_as held)
    c.args.regs.section) known.time_is event c.requires value full start r.1 refl refl refl refl e.roles_are e.within e.long e.more e.same
