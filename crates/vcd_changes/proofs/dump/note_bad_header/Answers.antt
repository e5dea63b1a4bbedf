use Rattle.vcd_changes.proofs.Cited.{◌≡◌, true, arith, inl, inr, refl, rules, OutOfMemory}
use Rattle.vcd_changes.proofs.Facts.{not_both}
use Rattle.vcd_head.specs.Fault.{fault_number}
use Rattle.vcd_changes.proofs.dump.note_bad_header.Goals as goal

pub returns-then-eq-clause-refused : goal.returns-then-eq-clause-refused
returns-then-eq-clause-refused c = let is : c.args.fault ≡ OutOfMemory = search rules in (refl, inl (is, refl))

pub returns-clause-refused : goal.returns-clause-refused
returns-clause-refused c =
    let number : c.from-reading.result ≡ fault_number c.args.fault = omega arith in
    (refl, inr (λ is. let same : c.eq.result ≡ true = search rules in not_both c.eq.result same c.if-eq.false, refl, number, refl))
