use Rattle.vcd_program.proofs.Cited.{map, refl, string_bytes}
use Rattle.vcd_program.proofs.Facts.{left-in-outputs}
use Rattle.vcd_program.proofs.memory.run_into_lent.Goals as goal

pub returns-clause-out_loan : goal.returns-clause-out_loan
returns-clause-out_loan g c =
    (left-in-outputs g.P.Program (map string_bytes c.args.words.now)
    c.args.memory.now.files.now c.args.memory.now.input.now c.args.memory.now c.run_program.new.host c.run_program.result c.args.out.now c.run_program.new.out c.args.err.now c.run_program.new.err
    refl refl c.requires.memory c.requires.out c.requires.err c.run_program.ensures.runs).0

pub returns-clause-err_loan : goal.returns-clause-err_loan
returns-clause-err_loan g c =
    (left-in-outputs g.P.Program (map string_bytes c.args.words.now)
    c.args.memory.now.files.now c.args.memory.now.input.now c.args.memory.now c.run_program.new.host c.run_program.result c.args.out.now c.run_program.new.out c.args.err.now c.run_program.new.err
    refl refl c.requires.memory c.requires.out c.requires.err c.run_program.ensures.runs).1

pub returns-clause-left : goal.returns-clause-left
returns-clause-left g c =
    (left-in-outputs g.P.Program (map string_bytes c.args.words.now)
    c.args.memory.now.files.now c.args.memory.now.input.now c.args.memory.now c.run_program.new.host c.run_program.result c.args.out.now c.run_program.new.out c.args.err.now c.run_program.new.err
    refl refl c.requires.memory c.requires.out c.requires.err c.run_program.ensures.runs).2
