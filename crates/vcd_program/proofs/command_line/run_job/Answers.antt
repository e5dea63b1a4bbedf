use Rattle.vcd_program.proofs.Cited.{◌≡◌, ◌∙◌, rules, length, map, ap, sym, subst, refl, inl, string_bytes, AreWithin, unopened_outcome, Tells, called, text_of, Opens, opens-many}
use Rattle.vcd_program.proofs.Facts.{memory-fails, memory-stopped, names-many, no-memory, ran, shown_once, stopped}
use Rattle.vcd_host.specs.declared.opened.OpenStop.TheVariants as stop
use Rattle.vcd_program.proofs.command_line.run_job.Goals as goal

pub returns-in_default-clause-runs : goal.returns-in_default-clause-runs
returns-in_default-clause-runs g c =
    no-memory g.P.Program g.H.Host.opens g.H.Input.Source.rest g.H.Input.Source.failures g.H.Input.Source.last_failed c.args.matches.now c.args.host.now
    (g.W.Sink.device c.args.out.now) (g.E.Sink.device c.args.err.now) (g.E.Sink.device c.use_fault.new.err) c.use_fault.result _
    (inl (c.args.job, c.requires.job))
    (memory-fails g.P.Program.name g.P.Program.refusal (g.W.Sink.device _) (g.E.Sink.device _)
    (g.E.Sink.device _) _ c.use_fault.ensures.memory c.use_fault.ensures.line.line c.use_fault.ensures.line.status)

pub run_within-requires-clause-asked : goal.run_within-requires-clause-asked
run_within-requires-clause-asked g c =
    let named : map text_of c.as_slice.result.now ≡ g.P.Program.inputs c.args.matches.now = ap (map text_of) c.as_slice.ensures.value ∙ c.in-Ok.ensures in
    (c.args.matches.now, c.requires.job, ap (map string_bytes) c.as_slice-in-Ok-open_inputs.ensures.value ∙ c.in-Ok-open_inputs.ensures.names ∙ ap (map called) named)

pub run_within-requires-clause-names : goal.run_within-requires-clause-names
run_within-requires-clause-names g c =
    let many = opens-many g.H.Host.opens c.args.host.now (map text_of c.as_slice.result.now) c.in-Ok-open_inputs.inputs.readers.items c.open_inputs.new.host c.in-Ok-open_inputs.ensures.opened in
    ap length c.as_slice-in-Ok-open_inputs.ensures.value ∙ names-many string_bytes c.in-Ok-open_inputs.inputs.names.items
    (map text_of c.as_slice.result.now) c.in-Ok-open_inputs.ensures.names ∙ sym many ∙ ap length (sym c.as_mut_slice.ensures.value)

pub run_within-requires-clause-within : goal.run_within-requires-clause-within
run_within-requires-clause-within g c = subst (λ readers. AreWithin g.H.Input.Source.rest c.max_bytes_of_all-longest.result readers)
    (c.deref.ensures.value ∙ sym c.as_mut_slice.ensures.value) c.max_bytes_of_all-longest.ensures

pub returns-in-Ok-open_inputs-clause-runs : goal.returns-in-Ok-open_inputs-clause-runs
returns-in-Ok-open_inputs-clause-runs g c =
    let named : map text_of c.as_slice.result.now ≡ g.P.Program.inputs c.args.matches.now = ap (map text_of) c.as_slice.ensures.value ∙ c.in-Ok.ensures in
    let opened = subst (λ names. Opens g.H.Host.opens c.args.host.now names c.in-Ok-open_inputs.inputs.readers.items c.open_inputs.new.host) named c.in-Ok-open_inputs.ensures.opened in
    let opened_now = subst (λ readers. Opens g.H.Host.opens c.args.host.now (g.P.Program.inputs c.args.matches.now) readers c.open_inputs.new.host) (sym c.as_mut_slice.ensures.value) opened in
    ran g.P.Program g.H.Host.opens g.H.Input.Source.rest g.H.Input.Source.failures g.H.Input.Source.last_failed c.args.matches.now c.args.host.now c.open_inputs.new.host
    (g.W.Sink.device c.args.out.now) (g.W.Sink.device c.run_within.new.out) (g.E.Sink.device c.args.err.now)
    (g.E.Sink.device c.run_within.new.err) c.run_within.result _
    c.args.job c.requires.job (map string_bytes c.as_slice-in-Ok-open_inputs.result.now) c.as_mut_slice.result.now c.run_within.new.readers
    (ap (map string_bytes) c.as_slice-in-Ok-open_inputs.ensures.value ∙ c.in-Ok-open_inputs.ensures.names
    ∙ ap (map called) named) opened_now c.run_within.ensures.ends c.run_within.ensures.leaves c.run_within.ensures.passed_on

pub returns-in-Err-Unopened-clause-runs : goal.returns-in-Err-Unopened-clause-runs
returns-in-Err-Unopened-clause-runs g c =
    let named : map text_of c.as_slice.result.now ≡ g.P.Program.inputs c.args.matches.now = ap (map text_of) c.as_slice.ensures.value ∙ c.in-Ok.ensures in
    let is : c.in-Err-Unopened.field-0 ≡ stop.Unopened c.in-Err-Unopened.name = search rules in
    let ours = subst (λ program. Tells program (g.E.Sink.device c.args.err.now) (g.E.Sink.device c.open_fault.new.err)
    (unopened_outcome c.called.result.now).message) c.name.ensures c.open_fault.ensures.line in
    let line = subst (λ name. Tells g.P.Program.name (g.E.Sink.device c.args.err.now) (g.E.Sink.device c.open_fault.new.err) (unopened_outcome name).message) c.called.ensures ours in
    let shown = rw c.in-Err-Unopened.name-is at line in
    stopped g.P.Program g.H.Host.opens g.H.Input.Source.rest g.H.Input.Source.failures g.H.Input.Source.last_failed c.args.matches.now c.args.host.now c.open_inputs.new.host
    (g.W.Sink.device c.args.out.now) (g.W.Sink.device c.args.out.now) (g.E.Sink.device c.args.err.now)
    (g.E.Sink.device c.open_fault.new.err) c.open_fault.result _
    c.args.job c.requires.job (map text_of c.as_slice.result.now) c.in-Err-Unopened.field-0 c.in-Err-Unopened.name named is c.in-Err-Unopened.ensures.stop refl shown c.open_fault.ensures.status

pub returns-clause-runs : goal.returns-clause-runs
returns-clause-runs g c =
    let named : map text_of c.as_slice.result.now ≡ g.P.Program.inputs c.args.matches.now = ap (map text_of) c.as_slice.ensures.value ∙ c.in-Ok.ensures in
    let is : c.in-Err-OutOfMemory.field-0 ≡ stop.OutOfMemory = search rules in
    memory-stopped g.P.Program g.H.Host.opens g.H.Input.Source.rest g.H.Input.Source.failures g.H.Input.Source.last_failed c.args.matches.now c.args.host.now c.open_inputs.new.host
    (g.W.Sink.device c.args.out.now) (g.W.Sink.device c.args.out.now) (g.E.Sink.device c.args.err.now)
    (g.E.Sink.device c.use_fault-in-Err-OutOfMemory.new.err) c.use_fault-in-Err-OutOfMemory.result _ c.args.job c.requires.job
    (map text_of c.as_slice.result.now) c.in-Err-OutOfMemory.field-0 named is c.in-Err-OutOfMemory.ensures.stop
    (memory-fails g.P.Program.name g.P.Program.refusal (g.W.Sink.device _) (g.E.Sink.device _)
    (g.E.Sink.device _) _ c.use_fault-in-Err-OutOfMemory.ensures.memory c.use_fault-in-Err-OutOfMemory.ensures.line.line c.use_fault-in-Err-OutOfMemory.ensures.line.status)

pub returns-in_default-clause-failures : goal.returns-in_default-clause-failures
returns-in_default-clause-failures g c = shown_once (g.E.Sink.device c.args.err.now) (g.E.Sink.device c.use_fault.new.err) _ c.use_fault.ensures.line.line

pub returns-in-Err-Unopened-clause-failures : goal.returns-in-Err-Unopened-clause-failures
returns-in-Err-Unopened-clause-failures g c = shown_once (g.E.Sink.device c.args.err.now) (g.E.Sink.device c.open_fault.new.err) _ c.open_fault.ensures.line

pub returns-clause-failures : goal.returns-clause-failures
returns-clause-failures g c = shown_once (g.E.Sink.device c.args.err.now) (g.E.Sink.device c.use_fault-in-Err-OutOfMemory.new.err) _ c.use_fault-in-Err-OutOfMemory.ensures.line.line
