use Rattle.vcd_engine.proofs.Cited.{List, ℕ, subst, Takes, names_counted}
use Rattle.vcd_engine.proofs.Facts.{rows_are}
use Rattle.vcd_engine.proofs.task_state.edges.Edges.close.Goals as goal

pub returns-clause-takes : goal.returns-clause-takes
returns-clause-takes g c = λ h items views is.
    let names = names_counted c.args.self.now in
    subst (λ (l : List ℕ). Takes (g.W.Sink.device c.args.out.now) (g.W.Sink.device c.put_edges_lines.new.out) l c.put_edges_lines.result)
    (rows_are h names items) (c.put_edges_lines.ensures.takes h items names views is.marks_are is.tallied)
