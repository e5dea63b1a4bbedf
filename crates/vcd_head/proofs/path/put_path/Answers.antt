use Rattle.vcd_head.proofs.Cited.{◌≡◌, List, ℕ, Err, take, subst, rules, slice_get_within, name_of, Takes, appends-first, takes-twice}
use Rattle.vcd_head.proofs.Facts.{path_is}
use Rattle.vcd_head.proofs.path.put_path.Goals as goal

pub returns-in_err-put_scopes-clause-takes : goal.returns-in_err-put_scopes-clause-takes
returns-in_err-put_scopes-clause-takes g c = λ h d v is.
    let e : c.from_residual.result ≡ Err c.in_err-put_scopes.field-0.0 = search rules in
    rw (e, path_is (take c.args.row h.declarations) d) (appends-first _ _ _ (name_of d) (c.in_err-put_scopes.ensures.0 h v (slice_get_within h.declarations c.args.row d is)))

pub returns-clause-takes : goal.returns-clause-takes
returns-clause-takes g c = λ h d v is.
    let name = subst (λ (l : List ℕ). Takes (g.W.Sink.device c.put_scopes.new.w) (g.W.Sink.device c.put.new.w) l c.put.result) (c.name_of.ensures h d v is) c.put.ensures.0 in
    rw (path_is (take c.args.row h.declarations) d) (takes-twice _ _ _ _ (name_of d) c.put.result (c.in_ok-put_scopes.ensures.0 h v (slice_get_within h.declarations c.args.row d is)) name)
