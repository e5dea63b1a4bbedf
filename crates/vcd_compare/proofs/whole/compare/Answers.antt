use Rattle.vcd_compare.proofs.Cited.{◌≡◌, ℕ, List, false, [], Err, inl, refl, sym, ap, subst, rules, take, Device, WritesSome, Writes, Header, Names, ends_run, within_head, within_open, Write, HasHandled, RunStands, Run, model_asked, plan_within}
use Rattle.vcd_compare.proofs.Facts.{begins_none, not_ended, open_first}
use Rattle.vcd_compare.specs.declared.asked.Asked.{Asked}
use Rattle.vcd_model.specs.Compare.{Asked as ModelAsked}
use Rattle.vcd_text.specs.ReadAhead.ReadsAsNeeded.{Nothing}
use Rattle.vcd_compare.proofs.whole.compare.Goals as goal

pub returns-in_err-put_header_lines-clause-gives : goal.returns-in_err-put_header_lines-clause-gives
returns-in_err-put_header_lines-clause-gives g c = λ h exceptions ns i front views pairs given.
    let e : c.from_residual.result ≡ Err Write = search rules in
    let q = model_asked c.args.asked exceptions in
    let out : Device = (g.W.Sink.device c.args.out.now) in
    let new : Device = (g.W.Sink.device c.put_header_lines.new.out) in
    let puts = c.in_err-put_header_lines.ensures in
    let some : WritesSome out new (within_open q h ns []) = subst (WritesSome out new) (sym (open_first q h ns)) (puts.0 h q ns views pairs, puts.1) in
    rw e (inl ([], begins_none h i front c.args.feed.now given, some))

pub returns-in_err-put_header_lines-clause-needed : goal.returns-in_err-put_header_lines-clause-needed
returns-in_err-put_header_lines-clause-needed g c = λ h exceptions ns i front views pairs given.
    let e : c.from_residual.result ≡ Err Write = search rules in
    let some = c.in_err-put_header_lines.ensures.0 h (model_asked c.args.asked exceptions) ns views pairs in
    rw e (record { is_left = inl (refl, refl); read = Nothing refl; keeps_up = (take some.0 (within_head (model_asked c.args.asked exceptions) h ns), some.1, Nothing refl) })

-- a run before the first item, as a task, and what was written before it
first : (asked : Asked) (exceptions : List (List ℕ)) (h : Header) (ns : List Names) (run : Run) → run.comparison.current.asked ≡ asked
    → RunStands h exceptions ns [] run → HasHandled run (plan_within (model_asked asked exceptions) h ns) h []
first asked exceptions h ns run same stands = record { exceptions = exceptions; ns = ns; by_plan = ap (λ (a : Asked). plan_within (model_asked a exceptions) h ns) (sym same); stands = stands }

none_ended : (asked : Asked) (exceptions : List (List ℕ)) (h : Header) (ns : List Names) (run : Run) → run.comparison.current.asked ≡ asked
    → RunStands h exceptions ns [] run → ends_run (model_asked asked exceptions) h ns [] ≡ false
none_ended asked exceptions h ns run same stands = subst (λ (a : Asked). ends_run (model_asked a exceptions) h ns [] ≡ false) same
    (not_ended h exceptions ns [] run.comparison run.watched stands.compares)

written : (q : ModelAsked) (h : Header) (ns : List Names) (out mid : Device) → Writes out mid (within_head q h ns) → Writes out mid (within_open q h ns [])
written q h ns out mid writes = subst (Writes out mid) (sym (open_first q h ns)) writes

pub returns-in_err-done-clause-gives : goal.returns-in_err-done-clause-gives
returns-in_err-done-clause-gives g c = λ h exceptions ns i front views pairs given.
    let e : c.from_residual-in_err-done.result ≡ Err c.in_err-done.field-0.0 = search rules in
    let q = model_asked c.args.asked exceptions in
    let out : Device = (g.W.Sink.device c.args.out.now) in
    let mid : Device = (g.W.Sink.device c.put_header_lines.new.out) in
    let puts = c.in_ok-put_header_lines.ensures in
    let run = c.new-run.ensures in
    let stands = run.stands h exceptions ns views pairs in
    rw e (c.in_err-done.ensures.runs (plan_within q h ns) h i front out views given
    (first c.args.asked exceptions h ns c.new-run.result run.asked stands)
    (none_ended c.args.asked exceptions h ns c.new-run.result run.asked stands) (written q h ns out mid (puts.0 h q ns views pairs, puts.1)))

pub returns-clause-gives : goal.returns-clause-gives
returns-clause-gives g c = λ h exceptions ns i front views pairs given.
    let q = model_asked c.args.asked exceptions in
    let out : Device = (g.W.Sink.device c.args.out.now) in
    let mid : Device = (g.W.Sink.device c.put_header_lines.new.out) in
    let puts = c.in_ok-put_header_lines.ensures in
    let run = c.new-run.ensures in
    let stands = run.stands h exceptions ns views pairs in
    c.in_ok-done.ensures.runs (plan_within q h ns) h i front out views given (first c.args.asked exceptions h ns c.new-run.result run.asked stands)
    (none_ended c.args.asked exceptions h ns c.new-run.result run.asked stands) (written q h ns out mid (puts.0 h q ns views pairs, puts.1))

pub returns-in_err-done-clause-needed : goal.returns-in_err-done-clause-needed
returns-in_err-done-clause-needed g c = λ h exceptions ns i front views pairs given.
    let e : c.from_residual-in_err-done.result ≡ Err c.in_err-done.field-0.0 = search rules in
    let q = model_asked c.args.asked exceptions in
    let out : Device = (g.W.Sink.device c.args.out.now) in
    let mid : Device = (g.W.Sink.device c.put_header_lines.new.out) in
    let puts = c.in_ok-put_header_lines.ensures in
    let run = c.new-run.ensures in
    let stands = run.stands h exceptions ns views pairs in
    rw e (c.in_err-done.ensures.needed (plan_within q h ns) h i front out views given
    (first c.args.asked exceptions h ns c.new-run.result run.asked stands)
    (none_ended c.args.asked exceptions h ns c.new-run.result run.asked stands) (written q h ns out mid (puts.0 h q ns views pairs, puts.1)))

pub returns-clause-needed : goal.returns-clause-needed
returns-clause-needed g c = λ h exceptions ns i front views pairs given.
    let q = model_asked c.args.asked exceptions in
    let out : Device = (g.W.Sink.device c.args.out.now) in
    let mid : Device = (g.W.Sink.device c.put_header_lines.new.out) in
    let puts = c.in_ok-put_header_lines.ensures in
    let run = c.new-run.ensures in
    let stands = run.stands h exceptions ns views pairs in
    c.in_ok-done.ensures.needed (plan_within q h ns) h i front out views given (first c.args.asked exceptions h ns c.new-run.result run.asked stands)
    (none_ended c.args.asked exceptions h ns c.new-run.result run.asked stands) (written q h ns out mid (puts.0 h q ns views pairs, puts.1))
