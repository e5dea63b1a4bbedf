use Rattle.vcd_engine.proofs.Cited.{◌≡◌, ◌++◌, List, take, Appends, as_line, Header, value_before, BodyItem, time_line, Keyword, keyword_text, IsViewOf, values_text, HasValues}
use Rattle.vcd_engine.proofs.task_state.cut.put_start_section.Given as goal

abbrev pub invariant-loop-code : goal.invariant-loop-code
invariant-loop-code g l = ((g.W.Sink.device l.out).failures ≡ (g.W.Sink.device l.fn.out).failures)
    × ((h : Header) (items : List BodyItem) → IsViewOf l.view h → HasValues l.table h (λ c. value_before items c l.from)
    → Appends (g.W.Sink.device l.fn.out).held (g.W.Sink.device l.out).held ((time_line l.from ++ as_line (keyword_text Keyword.DumpVars)) ++ values_text (take l.code h.codes) items l.from))
