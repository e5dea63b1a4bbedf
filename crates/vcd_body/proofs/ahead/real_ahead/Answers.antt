use Rattle.vcd_body.proofs.Cited.{[], ◌∷◌, ◌++◌, ◌∙◌, ◌<◌, ◌≤◌, append_assoc, length, subst, sym, arith, false≢true, Token, bytes_of, longest_of, passed_of, start_of, Passed, line_ahead, Begins}
use Rattle.vcd_body.proofs.Facts.{passes_same, both_taken, begins_after, token_begun, token_there, both_there, both_places}
use Rattle.vcd_body.specs.declared.item.Form.TheVariants as form
use Rattle.vcd_body.proofs.ahead.real_ahead.Goals as goal

pub returns-clause-takes : goal.returns-clause-takes
returns-clause-takes c = λ a r o.
    let token = c.args.opening.token.now in
    let code = c.in_ok-code.code.now in
    let bytes = bytes_of a in
    let mid = c.args.ahead.now in
    let new = c.next.new.self in
    let t = o.token in
    let m = c.in_ok-code.ensures.takes in
    let further = t.further in
    let further' = m.further in
    let less : passed_of a < passed_of new = omega (arith, further, further') in
    let begins = subst (Begins token) c.requires.kind o.begins in
    let first = token_there bytes (passed_of a) (passed_of mid) token t.further t.within t.before t.place in
    let begun = token_begun bytes (passed_of a) (passed_of mid) token first in
    let second = token_there (bytes_of mid) (passed_of mid) (passed_of new) code m.further m.within m.before m.place in
    let text = c.rest_of-text.ensures in
    rw (c.change_of.ensures, c.begin_of-at.ensures, c.begin_of-code_at.ensures) (record {
      gives = λ h limit lines bytes before items v over k g.
          let line = line_ahead lines bytes (start_of mid token) in
          let one = passes_same limit (longest_of a) lines bytes (bytes_of a) (passed_of a) (passed_of mid) (start_of mid token) token over.0 over.1 (t.gives lines) g.tokens g.passed in
          let two = passes_same limit (longest_of mid) lines bytes (bytes_of mid) (passed_of mid) (passed_of new) (start_of new code) code (t.same.1
          ∙ over.0) (t.same.0 ∙ over.1) (m.gives lines) (g.tokens ++ record { bytes = token; line = line } ∷ []) one in
          let s = c.in_ok-found.ensures.code h v in
          both_taken h.codes limit lines bytes before items (passed_of a) r g k form.RealText (passed_of new) _ line _ token code _ less two text s.0 s.1 s.2;
      passes = λ limit lines bytes ts over p.
          let v : Token = record { bytes = token; line = line_ahead lines bytes (start_of mid token) } in
          let u : Token = record { bytes = code; line = line_ahead lines bytes (start_of new code) } in
          let one = passes_same limit (longest_of a) lines bytes (bytes_of a) (passed_of a) (passed_of mid) (start_of mid token) token over.0 over.1 (t.gives lines) ts p in
          let two = passes_same limit (longest_of mid) lines bytes (bytes_of mid) (passed_of mid) (passed_of new) (start_of new code) code (t.same.1
          ∙ over.0) (t.same.0 ∙ over.1) (m.gives lines) (ts ++ v ∷ []) one in
          (v ∷ u ∷ [], subst (Passed limit lines bytes (passed_of new)) (append_assoc ts (v ∷ []) (u ∷ [])) two);
      sound = rw text c.in_ok-found.ensures.sound;
      scanned = tt;
      sized = c.in_ok-found.ensures.sized;
      bits = tt;
      binary = λ e. absurd (false≢true e);
      bytes = c.bytes.ensures;
      before = begins_after bytes (passed_of a) (passed_of mid) token first;
      ends = c.passed.ensures.passed;
      spelled = rw (c.bytes.ensures ∙ m.same.0 ∙ t.same.0, c.passed.ensures.passed) (
        code,
        both_there bytes (bytes_of mid) _ _ _ token _ _ begins.0 begins.1 begins.3 text t.same.0 begun second,
        c.in_ok-found.ensures.names,
        both_places bytes (bytes_of mid) _ _ _ token _ _ begins.0 begins.1 begins.3 text t.same.0 begun second,
      );
      further = less;
      within = subst (λ (bs : _). passed_of new ≤ length bs) (sym m.same.0) m.within;
      same = (m.same.0 ∙ t.same.0, m.same.1 ∙ t.same.1);
    })
