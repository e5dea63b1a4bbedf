use Rattle.vcd_body.proofs.Cited.{[], ◌∷◌, ◌++◌, ◌∙◌, ◌<◌, ◌≤◌, append_assoc, drop, length, subst, sym, arith, Token, bytes_of, longest_of, passed_of, start_of, Passed, line_ahead, AreBinaryIf, MayBe}
use Rattle.vcd_body.proofs.Facts.{passes_same, both_taken, has_bits, begins_after, token_begun, token_there, both_there, both_places, some_of}
use Rattle.vcd_body.specs.declared.item.Form.TheVariants as form
use Rattle.vcd_body.proofs.ahead.vector_ahead.Goals as goal

pub after_first-digits-requires : goal.after_first-digits-requires
after_first-digits-requires c = let b = c.requires.opens.1.begins in some_of _ _ _ b.3

pub vector_code-requires-clause-begins : goal.vector_code-requires-clause-begins
vector_code-requires-clause-begins c = c.requires.opens.1.begins

pub are_binary_or_known-binary-requires : goal.are_binary_or_known-binary-requires
are_binary_or_known-binary-requires c = subst (MayBe c.args.bits) (sym c.after_first-digits.ensures) c.requires.bits

pub vector_code-requires-clause-binary : goal.vector_code-requires-clause-binary
vector_code-requires-clause-binary c = subst (AreBinaryIf c.are_binary_or_known-binary.result) c.after_first-digits.ensures c.are_binary_or_known-binary.ensures

pub returns-clause-takes : goal.returns-clause-takes
returns-clause-takes c = λ a r v.
    let token = c.args.tokens.token.now in
    let code = c.args.tokens.code.now in
    let bytes = bytes_of a in
    let mid = v.middle in
    let new = c.args.ahead in
    let o = v.token in
    let m = v.code in
    let further = o.further in
    let further' = m.further in
    let less : passed_of a < passed_of new = omega (arith, further, further') in
    let begins = v.begins in
    let first = token_there bytes (passed_of a) (passed_of mid) token o.further o.within o.before o.place in
    let begun = token_begun bytes (passed_of a) (passed_of mid) token first in
    let second = token_there (bytes_of mid) (passed_of mid) (passed_of new) code m.further m.within m.before m.place in
    let text = c.after_first-digits.ensures in
    rw (c.change_of.ensures, v.at, v.code_at) (record {
      gives = λ h limit lines bytes before items views over k g.
          let line = line_ahead lines bytes (start_of mid token) in
          let one = passes_same limit (longest_of a) lines bytes (bytes_of a) (passed_of a) (passed_of mid) (start_of mid token) token over.0 over.1 (o.gives lines) g.tokens g.passed in
          let two = passes_same limit (longest_of mid) lines bytes (bytes_of mid) (passed_of mid) (passed_of new) (start_of new code) code (o.same.1
          ∙ over.0) (o.same.0 ∙ over.1) (m.gives lines) (g.tokens ++ record { bytes = token; line = line } ∷ []) one in
          let s = c.in_ok-found.ensures.code h views in
          both_taken h.codes limit lines bytes before items (passed_of a) r g k form.Vector (passed_of new) _ line _ token code _ less two text s.0 s.1 s.2;
      passes = λ limit lines bytes ts over p.
          let t : Token = record { bytes = token; line = line_ahead lines bytes (start_of mid token) } in
          let u : Token = record { bytes = code; line = line_ahead lines bytes (start_of new code) } in
          let one = passes_same limit (longest_of a) lines bytes (bytes_of a) (passed_of a) (passed_of mid) (start_of mid token) token over.0 over.1 (o.gives lines) ts p in
          let two = passes_same limit (longest_of mid) lines bytes (bytes_of mid) (passed_of mid) (passed_of new) (start_of new code) code (o.same.1
          ∙ over.0) (o.same.0 ∙ over.1) (m.gives lines) (ts ++ t ∷ []) one in
          (t ∷ u ∷ [], subst (Passed limit lines bytes (passed_of new)) (append_assoc ts (t ∷ []) (u ∷ [])) two);
      sound = rw text c.in_ok-found.ensures.sound;
      scanned = tt;
      sized = c.in_ok-found.ensures.sized;
      bits = rw text (has_bits c.in_ok-found.found.position (drop 1 token) c.args.bits c.requires.bits);
      binary = c.are_binary_or_known-binary.ensures;
      bytes = c.bytes.ensures;
      before = begins_after bytes (passed_of a) (passed_of mid) token first;
      ends = c.passed.ensures.passed;
      spelled = rw (c.bytes.ensures ∙ m.same.0 ∙ o.same.0, c.passed.ensures.passed) (
        code,
        both_there bytes (bytes_of mid) _ _ _ token _ _ begins.0 begins.1 begins.3 text o.same.0 begun second,
        c.in_ok-found.ensures.names,
        both_places bytes (bytes_of mid) _ _ _ token _ _ begins.0 begins.1 begins.3 text o.same.0 begun second,
      );
      further = less;
      within = subst (λ (bs : _). passed_of new ≤ length bs) (sym m.same.0) m.within;
      same = (m.same.0 ∙ o.same.0, m.same.1 ∙ o.same.1);
    })
