use Rattle.vcd_body.proofs.Cited.{refl, ℕ, [], ◌∷◌, ◌<◌, ◌≤◌, ◌∙◌, drop, length, subst, sym, arith, false≢true, decimal_value, items_of, BodyItem, time_after, Token, bytes_of, longest_of, passed_of, start_of, line_ahead, Passes, Begins, PhraseKind}
use Rattle.vcd_body.proofs.Facts.{passes_same, mark_taken, time_whole, begins_after, token_begun, token_there, mark_there, mark_misplaced, time_passes}
use Rattle.vcd_body.proofs.ahead.timestamp_ahead.Goals as goal

pub returns-in-Ok-clause-takes : goal.returns-in-Ok-clause-takes
returns-in-Ok-clause-takes c = λ a v o.
    let token = c.args.opening.token.now in
    let taken = o.token in
    let regs = c.args.regs.now in
    let time = c.args.time in
    let bytes = bytes_of a in
    let from = passed_of a in
    let to = passed_of c.args.ahead in
    let further = taken.further in
    let less : from < to = omega (arith, further) in
    let there = token_there bytes from to token taken.further taken.within taken.before taken.place in
    let m = c.without_text.ensures in
    let digits = c.requires.time in
    let may = c.in-Ok.ensures.may in
    let late : regs.time ≤ decimal_value (drop 1 token) = subst (λ (n : ℕ). regs.time ≤ n) (sym digits.1) may.forth in
    rw (m.item, m.text, m.size, m.begin, m.positions.0, m.bits, m.binary) (record {
      gives = λ h limit lines bytes before items v over k g.
          let one = passes_same limit (longest_of a) lines bytes (bytes_of a) from to (start_of c.args.ahead token) token over.0 over.1 (taken.gives lines) g.tokens g.passed in
          mark_taken h.codes limit lines bytes before items from regs g k _ time
          (line_ahead lines bytes (start_of c.args.ahead token)) token less one
          (λ earlier e. subst (λ (n : ℕ). Passes h.codes earlier token (BodyItem.Time n) × (time_after (items_of earlier) ≤ n)) digits.1
          (time_passes h.codes earlier token (subst (λ (f : PhraseKind). Begins token f) c.requires.kind o.begins) regs e
          (time_whole (drop 1 token) time digits.0 digits.1 digits.2) may.outside late));
      passes = λ limit lines bytes ts over p.
          let t : Token = record { bytes = token; line = line_ahead lines bytes (start_of c.args.ahead token) } in
          (t ∷ [], passes_same limit (longest_of a) lines bytes (bytes_of a) from to (start_of c.args.ahead token) token over.0 over.1 (taken.gives lines) ts p);
      sound = tt;
      scanned = refl;
      sized = refl;
      bits = tt;
      binary = λ e. absurd (false≢true e);
      bytes = m.bytes;
      before = begins_after bytes from to token there;
      ends = m.positions.1;
      spelled = rw (m.bytes ∙ taken.same.0, m.positions.1) (mark_there bytes _ _ token _ taken.some c.requires.time (token_begun bytes from to token there));
      further = less;
      within = subst (λ (bs : _). to ≤ length bs) (sym taken.same.0) taken.within;
      same = taken.same;
    })

pub returns-in-Err-clause-none : goal.returns-in-Err-clause-none
returns-in-Err-clause-none c = λ _. mark_misplaced c.args.regs.now c.args.time _ c.in-Err.ensures.may
