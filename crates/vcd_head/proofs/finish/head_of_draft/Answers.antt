use Rattle.vcd_head.proofs.Cited.{length, ap, subst, arith, codes_of, declarations_of, IsIndex, codes_len, codes_few}
use Rattle.vcd_model.specs.Header.{header_of}
use Rattle.vcd_head.proofs.finish.head_of_draft.Goals as goal

pub returns-clause-head : goal.returns-clause-head
unfolding header_of
returns-clause-head c = λ most ps h.
    let ds = declarations_of ps in
    let held = h.declares.held in
    let few = h.declares.few in
    let allowed = h.declares.allowed in
    let ds_codes = codes_of ds in
    let stand = h.declares.codes.held.stand in
    let list = c.args.draft.codes.list.items in
    record {
      rows = h.declares.rows;
      codes = stand;
      index = subst (λ t. IsIndex ds_codes c.in_ok-index.index.items) c.deref.ensures.value
          (c.in_ok-index.ensures ds_codes (rw (c.deref.ensures.value, c.deref-2.ensures.value) h.declares.codes.held));
      date = h.date;
      version = h.version;
      scale = h.scale;
      scaled = h.scaled;
      held = omega (arith, held, ap length h.date, ap length h.version);
      texts = h.declares.codes.held.texts;
      look_up = omega (arith, c.in_ok-entries.ensures.few, ap length c.deref-2.ensures.value, codes_len c.args.draft.text.items list ds_codes stand);
      sizes = h.declares.codes.sizes;
      few = omega arith;
      few_codes = codes_few ds;
    }
