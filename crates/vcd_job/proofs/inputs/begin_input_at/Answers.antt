use Rattle.vcd_job.proofs.Cited.{◌∙◌, ap, length, refl, arith, get_or_from_slice_get, part_len, lent_len, part_other, part_put}
use Rattle.vcd_job.proofs.Facts.{one_last}
use Rattle.vcd_job.proofs.inputs.begin_input_at.Goals as goal

pub returns-clause-begins : goal.returns-clause-begins
returns-clause-begins g c = λ r there.
    let n = length c.args.readers.now in
    let chunks = c.args.windows.now.chunks.now in
    let tokens = c.args.windows.now.tokens.now in
    let kc = lent_len (part_len n chunks) n c.args.input chunks c.requires.parts.chunks_are c.requires.input in
    let kt = lent_len (part_len n tokens) n c.args.input tokens c.requires.parts.tokens_are c.requires.input in
    let pc = part_put (part_len n chunks) n c.args.input chunks c.begin_input.new.chunk c.requires.parts.chunks_are c.requires.input (c.begin_input.auto.chunk ∙ kc) in
    let pt = part_put (part_len n tokens) n c.args.input tokens c.begin_input.new.token c.requires.parts.tokens_are c.requires.input (c.begin_input.auto.token ∙ kt) in
    let q = get_or_from_slice_get c.args.readers.now c.args.input r c.index-readers-input.result there in
    record {
      after = c.begin_input.new.reader;
      readers = refl;
      counts = rw q at c.begin_input.ensures.reads;
      gives = λ text h. rw (pc, pt) (rw (kc, kt, q) at (c.begin_input.ensures.begins text (ap g.S.Source.rest q ∙ h)));
    }

pub returns-clause-others : goal.returns-clause-others
returns-clause-others g c = λ j other.
    let n = length c.args.readers.now in
    let chunks = c.args.windows.now.chunks.now in
    let tokens = c.args.windows.now.tokens.now in
    let kc = lent_len (part_len n chunks) n c.args.input chunks c.requires.parts.chunks_are c.requires.input in
    let kt = lent_len (part_len n tokens) n c.args.input tokens c.requires.parts.tokens_are c.requires.input in
    record {
      chunks = part_other (part_len n chunks) n c.args.input chunks c.begin_input.new.chunk c.requires.parts.chunks_are c.requires.input (c.begin_input.auto.chunk ∙ kc) j other;
      tokens = part_other (part_len n tokens) n c.args.input tokens c.begin_input.new.token c.requires.parts.tokens_are c.requires.input (c.begin_input.auto.token ∙ kt) j other;
    }

pub returns-clause-last : goal.returns-clause-last
returns-clause-last g c = one_last g.S.Source.last_failed c.args.readers.now c.args.input _ _ c.begin_input.new.reader _ (omega arith) c.begin_input.ensures.reads c.begin_input.ensures.last
