use Rattle.vcd_head.proofs.Cited.{rules, err_from_is_err_and}
use Rattle.vcd_head.proofs.Facts.{carries_nothing, finished}
use Rattle.vcd_head.proofs.read.read_head_with_hasher.Goals as goal

pub returns-in_err-read_phrases : goal.returns-in_err-read_phrases
returns-in_err-read_phrases g c = record {
  reads =
      let p = err_from_is_err_and c.from_residual.result c.from_residual.ensures.1 in
      rw (p.1, p.2) (λ i s. c.in_err-read_phrases.ensures.reads i (carries_nothing c.args.most i c.new-draft.result c.args.feed.now c.requires.most c.new-draft.ensures s));
  failed = search rules;
  last = search rules;
  same = search rules;
  «open» = search rules;
  lengths = search rules;
  loans = search rules;
}

pub returns : goal.returns
returns g c = record {
  reads = λ i s.
      finished c.args.most i c.read_phrases.new.draft c.read_phrases.new.feed c.head_of_draft.result
      (c.in_ok-read_phrases.ensures.reads i
      (carries_nothing c.args.most i c.new-draft.result c.args.feed.now c.requires.most c.new-draft.ensures s))
      c.head_of_draft.ensures.head c.head_of_draft.ensures.memory;
  failed = search rules;
  last = search rules;
  same = search rules;
  «open» = search rules;
  lengths = search rules;
  loans = search rules;
}
