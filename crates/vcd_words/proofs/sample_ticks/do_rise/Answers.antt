use Rattle.vcd_words.proofs.Cited.{rules, nat_lt, answers_always}
use Rattle.vcd_words.proofs.Facts.{rise_is}
use Rattle.vcd_words.proofs.sample_ticks.do_rise.Goals as goal

pub returns : goal.returns
returns c = rise_is c.args.times.now c.is_sorted_by.result (c.is_sorted_by.ensures.cases (λ x y. nat_lt x y) (answers_always _ _ _ (λ f a r f' k. search rules)))
