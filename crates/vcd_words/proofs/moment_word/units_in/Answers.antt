use Rattle.vcd_words.proofs.Cited.{option_map, ◌∙◌, lit<, rules, items_from_collect, YieldsList-from_map, YieldsList-at, YieldsList-from_filter_map, YieldsList-from_str_split, IfOk-weaker, parts}
use Rattle.vcd_words.proofs.Facts.{kept, same_moment, read_of_kept}
use Rattle.vcd_model.specs.Job as model
use Rattle.vcd_head.specs.declared.moment.Moment.{Moment}
use Rattle.vcd_words.proofs.moment_word.units_in.Goals as goal

pub returns : goal.returns
returns c =
    IfOk-weaker c.collect.result _ _ (λ v e. e ∙ read_of_kept (λ (m : Moment). m.unit) (parts c.args.at.now))
    (items_from_collect _ c.collect.ensures.ran
    (YieldsList-from_map _ (λ (m : Moment). m.unit)
    (YieldsList-at c.map.ensures.source (YieldsList-from_filter_map _ (λ word. option_map kept (model.moment_of word))
    (YieldsList-from_str_split 44 c.args.at.now (lit< tt) (cc) (cc) (cc)) c.filter_map.ensures.closure
    (λ x r q k. (search rules, same_moment r (model.moment_of x.now) (search rules)))))
    c.map.ensures.closure (λ x r q k. search rules)))
