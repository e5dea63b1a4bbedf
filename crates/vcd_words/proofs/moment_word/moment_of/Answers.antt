use Rattle.vcd_words.proofs.Cited.{◌∙◌, ap, sym, option_map, asked, with_unit}
use Rattle.vcd_words.proofs.Facts.{no_moment, moment_is}
use Rattle.vcd_model.specs.Job as model
use Rattle.vcd_words.proofs.moment_word.moment_of.Goals as goal

pub returns-in_err-number_of : goal.returns-in_err-number_of
returns-in_err-number_of c =
    let none = no_moment c.as_bytes-bytes.result.now c.split_at.result.0.now c.digits_before.result c.number_of.result c.digits_before.ensures c.split_at.ensures.front c.number_of.ensures c.in_err-number_of.was in
    ap (option_map asked) c.from_residual.ensures ∙ sym none ∙ ap model.moment_of c.as_bytes-bytes.ensures.value

pub returns : goal.returns
returns c =
    let some = moment_is c.as_bytes-bytes.result.now c.split_at.result.0.now c.digits_before.result c.number_of.result c.digits_before.ensures c.split_at.ensures.front c.number_of.ensures c.in_ok-number_of.field-0 c.in_ok-number_of.was in
    c.from_parts.ensures ∙ ap (with_unit c.in_ok-number_of.field-0) c.split_at.ensures.back ∙ sym some ∙ ap model.moment_of c.as_bytes-bytes.ensures.value
