use Rattle.vcd_body.proofs.Cited.{◌+◌, ◌-◌, length, take, Some, option_map, sym, ap, ◌∙◌, arith, length-take-le, Code, unset}
use Rattle.vcd_body.proofs.Facts.{laid, new_kept, whole_share}
use Rattle.vcd_body.specs.Stored.{start_of}
use Rattle.vcd_body.proofs.values.table.Table.new.Goals as goal

pub returns-clause-laid : goal.returns-clause-laid
returns-clause-laid c =
    let codes = c.args.view.codes.now in
    let values = c.args.values.now in
    let end = c.lay_out-end.ensures.end in
    let size = length-take-le c.lay_out-end.result values (omega (arith, end)) in
    let same = c.lay_out-end.auto.slots ∙ length-take-le (length codes) c.args.slots.now c.requires.slots in
    let all = c.lay_out-end.auto.shares ∙ length-take-le (length codes) c.args.shares.now c.requires.shares in
    laid codes c.lay_out-end.new.slots c.lay_out-end.new.shares (length values) (length (take c.lay_out-end.result values)) (sym same) (sym all)
    (size ∙ end) c.lay_out-end.ensures.slots c.lay_out-end.ensures.shares

pub returns-clause-kept : goal.returns-clause-kept
returns-clause-kept c = λ code.
    let codes = c.args.view.codes.now in
    let values = c.args.values.now in
    let end = c.lay_out-end.ensures.end in
    let size = length-take-le c.lay_out-end.result values (omega (arith, end)) in
    let same = c.lay_out-end.auto.slots ∙ length-take-le (length codes) c.args.slots.now c.requires.slots in
    let all = c.lay_out-end.auto.shares ∙ length-take-le (length codes) c.args.shares.now c.requires.shares in
    new_kept codes c.lay_out-end.new.slots c.lay_out-end.new.shares (length values) c.lay_out-end.result (sym same)
    (sym all) end c.lay_out-end.ensures.slots c.lay_out-end.ensures.shares (take c.lay_out-end.result values) size code

pub returns-clause-room : goal.returns-clause-room
returns-clause-room c = λ most code declared at.
    let codes = c.args.view.codes.now in
    let values = c.args.values.now in
    let end = c.lay_out-end.ensures.end in
    let size = length-take-le c.lay_out-end.result values (omega (arith, end)) in
    let same = c.lay_out-end.auto.slots ∙ length-take-le (length codes) c.args.slots.now c.requires.slots in
    let all = c.lay_out-end.auto.shares ∙ length-take-le (length codes) c.args.shares.now c.requires.shares in
    new_kept codes c.lay_out-end.new.slots c.lay_out-end.new.shares (length values) c.lay_out-end.result (sym same)
    (sym all) end c.lay_out-end.ensures.slots c.lay_out-end.ensures.shares (take c.lay_out-end.result values) size code
    ∙ ap (option_map (λ (x : Code). unset (start_of codes (length values) (code + 1) - start_of codes (length values) code))) at
    ∙ ap (λ n. Some (unset n)) (whole_share codes (length values) code declared most at)

pub returns-clause-bytes : goal.returns-clause-bytes
returns-clause-bytes c =
    let values = c.args.values.now in
    let end = c.lay_out-end.ensures.end in
    let size = length-take-le c.lay_out-end.result values (omega (arith, end)) in
    omega (arith, size, end)
