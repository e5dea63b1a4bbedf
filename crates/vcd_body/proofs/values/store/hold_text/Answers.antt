use Rattle.vcd_body.proofs.Cited.{ap, ◌∙◌, ℕ, ◌%◌, ◌/◌, len_in, set_whole, state_in, whole, State}
use Rattle.vcd_body.proofs.Facts.{len_told, told_state}
use Rattle.vcd_body.proofs.values.store.hold_text.Goals as goal

pub returns : goal.returns
returns c =
    let tag = c.tag_of-slot.result in
    let w = whole c.args.slot.now c.args.share.now in
    let len = c.args.len in
    ap (λ (st : State). set_whole st (len_in tag (len % 4294967296) (len / 4294967296)) w) (ap state_in c.tag_of-slot.ensures ∙ told_state c.args.state)
    ∙ ap (λ (n : ℕ). set_whole c.args.state n w) (len_told c.args.state tag len c.tag_of-slot.ensures c.requires.text)
