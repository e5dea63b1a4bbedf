use Rattle.vcd_head.proofs.Cited.{◌==◌, ◌&&◌, map, string_bytes, bytes_eq, refl, ◌∙◌, eq-eqb, ne_eqb, Matches}
use Rattle.vcd_head.proofs.Facts.{match_none, rises_in, follows_step, notes_step}
use Rattle.vcd_head.proofs.names.Group.follow_byte.Goals.{then-byte-eq46, else-byte-eq46}
use Rattle.vcd_head.proofs.names.Group.follow_byte.Goals as goal

pub returns : goal.returns
returns c = λ front f.
    let names = map string_bytes c.args.self.now.names.now in
    let order = c.args.self.now.order.now in
    let byte = c.args.byte in
    let old = c.args.matched.now in
    let new = c.if-byte-eq46.matched in
    let ends = c.if-byte-eq46.ends in
    let m : Matches (λ name. (byte == 46) && bytes_eq name front) names old new ends = elim c.if-byte-eq46.branch [
      | then-byte-eq46 w ↦ rw (w.matched-is, w.ends-is, eq-eqb byte 46 w.if-byte-eq46.true) (w.note-ends.ensures front f)
      | else-byte-eq46 w ↦ rw (w.matched-is, w.ends-is ∙ ne_eqb byte 46 w.if-byte-eq46.false)
          (match_none (λ name. (byte == 46) && bytes_eq name front) names old (λ p name at. rw (ne_eqb byte 46 w.if-byte-eq46.false) refl))
    ] in
    let n = c.with_byte.ensures.narrows f.up (rises_in names order old front c.args.run f) in
    record {
      follows = follows_step names order old new front byte c.args.run c.with_byte.result ends f m n c.with_byte.ensures.whole;
      notes = notes_step names order old new front byte c.args.run c.with_byte.result ends f m n c.with_byte.ensures.whole;
    }
