use Rattle.vcd_body.proofs.Cited.{◌<◌, get_or, arith, slice_get-get_or}
use Rattle.vcd_body.proofs.Facts.{number_told, short_told, blank}
use Rattle.vcd_body.proofs.values.table.Table.same_in_slots.Goals as goal

pub returns-then-its_tag-le-HIGH : goal.returns-then-its_tag-le-HIGH
returns-then-its_tag-le-HIGH c = λ laid.
    let t = c.args.self.now in
    let slots = t.slots.now in
    let s = get_or slots c.args.one blank in
    let u = get_or slots c.args.other blank in
    short_told t c.args.one c.args.other s u laid (slice_get-get_or slots c.args.one blank c.if-one-self.false)
    (slice_get-get_or slots c.args.other blank c.if-other-self.false) c.if-tag-le-HIGH.true c.if-its_tag-le-HIGH.true c.args.size

pub returns : goal.returns
returns c = λ laid.
    let t = c.args.self.now in
    let slots = t.slots.now in
    let s = get_or slots c.args.one blank in
    let u = get_or slots c.args.other blank in
    let low : s.number < 4294967296 = omega arith in
    let less : u.number < 4294967296 = omega arith in
    number_told t c.args.one c.args.other s u laid (slice_get-get_or slots c.args.one blank c.if-one-self.false)
    (slice_get-get_or slots c.args.other blank c.if-other-self.false) c.if-tag-lt-BITS.false c.if-its_tag-lt-BITS.false c.args.size
    (omega (arith, c.if-from-size.false, c.from.ensures, c.max.ensures)) low less
