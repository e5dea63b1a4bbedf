use Rattle.vcd_compare.proofs.Cited.{◌≡◌, false, refl, sym, ◌∙◌, true, arith, slice_get_within, is_fit, code_of, Pairs, UnlikeRows}
use Rattle.vcd_compare.proofs.Facts.{fits_as, held_unlike, kind_apart, kind_same, pair_more}
use Rattle.vcd_compare.proofs.pairs.add_pair.Goals as goal

pub returns-then-not-is_same_kind : goal.returns-then-not-is_same_kind
returns-then-not-is_same_kind c = λ h p compared other_kinds ones others view at other s.
    let old = c.args.pairs.now in
    let new : Pairs = record { rows = old.rows; ends = old.ends; classes = old.classes; last = old.last; alone_one = old.alone_one; alone_other = old.alone_other; unlike = c.push.new.self } in
    let rows : UnlikeRows = record { one = c.args.one; ranged = c.args.ranged; other = c.args.other } in
    let fits : is_fit p ≡ false = sym (fits_as p _ _ c.is_same_kind.result (c.kind_of.ensures h p.one view at.at.declared)
    (c.kind_of-2.ensures h p.other view other) c.is_same_kind.ensures) ∙ c.if-not-is_same_kind.true in
    kind_apart c.args.keys.now.keys h compared other_kinds ones others new p fits
    (held_unlike c.args.keys.now.keys h compared other_kinds ones others old c.push.new.self rows p c.in_ok-push.ensures.items
    (record { at = at; other = other }) s)

pub returns : goal.returns
returns c = λ h p compared other_kinds ones others view at other s.
    let old = c.args.pairs.now in
    let keys = c.enter_class.new.keys.keys in
    let new : Pairs = record { rows = c.push-2.new.self; ends = c.enter_class.new.ends; classes = c.len-pairs.result; last = c.enter_class.new.last; alone_one = old.alone_one; alone_other = old.alone_other; unlike = old.unlike } in
    let one = c.code_of.ensures h p.one view at.at.declared in
    let two = c.code_of-2.ensures h p.other view other in
    let below_one = slice_get_within h.codes c.code_of.result (code_of p.one) one in
    let below_two = slice_get_within h.codes c.code_of-2.result (code_of p.other) two in
    let room = s.holds.codes in
    let e = c.in_ok-class.ensures (omega (arith, below_one, room)) (omega (arith, below_two, room)) s.has in
    let fits : is_fit p ≡ true = sym (fits_as p _ _ c.is_same_kind.result (c.kind_of.ensures h p.one view at.at.declared)
    (c.kind_of-2.ensures h p.other view other) c.is_same_kind.ensures) ∙ c.if-not-is_same_kind.false in
    kind_same keys h compared other_kinds ones others new p fits (record {
      holds = pair_more h old new c.args.keys.now.keys keys (c.code_of.result, c.code_of-2.result)
          c.args.one c.args.ranged c.in_ok-class.class p compared other_kinds ones others s.holds e s.count
          (sym c.len-pairs.ensures.len) c.in_ok-push-2.ensures.items refl refl refl at fits one two;
      has = e.has;
      count = sym c.len-pairs.ensures.len;
    })
