use Rattle.vcd_head.proofs.Cited.{◌≡◌, ◌≤◌, ◌+◌, ◌-◌, ◌++◌, sym, ap, subst, ◌∙◌, length, take, drop, map, string_bytes, arith, append_assoc, append-nil, length-take-le, take_all, take-append-drop, GoesOn}
use Rattle.vcd_head.proofs.Facts.{goes_both, goes_empty, goes_nowhere, take_on}
use Rattle.std.proofs.Common.{length-drop}
use Rattle.vcd_head.proofs.names.Group.follow_bytes.Goals as goal

pub loop-done-init : goal.loop-done-init
loop-done-init c = record {
  within = omega arith;
  goes = λ front f.
      let names = map string_bytes c.args.self.now.names.now in
      let order = c.args.self.now.order.now in
      subst (λ p. GoesOn names order c.args.matched.now c.args.matched.now p c.args.run) (sym (append-nil front)) (goes_nowhere names order c.args.matched.now front c.args.run f);
}

pub loop-done-preserved : goal.loop-done-preserved
loop-done-preserved c =
    let bytes = c.args.bytes.now in
    let done = c.loop-done.done in
    let count = c.hop-count.result.1 in
    let rest = take (length bytes - done) (drop done bytes) in
    let all : length rest ≡ length bytes - done = length-take-le (length bytes - done) (drop done bytes) (omega (arith, length-drop done bytes)) in
    let within : done + count ≤ length bytes = omega (arith, c.hop-count.ensures.within, all, c.loop-done-test.true) in
    record {
      within = within;
      goes = λ front f.
          let names = map string_bytes c.args.self.now.names.now in
          let order = c.args.self.now.order.now in
          let old = c.args.matched.now in
          let new = c.hop-count.new.matched in
          let so_far = c.loop-done.invariant.goes front f in
          subst (λ p. GoesOn names order old new p c.hop-count.result.0) (append_assoc front (take done bytes) (take count rest) ∙ ap (λ l. front ++ l) (sym (take_on done count bytes within)))
          (goes_both names order old c.loop-done.matched new (front ++ take done bytes) (take count rest) c.loop-done.run c.hop-count.result.0 so_far
          (c.hop-count.ensures.run (front ++ take done bytes) c.if-run.false so_far.follows));
    }

pub returns-then-run : goal.returns-then-run
returns-then-run c = λ front f.
    let names = map string_bytes c.args.self.now.names.now in
    let order = c.args.self.now.order.now in
    let bytes = c.args.bytes.now in
    let done = c.loop-done.done in
    subst (λ p. GoesOn names order c.args.matched.now c.loop-done.matched p c.loop-done.run) (append_assoc front (take done bytes) (drop done bytes)
    ∙ ap (λ l. front ++ l) (take-append-drop done bytes))
    (goes_empty names order c.args.matched.now c.loop-done.matched (front ++ take done bytes) (drop done bytes) c.loop-done.run c.if-run.true (c.loop-done.invariant.goes front f))

pub returns : goal.returns
returns c = λ front f.
    let names = map string_bytes c.args.self.now.names.now in
    let order = c.args.self.now.order.now in
    subst (λ l. GoesOn names order c.args.matched.now c.loop-done.matched (front ++ l) c.loop-done.run)
    (take_all c.loop-done.done c.args.bytes.now c.loop-done-test.false) (c.loop-done.invariant.goes front f)
