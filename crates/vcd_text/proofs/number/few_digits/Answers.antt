use Rattle.vcd_text.proofs.Cited.{◌+◌, ◌-◌, ◌*◌, ◌%◌, ◌^◌, cond, nat_lt, map, Some, refl, ap, sym, ◌∙◌, arith, w8, length-chunk, chunk-fits, chunk, fold_l, mask_l, top, zip2}
use Rattle.vcd_text.proofs.Facts.{all_digits, fits-padded, lanes_kept, lanes_value, last_of_eight, length-padded, no_digits, padded, spelled-padded, worth}
use Rattle.std.proofs.Common.{replicate}
use Rattle.vcd_text.proofs.number.few_digits.Goals as goal

pub returns-then-digits-ne0 : goal.returns-then-digits-ne0
returns-then-digits-ne0 c =
    let v = chunk (c.args.to - 8) 8 c.args.bytes.now in
    let m = 8 - c.args.n in
    let long = length-chunk (c.args.to - 8) 8 c.args.bytes.now (omega (arith, c.requires.within)) in
    let fits = chunk-fits w8 (c.args.to - 8) 8 c.args.bytes.now c.type_inv.bytes in
    let lanes = lanes_kept c.args.n v c.requires.few long in
    let none = no_digits (padded m v) (length-padded m v (omega (arith, long)) ∙ long) (fits-padded m v (omega (arith, long)) fits)
    (λ e. c.if-digits-ne0.true (ap (λ ds. mask_l (map (top 7) (zip2 (λ a b. cond (nat_lt a b) 255 0) (replicate 8 9) ds)) % 2 ^ 64) lanes ∙ e)) in
    (rw none refl) ∙ spelled-padded m v _ (omega (arith, long)) (last_of_eight c.args.bytes.now c.args.to c.args.n c.requires.within.0 c.requires.few)

pub returns : goal.returns
returns c =
    let v = chunk (c.args.to - 8) 8 c.args.bytes.now in
    let m = 8 - c.args.n in
    let long = length-chunk (c.args.to - 8) 8 c.args.bytes.now (omega (arith, c.requires.within)) in
    let fits = chunk-fits w8 (c.args.to - 8) 8 c.args.bytes.now c.type_inv.bytes in
    let lanes = lanes_kept c.args.n v c.requires.few long in
    let eight = length-padded m v (omega (arith, long)) ∙ long in
    let all = all_digits (padded m v) eight (fits-padded m v (omega (arith, long)) fits)
    (sym (ap (λ ds. mask_l (map (top 7) (zip2 (λ a b. cond (nat_lt a b) 255 0) (replicate 8 9) ds)) % 2 ^ 64) lanes) ∙ c.if-digits-ne0.false) in
    let value = lanes_value (padded m v) eight all in
    ap Some (c.from.ensures ∙ ap (λ ds. fold_l (λ s x. s + x) 0 (zip2 (λ x y. x * y) (map (λ x. x) ds) worth)) lanes ∙ sym value) ∙ (rw all refl)
    ∙ spelled-padded m v _ (omega (arith, long)) (last_of_eight c.args.bytes.now c.args.to c.args.n c.requires.within.0 c.requires.few)
