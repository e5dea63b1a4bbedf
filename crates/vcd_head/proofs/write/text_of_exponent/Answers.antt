use Rattle.vcd_head.proofs.Cited.{◌≡◌, pos, negsuc, rules, sym, ap}
use Rattle.vcd_head.proofs.Facts.{no_scale}
use Rattle.vcd_model.specs.Scales.{scale_text}
use Rattle.vcd_head.proofs.write.text_of_exponent.Goals as goal

pub returns-in-2 : goal.returns-in-2
unfolding scale_text
returns-in-2 c = let e : c.args.exponent ≡ pos 2 = search rules in sym (ap scale_text e)

pub returns-in-1 : goal.returns-in-1
unfolding scale_text
returns-in-1 c = let e : c.args.exponent ≡ pos 1 = search rules in sym (ap scale_text e)

pub returns-in-0 : goal.returns-in-0
unfolding scale_text
returns-in-0 c = let e : c.args.exponent ≡ pos 0 = search rules in sym (ap scale_text e)

pub returns-in-minus1 : goal.returns-in-minus1
unfolding scale_text
returns-in-minus1 c = let e : c.args.exponent ≡ negsuc 0 = search rules in sym (ap scale_text e)

pub returns-in-minus2 : goal.returns-in-minus2
unfolding scale_text
returns-in-minus2 c = let e : c.args.exponent ≡ negsuc 1 = search rules in sym (ap scale_text e)

pub returns-in-minus3 : goal.returns-in-minus3
unfolding scale_text
returns-in-minus3 c = let e : c.args.exponent ≡ negsuc 2 = search rules in sym (ap scale_text e)

pub returns-in-minus4 : goal.returns-in-minus4
unfolding scale_text
returns-in-minus4 c = let e : c.args.exponent ≡ negsuc 3 = search rules in sym (ap scale_text e)

pub returns-in-minus5 : goal.returns-in-minus5
unfolding scale_text
returns-in-minus5 c = let e : c.args.exponent ≡ negsuc 4 = search rules in sym (ap scale_text e)

pub returns-in-minus6 : goal.returns-in-minus6
unfolding scale_text
returns-in-minus6 c = let e : c.args.exponent ≡ negsuc 5 = search rules in sym (ap scale_text e)

pub returns-in-minus7 : goal.returns-in-minus7
unfolding scale_text
returns-in-minus7 c = let e : c.args.exponent ≡ negsuc 6 = search rules in sym (ap scale_text e)

pub returns-in-minus8 : goal.returns-in-minus8
unfolding scale_text
returns-in-minus8 c = let e : c.args.exponent ≡ negsuc 7 = search rules in sym (ap scale_text e)

pub returns-in-minus9 : goal.returns-in-minus9
unfolding scale_text
returns-in-minus9 c = let e : c.args.exponent ≡ negsuc 8 = search rules in sym (ap scale_text e)

pub returns-in-minus10 : goal.returns-in-minus10
unfolding scale_text
returns-in-minus10 c = let e : c.args.exponent ≡ negsuc 9 = search rules in sym (ap scale_text e)

pub returns-in-minus11 : goal.returns-in-minus11
unfolding scale_text
returns-in-minus11 c = let e : c.args.exponent ≡ negsuc 10 = search rules in sym (ap scale_text e)

pub returns-in-minus12 : goal.returns-in-minus12
unfolding scale_text
returns-in-minus12 c = let e : c.args.exponent ≡ negsuc 11 = search rules in sym (ap scale_text e)

pub returns-in-minus13 : goal.returns-in-minus13
unfolding scale_text
returns-in-minus13 c = let e : c.args.exponent ≡ negsuc 12 = search rules in sym (ap scale_text e)

pub returns-in-minus14 : goal.returns-in-minus14
unfolding scale_text
returns-in-minus14 c = let e : c.args.exponent ≡ negsuc 13 = search rules in sym (ap scale_text e)

pub returns-in-minus15 : goal.returns-in-minus15
unfolding scale_text
returns-in-minus15 c = let e : c.args.exponent ≡ negsuc 14 = search rules in sym (ap scale_text e)

pub returns-in_default : goal.returns-in_default
returns-in_default c = sym (no_scale c.args.exponent (
  search rules,
  (
    search rules,
    (
      search rules,
      (
        search rules,
        (
          search rules,
          (
            search rules,
            (
              search rules,
              (
                search rules,
                (
                  search rules,
                  (
                    search rules,
                    (
                      search rules,
                      (search rules, (search rules, (search rules, (search rules, (search rules, (search rules, (search rules, tt))))))),
                    ),
                  ),
                ),
              ),
            ),
          ),
        ),
      ),
    ),
  ),
))
