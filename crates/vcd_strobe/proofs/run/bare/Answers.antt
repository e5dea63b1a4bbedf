use Rattle.std.proofs.Common.{length, refl, ap, arith}
use Rattle.vcd_strobe.proofs.run.bare.Goals as goal

pub returns : goal.returns
returns c = λ h views. record {
  rows = views.rows;
  codes = views.codes;
  index = views.index;
  date = refl;
  version = refl;
  scale = refl;
  scaled = tt;
  held = (let held = views.held in let date = ap length views.date in let version = ap length views.version in omega (arith, held, date, version));
  texts = views.texts;
  look_up = views.look_up;
  sizes = views.sizes;
  few = views.few;
  few_codes = views.few_codes;
}
