use Rattle.vcd_body.proofs.Cited.{◌≡◌, ◌<◌, ◌≤◌, ◌⊎◌, ◌-◌, ℕ, inl, inr, refl, arith, ap, get_or, cases_lt, length-map, to_ascii_lowercase}
use Rattle.vcd_body.proofs.Facts.{same_lead}
use Rattle.vcd_body.proofs.change.lead_left_out.Goals as goal

pub returns-then-digits-lt32 : goal.returns-then-digits-lt32
returns-then-digits-lt32 c = let m = length-map c.args.digits.now to_ascii_lowercase in (omega (arith, m, c.requires), λ size fits. refl)

pub returns : goal.returns
returns c =
    let l = c.args.digits.now in
    let e = c.saturating_sub.ensures in
    same_lead c.saturating_sub.result (get_or l 0 0) l (omega (arith, e, c.same_as_first.ensures.few))
    (λ j le. by_place j (omega (arith, e, le)) (cases_lt j c.same_as_first.result)) (c.type_inv.digits 0).fits c.if-digits-eq49.false
  where
    by_place : (j : ℕ) → j ≤ c.same_as_first.result - 1 → (j < c.same_as_first.result) ⊎ (c.same_as_first.result ≤ j) → get_or c.args.digits.now j 0 ≡ get_or c.args.digits.now 0 0
    by_place j le (inl less) = c.same_as_first.ensures.same j less
    by_place j le (inr past) = let z : j ≡ 0 = omega arith in ap (λ i. get_or c.args.digits.now i 0) z
