use Rattle.vcd_body.proofs.Cited.{IfSome, Option, Some, length, drop, ap, subst, arith, option_map, Header, Finds, IsSized, IsViewOf, Found}
use Rattle.vcd_body.proofs.Facts.{real_passes, real_sound, found_all, found_named}
use Rattle.vcd_body.proofs.ahead.real_code.Goals as goal

pub returns : goal.returns
returns c = found_all c.find_sized.result (λ found is.
    let t = c.args.token.now in
    let code = c.args.code.now in
    let finds : (h : Header) → IsViewOf c.args.view h → Finds h.codes code (Some found.position) = λ h v. subst
    (λ (o : Option Found). Finds h.codes code (option_map (λ f. f.position) o)) is (c.find_sized.ensures.found h v) in
    let x = subst (λ (o : Option Found). IfSome o (IsSized c.args.view.codes.now)) is c.find_sized.ensures.sized in
    let n = ap length c.in-Ok.ensures.text in
    let some = c.in-Ok.ensures.few.0 in
    let most = c.in-Ok.ensures.few.1 in
    record {
      code = λ h v.
          let f = finds h v in (
            f.0,
            f.1,
            λ earlier.
                let b = c.in-Ok.ensures.opens h.codes earlier in
                let p = real_passes h.codes earlier t c.requires code f.0 f.2 in
                record { begins = b.0; open_after = b.1; goes_on = p.0; whole = p.1 },
          );
      sound = real_sound c.args.view.codes.now (drop 1 t) found.position x.0 x.1 (omega (arith, n, some)) (omega (arith, n, most));
      names = found_named c.args.view found.position code finds;
      sized = x;
    })
