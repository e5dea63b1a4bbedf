use Rattle.vcd_words.proofs.Cited.{◌≡◌, List, ℕ, map, Ok, Err, ap, ap₂, sym, ◌∙◌, rules, Want, do_rise, Moment, OutOfMemory, has_units, times_with, parts, some_names}
use Rattle.vcd_words.proofs.Facts.{asked_of, long_units, good_rises, put_together, some_times, times_kept}
use Rattle.vcd_model.specs.Words as model
use Rattle.vcd_words.proofs.moment_word.sample_of.Goals as goal

pub returns-in_err-numbers : goal.returns-in_err-numbers
returns-in_err-numbers c =
    let same : c.from_residual-in_err-numbers.result ≡ Err OutOfMemory = search rules in
    let names = some_names c.args.names in
    let found = c.in_ok-check_times.ensures.times names in
    rw same (record { want = tt; asked = tt; fault = (Want.Sample found.0 names, ap (model.sample_of names) found.1 ∙ found.2) })

pub returns-in_err-units : goal.returns-in_err-units
returns-in_err-units c =
    let same : c.from_residual-in_err-units.result ≡ Err OutOfMemory = search rules in
    let names = some_names c.args.names in
    let found = c.in_ok-check_times.ensures.times names in
    rw same (record { want = tt; asked = tt; fault = (Want.Sample found.0 names, ap (model.sample_of names) found.1 ∙ found.2) })

pub returns-in_err-names : goal.returns-in_err-names
returns-in_err-names c =
    let same : c.from_residual-in_err-names.result ≡ Err OutOfMemory = search rules in
    let names = some_names c.args.names in
    let found = c.in_ok-check_times.ensures.times names in
    rw same (record { want = tt; asked = tt; fault = (Want.Sample found.0 names, ap (model.sample_of names) found.1 ∙ found.2) })

pub returns : goal.returns
returns c =
    let names = some_names c.args.names in
    let found = c.in_ok-check_times.ensures.times names in
    let kept = times_kept (parts c.args.at.now) found.0 found.1 in
    let numbers = c.in_ok-numbers.ensures ∙ ap (map (λ (m : Moment). m.number)) kept in
    let units = c.in_ok-units.ensures ∙ ap (map (λ (m : Moment). m.unit)) kept in
    let times = ap₂ times_with numbers units ∙ put_together found.0 in
    let some = some_times c.args.at.now found.0 c.in_ok-numbers.numbers found.1 numbers in
    record {
      want = ap (model.sample_of names) found.1 ∙ found.2 ∙ ap₂ (λ (ms : List Moment) (ns : List (List ℕ)). Ok (Want.Sample ms ns)) (sym times) (sym c.in_ok-names.ensures);
      asked = asked_of c.in_ok-numbers.numbers c.in_ok-units.units (long_units _ _ found.0 numbers units) some (λ none. ap do_rise numbers
          ∙ good_rises names found.0 found.2 (ap has_units (sym units) ∙ none));
      fault = tt;
    }
