-- What is due with a change that was taken ahead, which is no event's: the line of its time, unless
-- that was written last, and its own line.
use Rattle.vcd_merge.proofs.Cited.{◌≡◌, ◌≢◌, ◌&&◌, false, ap, sym, subst, ◌∙◌, Err, Ok, ℕ, ◌+◌, ◌*◌, ◌%◌, ◌^◌, Some, Option, List, Result, arith, refl, new_code, time_due, Change, leaves_open, time_after, line_due, time_written, Device, Takes, WriteFailed, appends-first, takes-twice, parts, Code, IsSized, model_form, line_under, Form, Regs, if_ok, PutsDue}
use Rattle.vcd_body.specs.declared.item.Item.TheVariants as item
use Rattle.vcd_merge.proofs.MergeItem.{no_event, number_fits, sized_line}

abbrev done : Result (Unit {0}) WriteFailed
done = Ok tt

abbrev failed : WriteFailed → Result (Unit {0}) WriteFailed
failed e = Err e

module _ (codes : List Code) (code size : ℕ) (form : Form) (text : List ℕ) (sized : IsSized codes (record { position = code; size_or_zero = size }))
    (some : size ≢ 0) (r : Regs) (time number : ℕ) (written written' : Option ℕ) (out : Device) where
  -- the write of the line of its time failed
  pub due_failed : (out' : Device) (e : WriteFailed) → Takes out out' (time_due written time) (failed e)
      → PutsDue {A = Unit {0}} codes text (item.Change code form) r time number written written' out out' (failed e)
  due_failed out' e t = λ v scale first h items x same views known time_is number_is few is.
      let y : Change = record { code = is.0; form = model_form form; text = text } in
      let here = subst (λ (l : List Code). IsSized l (record { position = code; size_or_zero = size })) (sym same) sized in
      let left : (is.0.event && leaves_open items) ≡ false = rw (no_event code size (parts v) h is.0 views is.1 here some) refl in
      rw (is.2, line_due scale first h items y written left) (appends-first _ _ (time_due written (scale * time_after items)) _ (rw time_is at t), tt)

  -- that line was written, or was not due, and its own line was put
  pub due_put : (mid out' : Device) (result : Result (Unit {0}) WriteFailed) → Takes out mid (time_due written time) done → written' ≡ Some time
      → Takes mid out' (line_under (new_code ((number + code) % 2 ^ 64)) size false form text) result
      → PutsDue {A = Unit {0}} codes text (item.Change code form) r time number written written' out out' result
  due_put mid out' result t noted l = λ v scale first h items x same views known time_is number_is few is.
      let y : Change = record { code = is.0; form = model_form form; text = text } in
      let here = subst (λ (l : List Code). IsSized l (record { position = code; size_or_zero = size })) (sym same) sized in
      let left : (is.0.event && leaves_open items) ≡ false = rw (no_event code size (parts v) h is.0 views is.1 here some) refl in
      let fits = number_fits h code is.0 is.1 first few in
      let wrapped = (number + code) % 2 ^ 64 in
      let sum : wrapped ≡ first + code = omega (arith, number_is, fits) in
      let line = sized_line code size (parts v) h is.0 views is.1 here some first wrapped (model_form form) text sum in
      rw (is.2, line_due scale first h items y written left) (
        takes-twice _ _ _ (time_due written (scale * time_after items)) _ result (rw time_is at t) (rw line at l),
        if_ok result _ (noted ∙ ap (λ (n : ℕ). Some n) time_is ∙ time_written scale first h items y written left),
      )
