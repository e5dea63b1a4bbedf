-- Each code four times, side by side.
use Rattle.std.proofs.Common.{◌≡◌, ◌⊎◌, inl, inr, ℕ, ◌*◌, ◌/◌, ◌<◌, ◌≤◌, List, length, map, slice_get, option_map, sym, ap, ◌∙◌, arith}
use Rattle.std.proofs.lemmas.Bool.{cases_lt}
use Rattle.std.proofs.lemmas.Option.{slice_get-map, slice_get_past}
use Rattle.vcd_model.specs.Header.{Header}
use Rattle.vcd_view.proofs.LookUpLemmas.{codes_len}
use Rattle.vcd_view.specs.Views.{IsViewOf}
use Rattle.vcd_view.specs.declared.view.Code.{Code}
use Rattle.vcd_view.specs.declared.view.HeadView.{HeadView}
use Rattle.vcd_body.proofs.TableLemmas.{shown_are}
use Rattle.vcd_body.specs.Contents.{shown_code}
use Rattle.vcd_strobe.specs.Lines.{ArePlaces, place_of}

quarter : (code place : ℕ) → place < 4 → place_of code place / 4 ≡ code
quarter code place low = omega (arith, low)

pub places_are : (v : HeadView) (cs : List Code) (h : Header) → IsViewOf v h → length cs ≡ 4 * length v.codes.now
    → ((i : ℕ) → i < length cs → slice_get cs i ≡ slice_get v.codes.now (i / 4)) → ArePlaces (map (shown_code v.text.now) cs) h.codes
places_are v cs h views many each = record {
  few = (let few = views.few in let fewer = views.few_codes in omega (arith, few, fewer));
  each = λ code place low. by_order code place low (cases_lt code (length v.codes.now));
}
  where
    same : length v.codes.now ≡ length h.codes
    same = codes_len v.text.now v.codes.now h.codes views.codes

    by_order : (code place : ℕ) → place < 4 → (code < length v.codes.now) ⊎ (length v.codes.now ≤ code)
        → slice_get (map (shown_code v.text.now) cs) (place_of code place) ≡ slice_get h.codes code
    by_order code place low (inl within) =
        slice_get-map (shown_code v.text.now) cs (place_of code place)
        ∙ ap (option_map (shown_code v.text.now)) (each (place_of code place) (omega (arith, low, within, many)) ∙ ap (slice_get v.codes.now) (quarter code place low))
        ∙ sym (slice_get-map (shown_code v.text.now) v.codes.now code)
        ∙ ap (λ l. slice_get l code) (shown_are v h views)
    by_order code place low (inr past) =
        slice_get-map (shown_code v.text.now) cs (place_of code place)
        ∙ ap (option_map (shown_code v.text.now)) (slice_get_past cs (place_of code place) (omega (arith, low, past, many)))
        ∙ sym (slice_get_past h.codes code (omega (arith, past, same)))
