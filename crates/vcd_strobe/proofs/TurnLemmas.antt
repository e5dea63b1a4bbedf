-- Whether a change is a turn of a clock, by the digits in two places of its code.
use Rattle.std.proofs.Common.{◌≡◌, ◌≢◌, ◌⊎◌, inl, inr, ℕ, ◌+◌, ◌-◌, ◌<◌, ◌==◌, ◌&&◌, Bool, true, false, cond, List, [], ◌∷◌, length, reverse, get_or, slice_get, Option, Some, None, refl, sym, ap, ap₂, ◌∙◌, arith}
use Rattle.std.proofs.lemmas.Bool.{cases_eq, eq-eqb, ne_eqb}
use Rattle.std.proofs.lemmas.List.{get_or-reverse, length-reverse}
use Rattle.std.proofs.lemmas.Option.{same_Some, slice_get-get_or}
use Rattle.std.proofs.lemmas.Slice.Eq.{bytes_eq-Decides}
use Rattle.std.specs.List.{list_any}
use Rattle.std.specs.Prelude.{option_and_then}
use Rattle.std.specs.Str.{byte}
use Rattle.vcd_model.specs.Declarations.{IdCode, same_code}
use Rattle.vcd_model.specs.History.{final_value}
use Rattle.vcd_model.specs.Items.{BodyItem, Change}
use Rattle.vcd_model.specs.Strobe.{Clock as ModelClock, digit_after, digit_before, has_digit, is_turn, is_turn_of}
use Rattle.vcd_model.specs.Values.{Value, value_of}
use Rattle.vcd_view.specs.declared.view.HeadView.{HeadView}
use Rattle.vcd_body.specs.Contents.{codes_shown, held_at, value_in}
use Rattle.vcd_body.specs.Kept.{digit_in, is_digit, value_at_size}
use Rattle.vcd_body.specs.declared.values.table.Table.{Table}
use Rattle.vcd_strobe.proofs.LineSteps.{shown_there}
use Rattle.vcd_strobe.specs.Clocks.{AreClocks, IsClock, digit_at, goes, turns_at}
use Rattle.vcd_strobe.specs.Kept.{IsFull}
use Rattle.vcd_strobe.specs.Lines.{ArePlaces, in_places, place_of}
use Rattle.vcd_strobe.specs.declared.clocks.Clock.{Clock}

-- a digit by its place from the right, and by its index from the left
same_digit : (o : Option ℕ) (d : ℕ) → elim o [ Some digit ↦ digit == d | None ↦ false ] ≡ is_digit o d
same_digit None d = refl
same_digit (Some e) d = by_case (cases_eq e d)
  where
    by_case : (e ≡ d) ⊎ (e ≢ d) → (e == d) ≡ (d == e)
    by_case (inl f) = eq-eqb e d f ∙ sym (eq-eqb d e (sym f))
    by_case (inr apart) = ne_eqb e d apart ∙ sym (ne_eqb d e (λ f. apart (sym f)))

mirrored : (ds : List ℕ) (index place : ℕ) → index + 1 + place ≡ length ds → slice_get (reverse ds) place ≡ slice_get ds index
mirrored ds index place is =
    let long = length-reverse ds in
    let other : length ds - 1 - place ≡ index = omega (arith, is) in
    slice_get-get_or (reverse ds) place 0 (omega (arith, is, long))
    ∙ ap Some (get_or-reverse ds place 0 (omega (arith, is)) ∙ ap (λ i. get_or ds i 0) other)
    ∙ sym (slice_get-get_or ds index 0 (omega (arith, is)))

pub digit_is : (size index place d : ℕ) (v : Option Value) → IsFull size v → index + 1 + place ≡ size → has_digit place d v ≡ is_digit (digit_in v index) d
digit_is size index place d None full is = refl
digit_is size index place d (Some (Value.Real text)) full is = refl
digit_is size index place d (Some (Value.Bits ds)) full is =
    same_digit (slice_get (reverse ds) place) d ∙ ap (λ o. is_digit o d) (mirrored ds index place (is ∙ sym full))

module _ (v : HeadView) (t : Table) (codes : List IdCode) (places : ArePlaces (codes_shown v) codes) (distinct : (i j : ℕ) (a b : IdCode)
    → slice_get codes i ≡ Some a → slice_get codes j ≡ Some b → same_code a b ≡ true → i ≡ j) (items : List BodyItem) (d : Change) (code from to : ℕ)
    (there : slice_get codes code ≡ Some d.code) (from_low : from < 4) (to_low : to < 4)
    (before : in_places t d.code.size code from ≡ final_value items d.code) (after : in_places t d.code.size code to ≡ Some (value_of d))
    (full : IsFull d.code.size (final_value items d.code)) (filled : IsFull d.code.size (Some (value_of d))) where
  value_there : (p : ℕ) → p < 4 → value_in (codes_shown v) t (place_of code p) ≡ in_places t d.code.size code p
  value_there p lt = ap (option_and_then (λ (c : IdCode). value_at_size c.size (held_at t (place_of code p)))) (shown_there v codes code d.code places there p lt)

  one_clock : (c : Clock) (k : ModelClock) → IsClock codes c k → turns_at v t code from to c ≡ is_turn_of k items (BodyItem.Changes d)
  one_clock c k is = by_code (cases_eq c.code code)
    where
      by_code : (c.code ≡ code) ⊎ (c.code ≢ code) → turns_at v t code from to c ≡ is_turn_of k items (BodyItem.Changes d)
      by_code (inl e) =
          let one : d.code ≡ k.code = same_Some d.code k.code (sym there ∙ ap (slice_get codes) (sym e) ∙ is.there) in
          let sized : c.index + 1 + k.place ≡ d.code.size = is.bit ∙ ap (λ (y : IdCode). y.size) (sym one) in
          let first = λ (x : ℕ). digit_is d.code.size c.index k.place x (final_value items d.code) full sized in
          let last = λ (x : ℕ). digit_is d.code.size c.index k.place x (Some (value_of d)) filled sized in
          let was = ap (λ o. digit_in o c.index) (value_there from from_low ∙ before) in
          let now = ap (λ o. digit_in o c.index) (value_there to to_low ∙ after) in
          ap (λ b. b && goes c.falls (digit_at v t code from c.index) (digit_at v t code to c.index)) (eq-eqb c.code code e)
          ∙ ap₂ (goes c.falls) was now ∙ ap (λ b. goes b (digit_in (final_value items d.code) c.index) (digit_in (Some (value_of d)) c.index)) is.falls
          ∙ by_falls k.falls first last
          ∙ ap (λ (y : IdCode). same_code y d.code && has_digit k.place (digit_before k) (final_value items y) && has_digit k.place (digit_after k) (Some (value_of d))) one
        where
          itself : same_code d.code d.code ≡ true
          itself = (bytes_eq-Decides d.code.text d.code.text).1 refl

          by_falls : (b : Bool) → ((x : ℕ) → has_digit k.place x (final_value items d.code) ≡ is_digit
              (digit_in (final_value items d.code) c.index) x) → ((x : ℕ) → has_digit k.place x (Some (value_of d)) ≡ is_digit
              (digit_in (Some (value_of d)) c.index) x)
              → goes b (digit_in (final_value items d.code) c.index) (digit_in (Some (value_of d)) c.index) ≡
              (same_code d.code d.code && has_digit k.place (cond b (byte "1") (byte "0")) (final_value items d.code) && has_digit k.place
              (cond b (byte "0") (byte "1")) (Some (value_of d)))
          by_falls true first last = sym (ap (λ b. b && has_digit k.place (byte "1") (final_value items d.code) && has_digit k.place (byte "0")
              (Some (value_of d))) itself ∙ ap₂ (λ x y. x && y) (first (byte "1")) (last (byte "0")))
          by_falls false first last = sym (ap (λ b. b && has_digit k.place (byte "0") (final_value items d.code) && has_digit k.place (byte "1")
              (Some (value_of d))) itself ∙ ap₂ (λ x y. x && y) (first (byte "0")) (last (byte "1")))
      by_code (inr apart) =
          ap (λ b. b && goes c.falls (digit_at v t code from c.index) (digit_at v t code to c.index)) (ne_eqb c.code code apart)
          ∙ sym (ap (λ b. b && has_digit k.place (digit_before k) (final_value items k.code) && has_digit k.place (digit_after k) (Some (value_of d))) (differ (same_code k.code d.code) refl))
        where
          differ : (b : Bool) → same_code k.code d.code ≡ b → b ≡ false
          differ true e = absurd (apart (distinct c.code code k.code d.code is.there there e))
          differ false e = refl

  pub turn_is : (clocks : List Clock) (ks : List ModelClock) → AreClocks codes clocks ks → list_any (turns_at v t code from to) clocks ≡ is_turn ks items (BodyItem.Changes d)
  turn_is [] [] are = refl
  turn_is [] (k ∷ ks) are = absurd are
  turn_is (c ∷ clocks) [] are = absurd are
  turn_is (c ∷ clocks) (k ∷ ks) are = rw (one_clock c k are.0, turn_is clocks ks are.1) refl
