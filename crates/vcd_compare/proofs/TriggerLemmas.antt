-- The last triggers of events, with one change more.
use Rattle.vcd_compare.proofs.Cited.{◌≡◌, ◌≢◌, ◌⊎◌, inl, inr, ℕ, ◌<◌, ◌≤◌, ◌*◌, ◌+◌, ◌==◌, Bool, true, false, not, cond, ◌&&◌, ◌||◌, List, [], ◌∷◌, ◌++◌, length, slice_get, get_or, Option, Some, None, refl, sym, ap, subst, ◌∙◌, arith, IfSome, count_by, is_none, is_some, slice_set, list_any, cases_lt, eqb-true, eqb-false, eq-eqb, ne_eqb, le-ltb, lt-ltb, list_any-append, same_Some, slice_get_cases, or-false, or-true, IdCode, same_code, Header, gives_to, BodyItem, Entry, entries, entry_after, is_begin, is_end_of_section, leaves_open, time_after, is_triggered, entries-append, bytes_eq-Decides, parts, IsViewOf, HeadView, same_place, AreRegsAfter, Regs, get_other, get_set, AreTriggers, IsLastTrigger, is_last, triggers_with}
use Rattle.vcd_compare.proofs.OpenGrows.{triggered_other}

-- the registers say whether a section is open
pub section_open : (items : List BodyItem) (r : Regs) → AreRegsAfter items r → leaves_open items ≡ is_some r.section
section_open items r known = by_test (is_some r.section) known.ended
  where
    by_test : (b : Bool) → count_by is_begin items ≡ count_by is_end_of_section items + cond b 1 0 → leaves_open items ≡ b
    by_test true e = lt-ltb (count_by is_end_of_section items) (count_by is_begin items) (omega arith)
    by_test false e = le-ltb (count_by is_end_of_section items) (count_by is_begin items) (omega arith)

module _ (items : List BodyItem) (x : BodyItem) (c : IdCode) (gives : gives_to c x ≡ true) where
  -- one more entry counts if it is outside sections, at its own time
  triggered_more : (t : ℕ) → is_triggered 1 (items ++ x ∷ []) c t ≡ (is_triggered 1 items c t || (not (leaves_open items) && 1 * time_after items == t))
  triggered_more t =
      let test = λ (e : Entry). gives_to c e.item && not e.inside && 1 * e.time == t in
      ap (list_any test) (entries-append items (x ∷ [])) ∙ list_any-append test (entries items) (entry_after items x ∷ [])
      ∙ rw gives (ap (λ b. is_triggered 1 items c t || b) (or-false (not (leaves_open items) && 1 * time_after items == t)))

  -- inside a section nothing is triggered
  pub trigger_stays : (o : Option ℕ) → leaves_open items ≡ true → time_after (items ++ x ∷ []) ≡ time_after items → IsLastTrigger items c o → IsLastTrigger (items ++ x ∷ []) c o
  trigger_stays o inside same is = record {
    low = rw same is.low;
    is = λ t le. triggered_more t ∙ rw inside (or-false (is_triggered 1 items c t) ∙ is.is t (rw (← same) le));
  }

  -- outside of sections it is
  pub trigger_now : (o : Option ℕ) → leaves_open items ≡ false → time_after (items ++ x ∷ []) ≡ time_after items → IsLastTrigger items c o
      → IsLastTrigger (items ++ x ∷ []) c (Some (time_after items))
  trigger_now o closed same is = record {
    low = omega arith;
    is = λ t le. triggered_more t ∙ rw closed (by_order t (cases_lt (time_after items) t) (rw (← same) le));
  }
    where
      before : (o : Option ℕ) (t : ℕ) → IfSome o (λ u. u ≤ time_after items) → time_after items < t → is_last o t ≡ false
      before None t low l = refl
      before (Some u) t low l = ne_eqb u t (λ e. omega (arith, low, l, e))

      by_order : (t : ℕ) → (time_after items < t) ⊎ (t ≤ time_after items) → time_after items ≤ t
          → (is_triggered 1 items c t || (true && 1 * time_after items == t)) ≡ (time_after items == t)
      by_order t (inl later) le =
          let one : 1 * time_after items ≡ time_after items = omega arith in
          rw (is.is t le ∙ before o t is.low later, one) refl
      by_order t (inr now) le =
          let one : 1 * time_after items ≡ t = omega arith in
          let same : time_after items ≡ t = omega arith in
          rw (eq-eqb (1 * time_after items) t one, eq-eqb (time_after items) t same) (or-true (is_triggered 1 items c t))

-- a change gives no other code anything
pub gives_no_other : (v : HeadView) (h : Header) → IsViewOf v h → (code : ℕ) (a : IdCode) (x : BodyItem) → slice_get h.codes code ≡ Some a
    → gives_to a x ≡ true → (other : ℕ) (d : IdCode) → slice_get h.codes other ≡ Some d → other ≢ code → gives_to d x ≡ false
gives_no_other v h views code a x declared gives other d there apart = by_item x gives
  where
    by_code : (y : IdCode) → same_code a y ≡ true → (b : Bool) → same_code d y ≡ b → b ≡ false
    by_code y one true two =
        let place = same_place h.codes (parts v).index other code d a views.index there declared ((bytes_eq-Decides d.text y.text).0 two ∙ sym ((bytes_eq-Decides a.text y.text).0 one)) in
        absurd (apart place)
    by_code y one false two = refl

    by_item : (y : BodyItem) → gives_to a y ≡ true → gives_to d y ≡ false
    by_item (BodyItem.Changes change) one = by_code change.code one (same_code d change.code) refl
    by_item (BodyItem.Time t) one = refl
    by_item (BodyItem.Begin s) one = refl
    by_item BodyItem.End one = refl

-- the last triggers of all events after it
module _ (v : HeadView) (h : Header) (views : IsViewOf v h) (items : List BodyItem) (x : BodyItem) (code : ℕ) (a : IdCode)
    (declared : slice_get h.codes code ≡ Some a) (gives : gives_to a x ≡ true) (same : time_after (items ++ x ∷ []) ≡ time_after items) (r : Regs)
    (known : AreRegsAfter items r) where
  last_stays : (d : IdCode) (o : Option ℕ) → gives_to d x ≡ false → IsLastTrigger items d o → IsLastTrigger (items ++ x ∷ []) d o
  last_stays d o none is = record { low = rw same is.low; is = λ t le. triggered_other items x d none t ∙ is.is t (rw (← same) le) }

  abbrev HasLast : List (Option ℕ) → ℕ → IdCode → Type 0
  HasLast ts index d = (o : Option ℕ) × (slice_get ts index ≡ Some o) × IsLastTrigger (items ++ x ∷ []) d o

  -- of the code itself
  own_trigger : (ts : List (Option ℕ)) (o : Option ℕ) → slice_get ts code ≡ Some o → IsLastTrigger items a o → (b : Bool) → is_none r.section ≡ b
      → HasLast (cond b (slice_set ts code (Some r.time)) ts) code a
  own_trigger ts o at is true closed =
      let now : IsLastTrigger (items ++ x ∷ []) a (Some (time_after items)) = trigger_now items x a gives o (section_open items r known ∙ none_is r.section closed) same is in (
        Some r.time,
        get_set ts code (Some r.time) (below (slice_get_cases ts code).1),
        subst (λ t. IsLastTrigger (items ++ x ∷ []) a (Some t)) (sym known.time_is) now,
      )
    where
      below : ((y : Option ℕ) × (code < length ts) × (slice_get ts code ≡ Some y) × (get_or ts code y ≡ y)) ⊎ ((length ts ≤ code) × (slice_get ts code ≡ None)) → code < length ts
      below (inl within) = within.1
      below (inr past) = let none = sym past.1 ∙ at in cc

      none_is : {X : Type 0} (s : Option X) → is_none s ≡ true → is_some s ≡ false
      none_is None e = refl
      none_is (Some y) e = cc
  own_trigger ts o at is false inside = (o, at, trigger_stays items x a gives o (section_open items r known ∙ some_is r.section inside) same is)
    where
      some_is : {X : Type 0} (s : Option X) → is_none s ≡ false → is_some s ≡ true
      some_is None e = cc
      some_is (Some y) e = refl

  -- of another code
  other_trigger : (ts : List (Option ℕ)) (index : ℕ) (d : IdCode) (o : Option ℕ) → index ≢ code → slice_get ts index ≡ Some o
      → IsLastTrigger items d o → gives_to d x ≡ false → (b : Bool) → HasLast (cond b (slice_set ts code (Some r.time)) ts) index d
  other_trigger ts index d o apart at is none true = (o, get_other ts code index (Some r.time) apart ∙ at, last_stays d o none is)
  other_trigger ts index d o apart at is none false = (o, at, last_stays d o none is)

  pub triggers_after : (ts : List (Option ℕ)) (event : Bool) → event ≡ a.event → AreTriggers ts h items → AreTriggers (triggers_with event r code ts) h (items ++ x ∷ [])
  triggers_after ts event event_is triggers index d there d_event = by_place (index == code) refl
    where
      its : (o : Option ℕ) × (slice_get ts index ≡ Some o) × IsLastTrigger items d o
      its = triggers index d there d_event

      by_place : (b : Bool) → (index == code) ≡ b → HasLast (triggers_with event r code ts) index d
      by_place true e =
          let place = eqb-true index code e in
          let one : d ≡ a = same_Some d a (sym there ∙ ap (slice_get h.codes) place ∙ declared) in
          let is_event : event ≡ true = event_is ∙ ap (λ (y : IdCode). y.event) (sym one) ∙ d_event in
          let own = own_trigger ts its.0 (ap (slice_get ts) (sym place) ∙ its.1) (subst (λ (y : IdCode). IsLastTrigger items y its.0) one its.2) (is_none r.section) refl in
          rw (place, one, is_event) own
      by_place false e =
          let apart = eqb-false index code e in
          other_trigger ts index d its.0 apart its.1 its.2 (gives_no_other v h views code a x declared gives index d there apart) (event && is_none r.section)
