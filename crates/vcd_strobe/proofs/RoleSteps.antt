-- The role of a code with one item more, and after an edge.
use Rattle.std.proofs.Common.{◌≡◌, ℕ, ◌+◌, ◌<◌, ◌≤◌, Bool, true, false, cond, ◌&&◌, is_none, List, [], ◌∷◌, ◌++◌, map, Option, Some, None, IfSome, refl, sym, ap, ap₂, subst, ◌∙◌, arith, ◌⊎◌, inl, inr, unwrap_or}
use Rattle.std.specs.List.{last_or}
use Rattle.std.proofs.lemmas.Bool.{cases_lt, eq-eqb, ne_eqb}
use Rattle.std.proofs.lemmas.Slice.Eq.{bytes_eq-Decides}
use Rattle.std.specs.Str.{byte}
use Rattle.vcd_model.specs.Bytes.{as_line}
use Rattle.vcd_model.specs.Cut.{line_if_set}
use Rattle.vcd_model.specs.Declarations.{IdCode, same_code}
use Rattle.vcd_model.specs.History.{final_value, gives_to}
use Rattle.vcd_model.specs.Items.{BodyItem, Change, leaves_open, open_section, time_after}
use Rattle.vcd_model.specs.Strobe.{code_line, is_triggered, is_vars, last_sampled, last_time, same_state, sampled}
use Rattle.vcd_model.specs.Values.{Value, value_of}
use Rattle.vcd_model.proofs.FinalValues.{final_new, final_other}
use Rattle.vcd_model.proofs.Times.{time_after-append}
use Rattle.vcd_strobe.proofs.Sampled.{sampled_later, sampled_other, sampled_start, sampled_stays, time_on, time_still}
use Rattle.vcd_strobe.proofs.Triggers.{triggered_before, triggered_from, triggered_inside, triggered_never, triggered_now, triggered_other, triggered_past, triggered_up}
use Rattle.vcd_strobe.specs.Kept.{HasTriggers, HasValues, IsFull, IsRole, role_line}
use Rattle.vcd_strobe.specs.Roles.{changed, enlisted, has_lines, is_at, is_due, is_followed, is_idle, is_listed, settle, settled, triggered}
use Rattle.vcd_strobe.specs.declared.role.Role.{Role}
use Rattle.vcd_strobe.specs.declared.role.Wanted.{Wanted}
use Rattle.vcd_strobe.specs.declared.role.Wanted.TheVariants.{Idle, Listed, Never, Silent}

-- a moment that is not later than all items is not a later time
not_later : (o : Option ℕ) (n t : ℕ) → n < t → IfSome o (λ u. u ≤ n) → is_at o t ≡ false
not_later None n t lt h = refl
not_later (Some u) n t lt h = ne_eqb u t (λ e. omega (arith, h, lt, e))

still_low : (o : Option ℕ) (n m : ℕ) → n ≤ m → IfSome o (λ u. u ≤ n) → IfSome o (λ u. u ≤ m)
still_low None n m le h = tt
still_low (Some u) n m le h = omega (arith, h, le)

module _ (at : ℕ → Option Value) (es : List (List BodyItem)) (items : List BodyItem) (c : IdCode) (lines : Bool) (r : Role) (is : IsRole at es items c lines r) where
  -- ---- an item that gives the code nothing, at the time of all items
  module _ (x : BodyItem) (time : time_after (items ++ x ∷ []) ≡ time_after items) where
    values_other : gives_to c x ≡ false → HasValues at es items c r → HasValues at es (items ++ x ∷ []) c r
    values_other none v =
        let final = final_other c items x none in
        let before = sampled_other items x c time none in
        record {
          now_is = v.now_is ∙ sym final;
          settled_is = ap (λ t. at (settled r t)) time ∙ v.settled_is ∙ sym before;
          written_is = v.written_is;
          idle = λ e. let i = v.idle e in (i.0 ∙ sym final, before ∙ i.1 ∙ sym final);
          full = subst (IsFull c.size) (sym final) v.full;
          fresh = λ e. v.fresh (sym final ∙ e);
        }

    triggers_same : ((from to : ℕ) → is_triggered (items ++ x ∷ []) c from to ≡ is_triggered items c from to)
        → HasTriggers es items c r (time_after items) → HasTriggers es (items ++ x ∷ []) c r (time_after (items ++ x ∷ []))
    triggers_same same v = subst (HasTriggers es (items ++ x ∷ []) c r) (sym time) (record {
      here = same (time_after items) (1 + time_after items) ∙ v.here;
      all = λ e. same (last_time es) (1 + time_after items) ∙ v.all e;
      due = λ e. same (last_time es) (time_after items) ∙ v.due e;
    })

    pub role_other : gives_to c x ≡ false → IsRole at es (items ++ x ∷ []) c lines r
    role_other none = record {
      within = is.within;
      low = subst (λ t. IfSome r.since (λ u. u ≤ t)) (sym time) is.low;
      lines_are = is.lines_are;
      values = λ e f. values_other none (is.values e f);
      triggers = λ e f. triggers_same (λ from to. triggered_other items x c from to none) (is.triggers e f);
    }

    -- a code whose values are not kept
    pub role_ignored : is_followed r.wanted ≡ false → IsRole at es (items ++ x ∷ []) c lines r
    role_ignored ignored = record {
      within = is.within;
      low = subst (λ t. IfSome r.since (λ u. u ≤ t)) (sym time) is.low;
      lines_are = is.lines_are;
      values = λ e f. absurd (let no = sym f ∙ ignored in cc);
      triggers = λ e f. absurd (let no = sym f ∙ ignored in cc);
    }

    -- an event inside a section
    pub role_inside : c.event ≡ true → leaves_open items ≡ true → IsRole at es (items ++ x ∷ []) c lines r
    role_inside event inside = record {
      within = is.within;
      low = subst (λ t. IfSome r.since (λ u. u ≤ t)) (sym time) is.low;
      lines_are = is.lines_are;
      values = λ e f. absurd (let no = sym e ∙ event in cc);
      triggers = λ e f. triggers_same (λ from to. triggered_inside items x c from to inside) (is.triggers e f);
    }

  -- ---- a timestamp
  module _ (t : ℕ) (forth : time_after items ≤ t) where
    abbrev after : List BodyItem
    after = items ++ BodyItem.Time t ∷ []

    now : time_after after ≡ t
    now = time_on items t forth

    final : final_value after c ≡ final_value items c
    final = final_other c items (BodyItem.Time t) refl

    values_later : time_after items < t → HasValues at es items c r → HasValues at es after c r
    values_later lt v =
        let before = sampled_later items t c lt in
        record {
          now_is = v.now_is ∙ sym final;
          settled_is = ap (λ u. at (settled r u)) now ∙ ap (λ b. at (cond b r.before r.now)) (not_later r.since (time_after items) t lt is.low) ∙ v.now_is ∙ sym before;
          written_is = v.written_is;
          idle = λ e. let i = v.idle e in (i.0 ∙ sym final, before ∙ sym final);
          full = subst (IsFull c.size) (sym final) v.full;
          fresh = λ e. v.fresh (sym final ∙ e);
        }

    triggers_later : time_after items < t → HasTriggers es items c r (time_after items) → HasTriggers es after c r (time_after after)
    triggers_later lt v = subst (HasTriggers es after c r) (sym now) (record {
      here = triggered_other items (BodyItem.Time t) c t (1 + t) refl ∙ triggered_past items c t (1 + t) lt ∙ sym (not_later r.since (time_after items) t lt is.low);
      all = λ e. triggered_other items (BodyItem.Time t) c (last_time es) (1 + t) refl
          ∙ triggered_up items c (last_time es) (1 + t) (1 + time_after items) (omega (arith, lt)) (omega arith) ∙ v.all e;
      due = λ e.
          triggered_other items (BodyItem.Time t) c (last_time es) t refl ∙ triggered_up items c (last_time es) t (1 + time_after items) lt (omega arith) ∙ v.all e
          ∙ ap (λ b. cond b r.early (is_listed r.wanted)) (sym (not_later r.since (time_after items) t lt is.low));
    })

    pub role_time : IsRole at es after c lines r
    role_time = by_order (cases_lt (time_after items) t)
      where
        by_order : (time_after items < t) ⊎ (t ≤ time_after items) → IsRole at es after c lines r
        by_order (inl lt) = record {
          within = is.within;
          low = still_low r.since (time_after items) (time_after after) (time_after-append items (BodyItem.Time t ∷ [])) is.low;
          lines_are = is.lines_are;
          values = λ e f. values_later lt (is.values e f);
          triggers = λ e f. triggers_later lt (is.triggers e f);
        }
        by_order (inr le) = role_other (BodyItem.Time t) (now ∙ omega (arith, le, forth)) refl

  -- ---- a change of the code
  module _ (d : Change) (gives : same_code c d.code ≡ true) where
    abbrev changes : List BodyItem
    changes = items ++ BodyItem.Changes d ∷ []

    time_is : time_after changes ≡ time_after items
    time_is = time_still items (BodyItem.Changes d) refl

    lines_stay : (w : Wanted) → has_lines (cond (is_idle w) Listed w) ≡ has_lines w
    lines_stay Listed = refl
    lines_stay Idle = refl
    lines_stay Silent = refl
    lines_stay Never = refl

    followed_still : (w : Wanted) → is_followed (cond (is_idle w) Listed w) ≡ true → is_followed w ≡ true
    followed_still Listed e = refl
    followed_still Idle e = refl
    followed_still Silent e = refl
    followed_still Never e = e

    never_idle : (w : Wanted) → is_idle (cond (is_idle w) Listed w) ≡ false
    never_idle Listed = refl
    never_idle Idle = refl
    never_idle Silent = refl
    never_idle Never = refl

    -- its value
    module _ (event : c.event ≡ false) (place : ℕ) (few : place < 4) (value : at place ≡ Some (value_of d))
        (full : IsFull c.size (Some (value_of d))) (start : Bool) (start_if : is_followed r.wanted ≡ true → start ≡
        (is_none (final_value items c) && is_vars (open_section items))) where
      abbrev next : Role
      next = enlisted (changed r (time_after items) place start)

      before_within : (b : Bool) → cond b r.before r.now < 4
      before_within true = is.within.before
      before_within false = is.within.now

      since_low : (b s : Bool) → IfSome (cond b r.since (cond s r.since (Some (time_after items)))) (λ u. u ≤ time_after items)
      since_low true s = is.low
      since_low false true = is.low
      since_low false false = omega arith

      final_now : final_value changes c ≡ Some (value_of d)
      final_now = final_new c items d gives

      parts : (a b : Bool) → true ≡ (a && b) → (a ≡ true) × (b ≡ true)
      parts true true e = (refl, refl)
      parts true false e = cc
      parts false b e = cc

      none_is : (o : Option Value) → is_none o ≡ true → o ≡ None
      none_is None e = refl
      none_is (Some v) e = cc

      itself : is_at (Some (time_after items)) (time_after items) ≡ true
      itself = eq-eqb (time_after items) (time_after items) refl

      settles : is_followed r.wanted ≡ true → (b s : Bool) → is_at r.since (time_after items) ≡ b → start ≡ s → at (settled next (time_after changes)) ≡ sampled changes c
      settles w true s e f =
          ap (λ t. at (settled next t)) time_is
          ∙ rw (e, e) (ap (λ b. at (cond b r.before r.now)) (sym e) ∙ stays s f)
        where
          -- a value from the start has no change before it
          stays : (s : Bool) → start ≡ s → at (settled r (time_after items)) ≡ sampled changes c
          stays false f = (is.values event w).settled_is ∙ sym (sampled_stays items d c (sym (start_if w) ∙ f))
          stays true f =
              let p = parts (is_none (final_value items c)) (is_vars (open_section items)) (sym f ∙ start_if w) in
              let none = (is.values event w).fresh (none_is (final_value items c) p.0) in
              absurd (let no = sym (ap (λ o. is_at o (time_after items)) none) ∙ e in cc)
      settles w false true e f =
          let p = parts (is_none (final_value items c)) (is_vars (open_section items)) (sym f ∙ start_if w) in
          ap (λ t. at (settled next t)) time_is ∙ rw (e, f, e) value ∙ sym (sampled_start items d c gives (none_is (final_value items c) p.0) p.1)
      settles w false false e f =
          ap (λ t. at (settled next t)) time_is ∙ rw (e, f, itself) (ap (λ b. at (cond b r.before r.now)) (sym e) ∙ (is.values event w).settled_is)
          ∙ sym (sampled_stays items d c (sym (start_if w) ∙ f))

      pub role_changed : IsRole at es changes c lines next
      role_changed = record {
        within = record { now = few; before = before_within (is_at r.since (time_after items)); written = is.within.written };
        low = subst (λ t. IfSome next.since (λ u. u ≤ t)) (sym time_is) (since_low (is_at r.since (time_after items)) start);
        lines_are = lines_stay r.wanted ∙ is.lines_are;
        values = λ e w. let was = followed_still r.wanted w in record {
          now_is = value ∙ sym final_now;
          settled_is = settles was (is_at r.since (time_after items)) start refl refl;
          written_is = λ h. (is.values event was).written_is (sym (lines_stay r.wanted) ∙ h);
          idle = λ h. absurd (let no = sym (never_idle r.wanted) ∙ h in cc);
          full = subst (IsFull c.size) (sym final_now) full;
          fresh = λ h. absurd (let no = sym final_now ∙ h in cc);
        };
        triggers = λ e f. absurd (let no = sym event ∙ e in cc);
      }

    -- a trigger
    pub role_triggered : c.event ≡ true → leaves_open items ≡ false → last_time es ≤ time_after items → IsRole at es changes c lines (enlisted (triggered r (time_after items)))
    role_triggered event outside le = record {
      within = record { now = is.within.now; before = is.within.before; written = is.within.written };
      low = subst (λ t. time_after items ≤ t) (sym time_is) (omega arith);
      lines_are = lines_stay r.wanted ∙ is.lines_are;
      values = λ e f. absurd (let no = sym event ∙ e in cc);
      triggers = λ e w. record {
        here = ap (λ t. is_triggered changes c t (1 + t)) time_is ∙ triggered_now items (BodyItem.Changes d) c (time_after items)
            (1 + time_after items) gives outside (omega arith) (omega arith) ∙ sym (eq-eqb (time_after items) (time_after changes) (sym time_is));
        all = λ h. ap (λ t. is_triggered changes c (last_time es) (1 + t)) time_is
            ∙ triggered_now items (BodyItem.Changes d) c (last_time es) (1 + time_after items) gives outside le (omega arith)
            ∙ sym (listed_now r.wanted (sym (lines_stay r.wanted) ∙ h));
        due = λ h.
            ap (λ t. is_triggered changes c (last_time es) t) time_is ∙ triggered_before items (BodyItem.Changes d) c (last_time es)
            (time_after items) (omega arith) ∙ (is.triggers event (followed_still r.wanted w)).due (sym (lines_stay r.wanted) ∙ h)
            ∙ ap (λ b. cond b (is_due r (time_after items)) (is_listed (cond (is_idle r.wanted) Listed r.wanted))) (sym (eq-eqb (time_after items) (time_after changes) (sym time_is)));
      };
    }
      where
        listed_now : (w : Wanted) → has_lines w ≡ true → is_listed (cond (is_idle w) Listed w) ≡ true
        listed_now Listed e = refl
        listed_now Idle e = refl
        listed_now Silent e = cc
        listed_now Never e = cc

  -- ---- an edge at the time of all items
  last_is : last_sampled (es ++ items ∷ []) c ≡ sampled items c
  last_is = by_list es None
    where
      by_list : (es : List (List BodyItem)) (o : Option (List BodyItem)) → elim (last_or o (es ++ items ∷ [])) [ Some edge ↦ sampled edge c | None ↦ None ] ≡ sampled items c
      by_list [] o = refl
      by_list (e ∷ es) o = by_list es (Some e)

  last_time_is : last_time (es ++ items ∷ []) ≡ time_after items
  last_time_is = by_list es None
    where
      by_list : (es : List (List BodyItem)) (o : Option ℕ) → unwrap_or (last_or o (map time_after (es ++ items ∷ []))) 0 ≡ time_after items
      by_list [] o = refl
      by_list (e ∷ es) o = by_list es (Some (time_after e))

  lines_follow : (w : Wanted) → has_lines w ≡ true → is_followed w ≡ true
  lines_follow Listed e = refl
  lines_follow Idle e = refl
  lines_follow Silent e = cc
  lines_follow Never e = cc

  -- an event without a line was not triggered at this time
  not_here : c.event ≡ true → last_time es ≤ time_after items → has_lines r.wanted ≡ true → is_listed r.wanted ≡ false → is_at r.since (time_after items) ≡ false
  not_here e le lined idle = let v = is.triggers e (lines_follow r.wanted lined) in sym v.here ∙ triggered_from items c (last_time es) (time_after items) (1 + time_after items) le (v.all lined ∙ idle)

  -- of a code that has no line
  pub role_past : last_time es ≤ time_after items → is_listed r.wanted ≡ false → IsRole at (es ++ items ∷ []) items c lines r
  role_past le idle = record {
    within = is.within;
    low = is.low;
    lines_are = is.lines_are;
    values = λ e w. let v = is.values e w in record {
      now_is = v.now_is;
      settled_is = v.settled_is;
      written_is = λ h. let i = v.idle (idle_is r.wanted idle h) in v.written_is h ∙ i.0 ∙ sym i.1 ∙ sym last_is;
      idle = λ h. let i = v.idle h in (last_is ∙ i.1, i.1);
      full = v.full;
      fresh = v.fresh;
    };
    triggers = λ e w. let v = is.triggers e w in record {
      here = v.here;
      all = λ h. ap (λ n. is_triggered items c n (1 + time_after items)) last_time_is ∙ v.here ∙ not_here e le h idle ∙ sym idle;
      due = λ h. ap (λ n. is_triggered items c n (time_after items)) last_time_is ∙ triggered_never items c (time_after items)
          ∙ sym (ap (λ b. cond b r.early (is_listed r.wanted)) (not_here e le h idle) ∙ idle);
    };
  }
    where
      idle_is : (w : Wanted) → is_listed w ≡ false → has_lines w ≡ true → is_idle w ≡ true
      idle_is Listed e f = cc
      idle_is Idle e f = refl
      idle_is Silent e f = cc
      idle_is Never e f = cc

  -- of one that has
  pub role_settled : is_listed r.wanted ≡ true → IsRole at (es ++ items ∷ []) items c lines (settle r (time_after items))
  role_settled listed = record {
    within = record { now = is.within.now; before = is.within.before; written = settled_within (is_at r.since (time_after items)) };
    low = is.low;
    lines_are = lines_on r.wanted (is_at r.since (time_after items)) listed ∙ is.lines_are;
    values = λ e w. let v = is.values e (listed_follows r.wanted listed) in record {
      now_is = v.now_is;
      settled_is = v.settled_is;
      written_is = λ h. v.settled_is ∙ sym last_is;
      idle = λ h. let same = by_idle v (is_at r.since (time_after items)) refl h in (last_is ∙ same, same);
      full = v.full;
      fresh = v.fresh;
    };
    triggers = λ e w. let v = is.triggers e (listed_follows r.wanted listed) in record {
      here = v.here;
      all = λ h. ap (λ n. is_triggered items c n (1 + time_after items)) last_time_is ∙ v.here ∙ sym (listed_on r.wanted (is_at r.since (time_after items)) listed);
      due = λ h. ap (λ n. is_triggered items c n (time_after items)) last_time_is ∙ triggered_never items c (time_after items) ∙ sym (none_due r.wanted (is_at r.since (time_after items)));
    };
  }
    where
      settled_within : (b : Bool) → cond b r.before r.now < 4
      settled_within true = is.within.before
      settled_within false = is.within.now

      lines_on : (w : Wanted) (b : Bool) → is_listed w ≡ true → has_lines (cond b w Idle) ≡ has_lines w
      lines_on Listed true e = refl
      lines_on Listed false e = refl
      lines_on Idle b e = cc
      lines_on Silent b e = cc
      lines_on Never b e = cc

      listed_follows : (w : Wanted) → is_listed w ≡ true → is_followed w ≡ true
      listed_follows Listed e = refl
      listed_follows Idle e = cc
      listed_follows Silent e = cc
      listed_follows Never e = cc

      listed_on : (w : Wanted) (b : Bool) → is_listed w ≡ true → is_listed (cond b w Idle) ≡ b
      listed_on Listed true e = refl
      listed_on Listed false e = refl
      listed_on Idle b e = cc
      listed_on Silent b e = cc
      listed_on Never b e = cc

      none_due : (w : Wanted) (b : Bool) → cond b false (is_listed (cond b w Idle)) ≡ false
      none_due w true = refl
      none_due w false = refl

      by_idle : HasValues at es items c r → (b : Bool) → is_at r.since (time_after items) ≡ b → is_idle (cond b r.wanted Idle) ≡ true → sampled items c ≡ final_value items c
      by_idle v true e h = absurd (not_both r.wanted listed h)
        where
          not_both : (w : Wanted) → is_listed w ≡ true → is_idle w ≡ true → ⊥
          not_both Listed e f = cc
          not_both Idle e f = cc
          not_both Silent e f = cc
          not_both Never e f = cc
      by_idle v false e h = sym v.settled_is ∙ ap (λ b. at (cond b r.before r.now)) e ∙ v.now_is

  -- ---- its line
  abbrev value_line : Option Value → Option Value → List ℕ
  value_line written before = cond (same_state written before) [] (line_if_set c before)

  pub line_is : has_lines r.wanted ≡ true → role_line at c r (time_after items) ≡ code_line es items c
  line_is lined = same_cond c.event (λ e. ap (λ b. cond b (as_line (byte "1" ∷ c.text)) []) (sym ((is.triggers e (lines_follow r.wanted lined)).due lined))) (λ e.
      let v = is.values e (lines_follow r.wanted lined) in ap₂ value_line (v.written_is lined) v.settled_is)
    where
      same_cond : {x y x' y' : List ℕ} (b : Bool) → (b ≡ true → x ≡ x') → (b ≡ false → y ≡ y') → cond b x y ≡ cond b x' y'
      same_cond true f g = f refl
      same_cond false f g = g refl

  same_self : (o : Option Value) → same_state o o ≡ true
  same_self None = refl
  same_self (Some (Value.Bits ds)) = (bytes_eq-Decides ds ds).1 refl
  same_self (Some (Value.Real text)) = (bytes_eq-Decides text text).1 refl

  pub no_line : last_time es ≤ time_after items → is_idle r.wanted ≡ true → code_line es items c ≡ []
  no_line le idle =
      none_cond c.event
      (λ e.
      let at_no = not_here e le (has r.wanted idle).0 (has r.wanted idle).1 in
      ap (λ b. cond b (as_line (byte "1" ∷ c.text)) []) ((is.triggers e (lines_follow r.wanted (has r.wanted idle).0)).due (has r.wanted idle).0 ∙ ap (λ b. cond b r.early (is_listed r.wanted)) at_no ∙ (has r.wanted idle).1))
      (λ e. let i = (is.values e (lines_follow r.wanted (has r.wanted idle).0)).idle idle in ap₂ value_line i.0 i.1 ∙ ap (λ b. cond b [] (line_if_set c (final_value items c))) (same_self (final_value items c)))
    where
      none_cond : {x y : List ℕ} (b : Bool) → (b ≡ true → x ≡ []) → (b ≡ false → y ≡ []) → cond b x y ≡ []
      none_cond true f g = f refl
      none_cond false f g = g refl

      has : (w : Wanted) → is_idle w ≡ true → (has_lines w ≡ true) × (is_listed w ≡ false)
      has Idle e = (refl, refl)
      has Listed e = cc
      has Silent e = cc
      has Never e = cc
