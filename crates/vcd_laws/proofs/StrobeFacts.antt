-- What a strobe writes at an edge can be read, and leads from the values before one edge to those
-- before the next.
use Rattle.vcd_laws.proofs.Cited.{Bool, Contains, List, None, Option, Some, [], ap, arith, cond, false, flat_map, fold, length, map, max, refl, replicate, subst, suc, sym, true, zero, ℕ, ◌%◌, ◌&&◌, ◌++◌, ◌+◌, ◌/◌, ◌<◌, ◌==◌, ◌^◌, ◌||◌, ◌∙◌, ◌∷◌, ◌≡◌, bytes_eq-Decides, AllByRecursion, last_or, list_all, list_any, byte, fit_front, all_append, IsGoodValue, value_change, at_contained, find-filter, AreDeclared, AreCodes, AreFit, IsGoodChange, behind, newer-false, IsWord, declared_code, is_code_byte, is_white_space, Declaration, IdCode, has_text, same_code, variables_of, Header, BodyItem, Change, ChangeForm, time_after, selected, selects_code, Value, short, value_of}
use Rattle.vcd_model.specs.BodyPhrases.{is_value_digit}
use Rattle.vcd_model.specs.Laws.{IsPrefixOf}
use Rattle.vcd_model.specs.Strobe.{binary, is_triggered, last_sampled, last_time, same_state, sampled, strobe_codes, time_code}
use Rattle.vcd_laws.specs.Strobes.{written_codes}
use Rattle.std.proofs.lemmas.List.{length-replicate}
use Rattle.vcd_model.proofs.ChangeLines.{AreLower, value_change_gives}
use Rattle.vcd_model.proofs.Latest.{newer}
use Rattle.vcd_model.proofs.FoundCodes.{same_declared}
use Rattle.vcd_laws.proofs.HeadersGood.{IsGoodHeader}
use Rattle.vcd_laws.proofs.MergedHead.{all_in}
use Rattle.vcd_laws.proofs.HeadBack.{HasCode}
use Rattle.vcd_laws.proofs.WrittenCodes.{In, any_of, from_contained, from_filter, from_codes_of, found_in, to_contained}
use Rattle.vcd_laws.proofs.StrobeBase.{last_given, has_change, Leads, AreGoodChanges}
use Rattle.vcd_laws.proofs.StrobeEdges.{IsEdgeOf, HasValue, last_snoc, sampled_good, sampled_stays}
use Rattle.vcd_laws.proofs.StrobeChanges.{AreOf, IsOwn, given_by, changed_by, set_change, event_change, code_changes, time_change, edge_changes, lengths_differ, longer_differ, time_code_new}

-- ---- the code of the time, and its digits

repeated_word : (n : ℕ) → AllByRecursion (λ b. is_white_space b ≡ false) (replicate n 33)
repeated_word zero = tt
repeated_word (suc n) = (refl, repeated_word n)

pub time_word : (h : Header) → IsWord (time_code h).text
time_word h =
    let n = 1 + fold max 0 (map (λ (c : IdCode). length c.text) h.codes) in
    let l = length-replicate n (byte "!") in
    record { filled = omega arith; plain = repeated_word n }

repeated_bytes : (n : ℕ) → list_all is_code_byte (replicate n 33) ≡ true
repeated_bytes zero = refl
repeated_bytes (suc n) = repeated_bytes n

pub time_bytes : (h : Header) → list_all is_code_byte (time_code h).text ≡ true
time_bytes h = repeated_bytes (1 + fold max 0 (map (λ (c : IdCode). length c.text) h.codes))

one_digit : (r : ℕ) → r < 2 → AreLower ((48 + r) ∷ [])
unfolding is_value_digit
one_digit zero l = ((refl, refl), tt)
one_digit (suc zero) l = ((refl, refl), tt)
one_digit (suc (suc r)) l = absurd (omega arith)

binary_lower : (n t : ℕ) → AreLower (binary n t)
binary_lower zero t = tt
binary_lower (suc n) t = ((one_digit (t / 2 ^ n % 2) (omega arith)).0, binary_lower n t)

binary_length : (n t : ℕ) → length (binary n t) ≡ n
binary_length zero t = refl
binary_length (suc n) t = ap suc (binary_length n t)

pub time_good : (h : Header) (t : ℕ) → IsGoodValue (time_code h) (Value.Bits (binary 64 t))
time_good h t = (binary_length 64 t, binary_lower 64 t)

-- ---- the codes of the names

-- the code of a variable
pub coded : (earlier ds : List Declaration) → AreDeclared earlier ds
    → AllByRecursion HasCode (variables_of ds)
coded earlier [] are = tt
coded earlier (Declaration.Scope type name ∷ ds) are =
    coded (earlier ++ Declaration.Scope type name ∷ []) ds are.1
coded earlier (Declaration.Up ∷ ds) are = coded (earlier ++ Declaration.Up ∷ []) ds are.1
coded earlier (Declaration.Var v ∷ ds) are =
    let g = are.0 in ((g.code, g.bytes), coded (earlier ++ Declaration.Var v ∷ []) ds are.1)

-- a code of the names, as it is declared in the header and in what is written
pub record IsCode (h : Header) (names : List (List ℕ)) (c : IdCode) : Type 0 where
  pub declared : declared_code h.codes c.text ≡ Some c
  pub filled : 0 < c.size
  pub word : IsWord c.text
  pub shorter : length c.text < length (time_code h).text
  pub again : declared_code (written_codes h names) c.text ≡ Some c

module _ (h : Header) (names : List (List ℕ)) (good : IsGoodHeader h) (found : AreCodes h.codes) where
  one_code : (c : IdCode) → In c (strobe_codes h names) → IsCode h names c
  one_code c i =
      let test = selects_code (selected names h.declarations) in
      let f = from_filter test h.codes c i in
      let declared = found_in h.codes c found f.0 in
      let v = from_codes_of h.declarations c (subst (In c) good.codes f.0) in
      let coded = at_contained HasCode (variables_of h.declarations) v.0
      (coded [] h.declarations good.declared) (to_contained (variables_of h.declarations) v.0 v.1) in
      let shorter = time_code_new h c f.0 in
      let other : has_text c.text (time_code h) ≡ false =
      lengths_differ c.text (time_code h).text shorter in
      record {
        declared = declared;
        filled = at_contained (λ (d : IdCode). 0 < d.size) h.codes c found.filled
            (to_contained h.codes c f.0);
        word = subst (λ (d : IdCode). IsWord d.text) (sym v.2) coded.0;
        shorter = shorter;
        again = rw other (find-filter (has_text c.text) test h.codes c declared f.1);
      }

  pub own_codes : AllByRecursion (IsCode h names) (strobe_codes h names)
  own_codes = all_in (IsCode h names) (strobe_codes h names) one_code

  pub code_is : (c : IdCode) → Contains (strobe_codes h names) c → IsCode h names c
  code_is c i = at_contained (IsCode h names) (strobe_codes h names) c own_codes i

  pub time_declared : declared_code (written_codes h names) (time_code h).text
      ≡ Some (time_code h)
  time_declared = rw ((bytes_eq-Decides (time_code h).text (time_code h).text).1 refl) refl

  -- ---- what is written can be read

  module _ (items : List BodyItem) (fit : AreFit h.codes 0 false items) where
    pub edge_fit : (edge : List BodyItem) → IsPrefixOf edge items → AreFit h.codes 0 false edge
    edge_fit edge begins = fit_front h.codes 0 false edge begins.0
        (subst (AreFit h.codes 0 false) begins.1 fit)

    code_good : (before : List (List BodyItem)) (edge : List BodyItem) (c : IdCode)
        → IsEdgeOf items before edge → IsCode h names c
        → AllByRecursion (IsGoodChange (written_codes h names)) (code_changes before edge c)
    unfolding is_value_digit
    code_good before edge c is code =
        by_event c.event (is_triggered edge c (last_time before) (time_after edge))
        (same_state (last_sampled before c) (sampled edge c)) refl
      where
        set : (o : Option Value) → c.event ≡ false → sampled edge c ≡ o
            → AllByRecursion (IsGoodChange (written_codes h names)) (set_change c o)
        set None quiet e = tt
        set (Some v) quiet e =
            let g = sampled_good h.codes c code.declared quiet code.filled edge v
            (edge_fit edge is.within) e in
            let gives = value_change_gives (written_codes h names) c v code.again code.word
            code.filled g.1 in
            (gives.good, tt)

        by_event : (b t s : Bool) → c.event ≡ b
            → AllByRecursion (IsGoodChange (written_codes h names))
            (cond b (cond t (event_change c ∷ []) []) (cond s [] (set_change c (sampled edge c))))
        by_event true true s e =
            (record { declared = code.again; word = code.word; text = (49, refl, refl) }, tt)
        by_event true false s e = tt
        by_event false t true e = tt
        by_event false t false e = set (sampled edge c) e refl

    all_good : (before : List (List BodyItem)) (edge : List BodyItem) (cs : List IdCode)
        → IsEdgeOf items before edge → AllByRecursion (IsCode h names) cs
        → AllByRecursion (IsGoodChange (written_codes h names))
        (flat_map (code_changes before edge) cs)
    all_good before edge [] is all = tt
    all_good before edge (c ∷ cs) is all =
        all_append (IsGoodChange (written_codes h names)) (code_changes before edge c)
        (flat_map (code_changes before edge) cs) (code_good before edge c is all.0)
        (all_good before edge cs is all.1)

    pub edge_good : (before : List (List BodyItem)) (edge : List BodyItem)
        → IsEdgeOf items before edge
        → AreGoodChanges (edge_changes h names) (written_codes h names) before edge
    edge_good before edge is =
        let gives = value_change_gives (written_codes h names) (time_code h)
        (Value.Bits (binary 64 (time_after edge))) time_declared (time_word h) (omega arith)
        (time_good h (time_after edge)) in
        (gives.good, all_good before edge (strobe_codes h names) is own_codes)

    -- ---- the changes of one code

    set_of : (c : IdCode) (o : Option Value) → AreOf c (set_change c o)
    set_of c None = tt
    set_of c (Some (Value.Real text)) = (refl, tt)
    set_of c (Some (Value.Bits ds)) = (by_size (c.size == 1), tt)
      where
        by_size : (b : Bool) → (cond {A = Change} b (record {
          code = c;
          form = ChangeForm.Scalar;
          text = ds;
        }) (record { code = c; form = ChangeForm.Vector; text = short ds })).code ≡ c
        by_size true = refl
        by_size false = refl

    changes_of : (before : List (List BodyItem)) (edge : List BodyItem) (c : IdCode)
        → AreOf c (code_changes before edge c)
    changes_of before edge c =
        by_event c.event (is_triggered edge c (last_time before) (time_after edge))
        (same_state (last_sampled before c) (sampled edge c))
      where
        by_event : (b t s : Bool) → AreOf c (cond b (cond t (event_change c ∷ []) [])
            (cond s [] (set_change c (sampled edge c))))
        by_event true true s = (refl, tt)
        by_event true false s = tt
        by_event false t true = tt
        by_event false t false = set_of c (sampled edge c)

    all_own : (before : List (List BodyItem)) (edge : List BodyItem) (c : IdCode)
        (cs : List IdCode) → IsCode h names c → AllByRecursion (IsCode h names) cs
        → AllByRecursion (IsOwn (code_changes before edge) c) cs
    all_own before edge c [] code all = tt
    all_own before edge c (d ∷ cs) code all =
        let other = all.0 in (
          (
            changes_of before edge d,
            λ e. sym (same_declared h.codes c d code.declared other.declared e),
          ),
          all_own before edge c cs code all.1,
        )

    same_self : (c : IdCode) → same_code c c ≡ true
    same_self c = (bytes_eq-Decides c.text c.text).1 refl

    among : (c : IdCode) → Contains (strobe_codes h names) c
        → list_any (same_code c) (strobe_codes h names) ≡ true
    among c i = any_of (same_code c) (strobe_codes h names) c
        (from_contained (strobe_codes h names) c i) (same_self c)

    -- the time's change is of another code
    time_other : (c : IdCode) (v : Value) → IsCode h names c
        → same_code c (value_change (time_code h) v).code ≡ false
    time_other c v code =
        ap (same_code c) (set_of (time_code h) (Some v)).0
        ∙ lengths_differ c.text (time_code h).text code.shorter

    given_at : (before : List (List BodyItem)) (edge : List BodyItem) (c : IdCode)
        → Contains (strobe_codes h names) c
        → last_given c (edge_changes h names before edge)
        ≡ last_given c (code_changes before edge c)
    given_at before edge c i =
        let code = code_is c i in
        let g = code_changes before edge in
        let t = time_change h (binary 64 (time_after edge)) in
        ap (λ b. newer b (Some (value_of t)) (last_given c (flat_map g (strobe_codes h names))))
        (time_other c (Value.Bits (binary 64 (time_after edge))) code)
        ∙ newer-false (Some (value_of t)) (last_given c (flat_map g (strobe_codes h names)))
        ∙ given_by g c (strobe_codes h names)
        (all_own before edge c (strobe_codes h names) code own_codes)
        ∙ ap (λ b. cond b (last_given c (g c)) None) (among c i)

    changed_at : (before : List (List BodyItem)) (edge : List BodyItem) (c : IdCode)
        → Contains (strobe_codes h names) c
        → has_change c (edge_changes h names before edge)
        ≡ has_change c (code_changes before edge c)
    changed_at before edge c i =
        let code = code_is c i in
        let g = code_changes before edge in
        ap (λ b. b || has_change c (flat_map g (strobe_codes h names)))
        (time_other c (Value.Bits (binary 64 (time_after edge))) code)
        ∙ changed_by g c (strobe_codes h names)
        (all_own before edge c (strobe_codes h names) code own_codes)
        ∙ ap (λ b. b && has_change c (g c)) (among c i)

    -- an event has a change if it was triggered
    pub event_at : (before : List (List BodyItem)) (edge : List BodyItem) (c : IdCode)
        → Contains (strobe_codes h names) c → c.event ≡ true
        → has_change c (edge_changes h names before edge)
        ≡ is_triggered edge c (last_time before) (time_after edge)
    event_at before edge c i e =
        changed_at before edge c i
        ∙ ap (λ b. has_change c (cond b (cond (is_triggered edge c (last_time before)
        (time_after edge)) (event_change c ∷ []) [])
        (cond (same_state (last_sampled before c) (sampled edge c)) []
        (set_change c (sampled edge c))))) e
        ∙ by_test (is_triggered edge c (last_time before) (time_after edge))
      where
        by_test : (t : Bool) → has_change c (cond t (event_change c ∷ []) []) ≡ t
        by_test true = ap (λ b. b || false) (same_self c)
        by_test false = refl

    -- ---- the value of a code

    state_same : (o p : Option Value) → same_state o p ≡ true → o ≡ p
    state_same None None e = refl
    state_same None (Some w) e = cc
    state_same (Some v) None e = cc
    state_same (Some (Value.Bits a)) (Some (Value.Bits b)) e =
        ap (λ l. Some (Value.Bits l)) ((bytes_eq-Decides a b).0 e)
    state_same (Some (Value.Real a)) (Some (Value.Real b)) e =
        ap (λ l. Some (Value.Real l)) ((bytes_eq-Decides a b).0 e)
    state_same (Some (Value.Bits a)) (Some (Value.Real b)) e = cc
    state_same (Some (Value.Real a)) (Some (Value.Bits b)) e = cc

    abbrev pub own_value : IdCode → List (List BodyItem) → Option Value
    own_value c before = last_sampled before c

    pub value_leads : (before : List (List BodyItem)) (edge : List BodyItem) (c : IdCode)
        → Contains (strobe_codes h names) c → c.event ≡ false → IsEdgeOf items before edge
        → Leads (edge_changes h names) c (own_value c) before edge
    value_leads before edge c i quiet is =
        ap (λ o. behind o (last_sampled before c)) (given_at before edge c i
        ∙ ap (λ b. last_given c (cond b (cond (is_triggered edge c (last_time before)
        (time_after edge)) (event_change c ∷ []) [])
        (cond (same_state (last_sampled before c) (sampled edge c)) []
        (set_change c (sampled edge c))))) quiet)
        ∙ by_state (same_state (last_sampled before c) (sampled edge c)) (last_sampled before c)
        (sampled edge c) refl refl (stays (last_or None before) refl)
        ∙ sym (ap (λ o. elim o [ Some e ↦ sampled e c | None ↦ None ]) (last_snoc None before edge))
      where
        stays : (o : Option (List BodyItem)) → last_or None before ≡ o
            → HasValue (elim o [ Some e ↦ sampled e c | None ↦ None ])
            → HasValue (sampled edge c)
        stays None e has = cc
        stays (Some x) e has = sampled_stays c x edge (is.later x e) has

        set : (s o : Option Value) → sampled edge c ≡ o → same_state s o ≡ false
            → (HasValue s → HasValue o)
            → behind (last_given c (set_change c o)) s ≡ o
        set None None e f has = refl
        set (Some v) None e f has = let x = has (v, refl) in cc
        set s (Some v) e f has =
            let code = code_is c i in
            let g = sampled_good h.codes c code.declared quiet code.filled edge v
            (edge_fit edge is.within) e in
            let gives = value_change_gives (written_codes h names) c v code.again code.word
            code.filled g.1 in
            ap (λ b. behind (newer b (Some (value_of (value_change c v))) None) s)
            (ap (same_code c) gives.same ∙ same_self c) ∙ ap Some gives.value

        by_state : (b : Bool) (s o : Option Value) → same_state s o ≡ b → sampled edge c ≡ o
            → (HasValue s → HasValue (sampled edge c))
            → behind (last_given c (cond b [] (set_change c o))) s ≡ o
        by_state true s o e f has = state_same s o e
        by_state false s o e f has = set s o f e (λ x. subst HasValue f (has x))

    -- ---- the time

    -- the time of the last of these edges
    abbrev pub edge_time : List (List BodyItem) → Option Value
    edge_time before = elim (last_or None before) [
      | Some e ↦ Some (Value.Bits (binary 64 (time_after e)))
      | None ↦ None
    ]

    other_code : (c : IdCode) → IsCode h names c → same_code (time_code h) c ≡ false
    other_code c code = longer_differ (time_code h).text c.text code.shorter

    other_codes : (cs : List IdCode) → AllByRecursion (IsCode h names) cs
        → list_any (same_code (time_code h)) cs ≡ false
    other_codes [] all = refl
    other_codes (c ∷ cs) all = rw (other_code c all.0) (other_codes cs all.1)

    time_own : (before : List (List BodyItem)) (edge : List BodyItem) (cs : List IdCode)
        → AllByRecursion (IsCode h names) cs
        → AllByRecursion (IsOwn (code_changes before edge) (time_code h)) cs
    time_own before edge [] all = tt
    time_own before edge (c ∷ cs) all =
        let other = other_code c all.0 in
        ((changes_of before edge c, λ e. cc), time_own before edge cs all.1)

    pub time_leads : (before : List (List BodyItem)) (edge : List BodyItem)
        → Leads (edge_changes h names) (time_code h) edge_time before edge
    time_leads before edge =
        let ds = binary 64 (time_after edge) in
        let tc = time_code h in
        let t = time_change h ds in
        let g = code_changes before edge in
        let cs = strobe_codes h names in
        let gives = value_change_gives (written_codes h names) tc (Value.Bits ds)
        time_declared (time_word h) (omega arith) (time_good h (time_after edge)) in
        let none : last_given tc (flat_map g cs) ≡ None =
        given_by g tc cs (time_own before edge cs own_codes)
        ∙ ap (λ b. cond b (last_given tc (g tc)) None) (other_codes cs own_codes) in
        ap (λ o. behind (newer (same_code tc t.code) (Some (value_of t)) o) (edge_time before)) none
        ∙ ap (λ b. behind (newer b (Some (value_of t)) None) (edge_time before))
        (ap (same_code tc) gives.same ∙ same_self tc)
        ∙ ap Some gives.value
        ∙ sym (ap (λ o. elim o [
          | Some e ↦ Some (Value.Bits (binary 64 (time_after e)))
          | None ↦ None
        ]) (last_snoc None before edge))
