-- The codes of one variable more.
use Rattle.vcd_head.proofs.Cited.{◌≡◌, ℕ, ◌+◌, Bool, true, false, cond, not, ◌&&◌, ◌||◌, ◌==◌, List, [], ◌∷◌, ◌++◌, length, find, bytes_eq, slice_get, slice_range, Option, Some, None, is_some, refl, sym, ap, subst, ◌∙◌, arith, option_or, AllByRecursion, list_any, list_all, append-nil, length-append, list_any-append, or_right, or_parts, and_parts, eqb-true, same_Some, bytes_eq-Decides, Declaration, Variable, IdCode, code_of, codes_of, variables_of, has_text, agrees, same_flag, Code, Codes, AreHeld, IsCode, IsSize, Finds, Rises, is_of, keys_of, AreKeysOf, shape_in, shape_of, CodeKey, AreBytes, HasCodes, CodeHeld, all_push, same_bytes, bytes_flip, all_weaker, slice_get-seam, find_passes, or-false, code_of_shown}
use Rattle.vcd_head.proofs.DraftLemmas.{range_at, held_grow}
use Rattle.vcd_head.proofs.CodeKeys.{keys_more}
use Rattle.vcd_head.proofs.CodesLemmas.{find_more, held_more}
use Rattle.vcd_head.proofs.DraftGrows.{variables_push, codes-alias, codes-new}

own_bytes : (a : List ℕ) → bytes_eq a a ≡ true
own_bytes a = (bytes_eq-Decides a a).1 refl

any_push : (vs : List Variable) (v : Variable) (t : List ℕ) → list_any (λ u. bytes_eq u.code t) (vs ++ v ∷ []) ≡ (list_any (λ u. bytes_eq u.code t) vs || bytes_eq v.code t)
any_push vs v t = list_any-append (λ u. bytes_eq u.code t) vs (v ∷ []) ∙ ap (λ b. list_any (λ u. bytes_eq u.code t) vs || b) (or-false (bytes_eq v.code t))

-- ---- an alias

pub codes_alias : (text : List ℕ) (es : Codes) (ds : List Declaration) (v : Variable) → HasCodes text es ds
    → find (has_text v.code) (codes_of ds) ≡ Some (code_of v) → HasCodes text es (ds ++ Declaration.Var v ∷ [])
codes_alias text es ds v h f =
    let c = sym (codes-alias ds v (h.seen v.code ∙ ap is_some f)) in
    let vars = sym (variables_push ds (Declaration.Var v)) in
    record {
      held = subst (AreHeld text es.list.items) c h.held;
      keys = subst (AreKeysOf (keys_of es)) c h.keys;
      rises = h.rises;
      known = subst (λ ks. AllByRecursion (λ u. find (has_text u.code) ks ≡ Some (code_of u)) (variables_of (ds ++ Declaration.Var v ∷ []))) c
          (subst (λ vs. AllByRecursion (λ u. find (has_text u.code) (codes_of ds) ≡ Some (code_of u)) vs) vars
          (all_push (λ u. find (has_text u.code) (codes_of ds) ≡ Some (code_of u)) (variables_of ds) v h.known f));
      seen = λ t. ap (list_any (λ u. bytes_eq u.code t)) (sym vars) ∙ any_push (variables_of ds) v t ∙ seen_or t (bytes_eq v.code t) refl ∙ ap (λ ks. is_some (find (has_text t) ks)) c;
      sizes = subst (λ ks. AllByRecursion (λ (k : IdCode). IsSize k.size) ks) c h.sizes;
    }
  where
    seen_or : (t : List ℕ) (b : Bool) → bytes_eq v.code t ≡ b → (list_any (λ u. bytes_eq u.code t) (variables_of ds) || b) ≡ is_some (find (has_text t) (codes_of ds))
    seen_or t true e = or_right (list_any (λ u. bytes_eq u.code t) (variables_of ds)) true refl
        ∙ sym (ap is_some (subst (λ s. find (has_text s) (codes_of ds) ≡ Some (code_of v)) (same_bytes v.code t e) f))
    seen_or t false e = or-false (list_any (λ u. bytes_eq u.code t) (variables_of ds)) ∙ h.seen t

-- ---- a new code

pub codes_new : (text more : List ℕ) (old new : Codes) (ds : List Declaration) (v : Variable) (k : List ℕ) (key : CodeKey) (code : Code)
    → HasCodes text old ds → shape_of key ≡ shape_in k → AreBytes k → find (has_text v.code) (codes_of ds) ≡ None → k ≡ v.code
    → new.list.items ≡ old.list.items ++ code ∷ [] → keys_of new ≡ keys_of old ++ key ∷ [] → Rises new.rising.items
    → IsCode (text ++ more) code (code_of v) → IsSize (code_of v).size → HasCodes (text ++ more) new (ds ++ Declaration.Var v ∷ [])
codes_new text more old new ds v k key code h own bytes f b listed behind rises is size =
    let c = sym (codes-new ds v (h.seen v.code ∙ ap is_some f)) in
    let vars = sym (variables_push ds (Declaration.Var v)) in
    record {
      held = subst (AreHeld (text ++ more) new.list.items) c
          (subst (λ xs. AreHeld (text ++ more) xs (codes_of ds ++ code_of v ∷ [])) (sym listed)
          (held_more (text ++ more) old.list.items (codes_of ds) code (code_of v) grown is (subst AreBytes b bytes) f));
      keys = subst (AreKeysOf (keys_of new)) c (keys_more k bytes (keys_of old) (keys_of new) key (codes_of ds) (code_of v) h.keys own (sym b) behind);
      rises = rises;
      known = subst (λ ks. AllByRecursion (λ u. find (has_text u.code) ks ≡ Some (code_of u)) (variables_of (ds ++ Declaration.Var v ∷ []))) c
          (subst (λ vs. AllByRecursion (λ u. find (has_text u.code) (codes_of ds ++ code_of v ∷ []) ≡ Some (code_of u)) vs) vars
          (all_push (λ u. find (has_text u.code) (codes_of ds ++ code_of v ∷ []) ≡ Some (code_of u)) (variables_of ds) v
          (all_weaker (λ u. find (has_text u.code) (codes_of ds) ≡ Some (code_of u))
          (λ u. find (has_text u.code) (codes_of ds ++ code_of v ∷ []) ≡ Some (code_of u)) (variables_of ds)
          (λ u k. find_more (codes_of ds) u.code (code_of v) ∙ rw k refl) h.known)
          (find_more (codes_of ds) v.code (code_of v) ∙ rw (f, own_bytes v.code) refl)));
      seen = λ t. ap (list_any (λ u. bytes_eq u.code t)) (sym vars) ∙ any_push (variables_of ds) v t ∙ ap (λ x. x || bytes_eq v.code t) (h.seen t)
          ∙ seen_or t (find (has_text t) (codes_of ds)) (bytes_eq v.code t) (bytes_flip t v.code)
          ∙ sym (ap is_some (find_more (codes_of ds) t (code_of v))) ∙ ap (λ ks. is_some (find (has_text t) ks)) c;
      sizes = subst (λ ks. AllByRecursion (λ (k : IdCode). IsSize k.size) ks) c (all_push (λ (k : IdCode). IsSize k.size) (codes_of ds) (code_of v) h.sizes size);
    }
  where
    grown : AreHeld (text ++ more) old.list.items (codes_of ds)
    grown = held_grow text more old.list.items (codes_of ds) h.held

    seen_or : (t : List ℕ) (o : Option IdCode) (x : Bool) → bytes_eq t v.code ≡ x → (is_some o || x) ≡ is_some (option_or o (cond (bytes_eq t v.code) (Some (code_of v)) None))
    seen_or t (Some k) x q = refl
    seen_or t None true q = rw q refl
    seen_or t None false q = rw q refl

-- ---- the check of a code

none_agrees : (vs : List Variable) (v : Variable) → list_any (λ u. bytes_eq u.code v.code) vs ≡ false
    → list_all (λ u. not (bytes_eq u.code v.code) || ((u.size == v.size) && same_flag (code_of u).event (code_of v).event)) vs ≡ true
none_agrees [] v h = refl
none_agrees (u ∷ vs) v h = let p = or_parts (bytes_eq u.code v.code) (list_any (λ x. bytes_eq x.code v.code) vs) h in rw (p.0, none_agrees vs v p.1) refl

pub agrees_new : (text : List ℕ) (es : Codes) (ds : List Declaration) (v : Variable) → HasCodes text es ds → find (has_text v.code) (codes_of ds) ≡ None → agrees ds v ≡ true
agrees_new text es ds v h f = none_agrees (variables_of ds) v (h.seen v.code ∙ ap is_some f)

-- whether the code found has this size, and is an event where the variable is one
same_kind : IdCode → Variable → Bool
same_kind k v = (k.size == v.size) && same_flag k.event (code_of v).event

all_agree : (ks : List IdCode) (vs : List Variable) (v : Variable) (k : IdCode) → find (has_text v.code) ks ≡ Some k
    → AllByRecursion (λ u. find (has_text u.code) ks ≡ Some (code_of u)) vs → same_kind k v ≡ true
    → list_all (λ u. not (bytes_eq u.code v.code) || ((u.size == v.size) && same_flag (code_of u).event (code_of v).event)) vs ≡ true
unfolding same_kind
all_agree ks [] v k f h e = refl
all_agree ks (u ∷ vs) v k f h e = by_code (bytes_eq u.code v.code) refl (all_agree ks vs v k f h.1 e)
  where
    by_code : (b : Bool) → bytes_eq u.code v.code ≡ b → list_all (λ x. not (bytes_eq x.code v.code) || ((x.size == v.size) && same_flag (code_of x).event (code_of v).event)) vs ≡ true
        → ((not b || ((u.size == v.size) && same_flag (code_of u).event (code_of v).event)) && list_all
        (λ x. not (bytes_eq x.code v.code) || ((x.size == v.size) && same_flag (code_of x).event (code_of v).event)) vs) ≡ true
    by_code false q more = more
    by_code true q more =
        let s : Some k ≡ Some (code_of u) = sym (subst (λ t. find (has_text t) ks ≡ Some k) (sym (same_bytes u.code v.code q)) f) ∙ h.0 in
        let d : code_of u ≡ k = cc in
        rw (ap (λ (x : IdCode). (x.size == v.size) && same_flag x.event (code_of v).event) d ∙ e, more) refl

some_differ : (ks : List IdCode) (vs : List Variable) (v : Variable) (k : IdCode) → find (has_text v.code) ks ≡ Some k
    → AllByRecursion (λ u. find (has_text u.code) ks ≡ Some (code_of u)) vs → same_kind k v ≡ false → list_any (λ u. bytes_eq u.code v.code) vs ≡ true
    → list_all (λ u. not (bytes_eq u.code v.code) || ((u.size == v.size) && same_flag (code_of u).event (code_of v).event)) vs ≡ false
unfolding same_kind
some_differ ks [] v k f h e any = cc
some_differ ks (u ∷ vs) v k f h e any = by_code (bytes_eq u.code v.code) refl any (some_differ ks vs v k f h.1 e)
  where
    by_code : (b : Bool) → bytes_eq u.code v.code ≡ b → (b || list_any (λ x. bytes_eq x.code v.code) vs) ≡ true
        → (list_any (λ x. bytes_eq x.code v.code) vs ≡ true → list_all
        (λ x. not (bytes_eq x.code v.code) || ((x.size == v.size) && same_flag (code_of x).event (code_of v).event)) vs ≡ false)
        → ((not b || ((u.size == v.size) && same_flag (code_of u).event (code_of v).event)) && list_all
        (λ x. not (bytes_eq x.code v.code) || ((x.size == v.size) && same_flag (code_of x).event (code_of v).event)) vs) ≡ false
    by_code false q a more = more a
    by_code true q a more =
        let s : Some k ≡ Some (code_of u) = sym (subst (λ t. find (has_text t) ks ≡ Some k) (sym (same_bytes u.code v.code q)) f) ∙ h.0 in
        let d : code_of u ≡ k = cc in
        rw (ap (λ (x : IdCode). (x.size == v.size) && same_flag x.event (code_of v).event) d ∙ e) refl

-- a variable agrees with the others where it does with the code found
agrees_as : (text : List ℕ) (es : Codes) (ds : List Declaration) (v : Variable) (k : IdCode) → HasCodes text es ds
    → find (has_text v.code) (codes_of ds) ≡ Some k → agrees ds v ≡ same_kind k v
agrees_as text es ds v k h f = by_kind (same_kind k v) refl
  where
    by_kind : (b : Bool) → same_kind k v ≡ b → agrees ds v ≡ b
    by_kind true q = all_agree (codes_of ds) (variables_of ds) v k f h.known q
    by_kind false q = some_differ (codes_of ds) (variables_of ds) v k f h.known q (h.seen v.code ∙ ap is_some f)

flags_same : (a b : Bool) → same_flag a b ≡ true → a ≡ b
flags_same true true e = refl
flags_same true false e = cc
flags_same false true e = cc
flags_same false false e = refl

module _ (text : List ℕ) (es : Codes) (ds : List Declaration) (v : Variable) (bytes : List ℕ) (size : ℕ) (event : Bool) (position : ℕ) (c : Code)
    (h : HasCodes text es ds) (is : code_of v ≡ record { text = bytes; size = size; event = event }) (f : Finds (codes_of ds) v.code (Some position))
    (at : slice_get es.list.items position ≡ Some c) where
  listed_code : IsCode text c f.0
  listed_code = let k = code_of_shown text es.list.items (codes_of ds) position c h.held.stand at in subst (IsCode text c) (same_Some k.0 f.0 (sym k.1 ∙ f.1)) k.2

  -- so it does where the code that is listed has this size and is of this kind
  pub agrees_at : agrees ds v ≡ is_of c size event
  unfolding same_kind
  agrees_at =
      let k = listed_code in
      agrees_as text es ds v f.0 h f.2 ∙ (λ j. (sym k.size_is j == (is j).size) && same_flag (sym k.event_is j) (is j).event)

  -- and is then the variable's
  pub found_is : is_of c size event ≡ true → f.0 ≡ code_of v
  found_is e =
      let k = listed_code in
      let p = and_parts (c.size == size) (same_flag c.event event) e in
      let t : v.code ≡ f.0.text = (bytes_eq-Decides v.code f.0.text).0 (find_passes (has_text v.code) (codes_of ds) f.0 f.2) in
      λ j. record {
        text = sym t j;
        size = (sym k.size_is ∙ eqb-true c.size size p.0 ∙ ap (λ (x : IdCode). x.size) (sym is)) j;
        event =
            (sym k.event_is ∙ flags_same c.event event p.1 ∙ ap (λ (x : IdCode). x.event) (sym is)) j;
      }

-- ---- a draft with one code more

pub held_alias : (text : List ℕ) (es : Codes) (ds : List Declaration) (v : Variable) (position : ℕ) → HasCodes text es ds
    → slice_get (codes_of ds) position ≡ Some (code_of v) → find (has_text v.code) (codes_of ds) ≡ Some (code_of v)
    → CodeHeld text text es ds v position
held_alias text es ds v position h at f = record {
  held_codes = codes_alias text es ds v h f;
  held_at = ap (λ ks. slice_get ks position) (codes-alias ds v (h.seen v.code ∙ ap is_some f)) ∙ at;
  more = [];
  grown = sym (append-nil text);
  short = omega arith;
}

pub held_new : (old new : List ℕ) (before after : Codes) (ds : List Declaration) (v : Variable) (k : List ℕ) (key : CodeKey) (code : Code)
    (position : ℕ) → HasCodes old before ds → shape_of key ≡ shape_in k → AreBytes k → find (has_text v.code) (codes_of ds) ≡ None → k ≡ v.code
    → IsSize (code_of v).size
    → code ≡ record { start = length old; len = length k; size = (code_of v).size; event = (code_of v).event } → new ≡ old ++ k
    → position ≡ length (codes_of ds) → after.list.items ≡ before.list.items ++ code ∷ [] → keys_of after ≡ keys_of before ++ key ∷ []
    → Rises after.rising.items → CodeHeld old new after ds v position
held_new old new before after ds v k key code position h own bytes f b size is_code text at listed behind rises =
    let from = ap (λ (c : Code). c.start) is_code in
    let size_of = ap (λ (c : Code). c.len) is_code in
    let is : IsCode (old ++ k) code (code_of v) = record {
      within = omega (arith, length-append old k);
      text_is = ap (λ l. slice_range l code.start (code.start + code.len)) (ap (λ l. old ++ l) (sym (append-nil k)))
          ∙ range_at old k [] code.start (code.start + code.len) from (omega arith) ∙ b;
      size_is = ap (λ (c : Code). c.size) is_code;
      event_is = ap (λ (c : Code). c.event) is_code;
    } in
    record {
      held_codes = rw text (codes_new old k before after ds v k key code h own bytes f b listed behind rises is size);
      held_at = ap (λ ks. slice_get ks position) (codes-new ds v (h.seen v.code ∙ ap is_some f)) ∙ ap (slice_get (codes_of ds ++ code_of v ∷ [])) at
          ∙ slice_get-seam (codes_of ds) (code_of v) [];
      more = k;
      grown = text;
      short = omega (arith, ap length b);
    }
