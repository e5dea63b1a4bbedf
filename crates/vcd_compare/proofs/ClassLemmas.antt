-- The ends of classes, one more at a time: from the last end of a code on, each leads to the one
-- before it.
use Rattle.vcd_compare.proofs.Cited.{◌≡◌, ◌≢◌, ℕ, suc, ◌*◌, ◌<◌, ◌≤◌, ◌==◌, not, if◌then◌else◌, Bool, true, false, List, [], ◌∷◌, ◌++◌, length, set, get_or, slice_get, Some, inl, inr, refl, sym, ap, subst, ◌∙◌, arith, cases_eq, eqb-false, eqb-true, list_any, position_or_len, get_or-set_other, get_or-set_same, length-append, length-set, get_or_from_slice_get, slice_get-get_or, slice_get_within, slice_get-front, slice_get-seam, AreLinked, IsLastEnd, End, AddsEnd, EntersClass, HasClasses, same_key}
use Rattle.std.proofs.lemmas.List.{append_assoc, append-nil}
use Rattle.vcd_compare.proofs.PathTexts.{at_most, first_passes, none_first, same_is}

-- an end more, of another code
last_other : (ends : List End) (e : End) (code n : ℕ) → e.code ≢ code → IsLastEnd ends (length ends) code n → IsLastEnd (ends ++ e ∷ []) (suc (length ends)) code n
last_other ends e code n differs l = record {
  within = let w = l.within in omega (arith, w);
  is = λ i q. let f = l.is i q in (f.0, slice_get-front ends (e ∷ []) i f.0 f.1, f.2);
  none = λ i f from below at. elim (at_most ends e f i at) [
    | inl old ↦ l.none i f from (slice_get_within ends i f old) old
    | inr new ↦ λ same. differs (ap (λ (x : End). x.code) (sym new.1) ∙ same)
  ];
}

-- an end more, after the bound
last_stays : (ends : List End) (e : End) (below code n : ℕ) → below ≤ length ends → IsLastEnd ends below code n → IsLastEnd (ends ++ e ∷ []) below code n
last_stays ends e below code n few l = record {
  within = l.within;
  is = λ i q. let f = l.is i q in (f.0, slice_get-front ends (e ∷ []) i f.0 f.1, f.2);
  none = λ i f from below at. elim (at_most ends e f i at) [
    | inl old ↦ l.none i f from below old
    | inr new ↦ absurd (omega (arith, new.0, below, few))
  ];
}

-- the end itself
last_new : (ends : List End) (e : End) → IsLastEnd (ends ++ e ∷ []) (suc (length ends)) e.code (suc (length ends))
last_new ends e = record {
  within = omega arith;
  is = λ i q. let same : i ≡ length ends = omega (arith, q) in (e, ap (slice_get (ends ++ e ∷ [])) same ∙ slice_get-seam ends e [], refl);
  none = λ i f from below at. absurd (omega (arith, from, below));
}

pub linked_more : (ends : List End) (last : List ℕ) (code : ℕ) → code < length last → AreLinked ends last
    → AreLinked (ends ++ record { code = code; earlier = get_or last code 0 } ∷ []) (set last code (suc (length ends)))
linked_more ends last code l are = record {
  each = λ i e at. elim (at_most ends (record { code = code; earlier = get_or last code 0 }) e i at) [
    | inl old ↦ last_stays ends (record { code = code; earlier = get_or last code 0 }) i e.code e.earlier (let w = slice_get_within ends i e old in omega (arith, w)) (are.each i e old)
    | inr new ↦
        let old = are.from code (get_or last code 0) (slice_get-get_or last code 0 l) in
        let stays = last_stays ends (record { code = code; earlier = get_or last code 0 }) (length ends) code (get_or last code 0) (omega arith) old in
        subst (λ (x : End). IsLastEnd (ends ++ record { code = code; earlier = get_or last code 0 } ∷ []) i x.code x.earlier) (sym new.1)
        (subst (λ b. IsLastEnd (ends ++ record { code = code; earlier = get_or last code 0 } ∷ []) b code (get_or last code 0)) (sym new.0) stays)
  ];
  from = λ other n at. by_code other n at (other == code) refl;
}
  where
    here : End
    here = record { code = code; earlier = get_or last code 0 }

    len : length (ends ++ here ∷ []) ≡ suc (length ends)
    len = let m = length-append ends (here ∷ []) in omega (arith, m)

    by_code : (other n : ℕ) → slice_get (set last code (suc (length ends))) other ≡ Some n → (b : Bool) → (other == code) ≡ b
        → IsLastEnd (ends ++ here ∷ []) (length (ends ++ here ∷ [])) other n
    by_code other n at true q =
        let same = eqb-true other code q in
        let value : suc (length ends) ≡ n =
        sym (get_or-set_same last code (suc (length ends)) 0 l) ∙ ap (λ j. get_or (set last code (suc (length ends))) j 0) (sym same)
        ∙ get_or_from_slice_get (set last code (suc (length ends))) other n 0 at in
        subst (λ b. IsLastEnd (ends ++ here ∷ []) b other n) (sym len)
        (subst (λ m. IsLastEnd (ends ++ here ∷ []) (suc (length ends)) other m) value
        (subst (λ c. IsLastEnd (ends ++ here ∷ []) (suc (length ends)) c (suc (length ends))) (sym same) (last_new ends here)))
    by_code other n at false q =
        let apart = eqb-false other code q in
        let within = slice_get_within (set last code (suc (length ends))) other n at in
        let value : get_or last other 0 ≡ n = sym (get_or-set_other last code other (suc (length ends)) 0 apart) ∙ get_or_from_slice_get (set last code (suc (length ends))) other n 0 at in
        let old = are.from other (get_or last other 0) (slice_get-get_or last other 0 (let s = length-set last code (suc (length ends)) in omega (arith, within, s))) in
        subst (λ b. IsLastEnd (ends ++ here ∷ []) b other n) (sym len)
        (subst (λ m. IsLastEnd (ends ++ here ∷ []) (suc (length ends)) other m) value
        (last_other ends here other (get_or last other 0) (λ e. apart (sym e)) old))

-- ---- a class more

two_more : (keys : List (ℕ × ℕ)) (ends : List End) (last : List ℕ) (codes : ℕ × ℕ) → codes.0 < length last → codes.1 < length last → HasClasses keys ends last
    → (mid new : List End) (mid_last new_last : List ℕ) → AddsEnd ends mid last mid_last codes.0 → AddsEnd mid new mid_last new_last codes.1
    → EntersClass keys (keys ++ codes ∷ []) ends new last new_last codes (length keys)
two_more keys ends last codes a b has mid new mid_last new_last one two =
    let first : End = record { code = codes.0; earlier = get_or last codes.0 0 } in
    let second : End = record { code = codes.1; earlier = get_or mid_last codes.1 0 } in
    let room_one : length mid_last ≡ length last = ap length one.last_is ∙ length-set last codes.0 (suc (length ends)) in
    let room_two : length new_last ≡ length mid_last = ap length two.last_is ∙ length-set mid_last codes.1 (suc (length mid)) in
    let linked_one : AreLinked mid mid_last = subst (λ l. AreLinked mid l) (sym one.last_is)
    (subst (λ e. AreLinked e (set last codes.0 (suc (length ends)))) (sym one.ends_are) (linked_more ends last codes.0 a has.linked)) in
    let linked_two : AreLinked new new_last =
    subst (λ l. AreLinked new l) (sym two.last_is) (subst (λ e. AreLinked e (set mid_last codes.1 (suc (length mid)))) (sym two.ends_are)
    (linked_more mid mid_last codes.1 (omega (arith, b, room_one)) linked_one)) in
    let grows : new ≡ ends ++ (first ∷ second ∷ []) = two.ends_are ∙ ap (λ l. l ++ second ∷ []) one.ends_are ∙ append_assoc ends (first ∷ []) (second ∷ []) in
    let lens = length-append ends (first ∷ second ∷ []) in
    let all = ap length grows in
    let keys_len = length-append keys (codes ∷ []) in
    let count = has.count in
    record {
      has = record {
        linked = linked_two;
        count = omega (arith, keys_len, all, lens, count);
        each = λ class key at. elim (at_most keys codes key class at) [
          | inl old ↦
              let is = has.each class key old in (
                (is.0.0, ap (λ l. slice_get l (2 * class)) grows ∙ slice_get-front ends (first ∷ second ∷ []) (2 * class) is.0.0 is.0.1, is.0.2),
                (is.1.0, ap (λ l. slice_get l (suc (2 * class))) grows ∙ slice_get-front ends (first ∷ second ∷ []) (suc (2 * class)) is.1.0 is.1.1, is.1.2),
              )
          | inr last_one ↦
              let even : 2 * class ≡ length ends = let same = last_one.0 in omega (arith, same, count) in
              let odd : suc (2 * class) ≡ length (ends ++ first ∷ []) = let l = length-append ends (first ∷ []) in omega (arith, even, l) in (
                (
                  first,
                  ap (λ l. slice_get l (2 * class)) grows ∙ ap (slice_get (ends ++ first ∷ second ∷ [])) even
                      ∙ slice_get-seam ends first (second ∷ []),
                  sym (ap (λ (k : ℕ × ℕ). k.0) last_one.1),
                ),
                (
                  second,
                  ap (λ l. slice_get l (suc (2 * class))) (grows ∙ sym (append_assoc ends (first ∷ []) (second ∷ []))) ∙ ap (slice_get ((ends ++ first ∷ []) ++ second ∷ [])) odd
                      ∙ slice_get-seam (ends ++ first ∷ []) second [],
                  sym (ap (λ (k : ℕ × ℕ). k.1) last_one.1),
                ),
              )
        ];
      };
      more = first ∷ second ∷ [];
      grows = grows;
      room = room_two ∙ room_one;
      at = slice_get-seam keys codes [];
      old_or_new = λ other l. elim (cases_eq other (length keys)) [ inl same ↦ inr same | inr apart ↦ inl (omega (arith, l, keys_len, apart)) ];
    }

-- a class that is there
pub class_found : (keys new_keys : List (ℕ × ℕ)) (ends : List End) (last : List ℕ) (codes : ℕ × ℕ) (class : ℕ) → HasClasses keys ends last
    → new_keys ≡ (if list_any (same_key codes) keys then keys else keys ++ codes ∷ []) → class ≡ position_or_len (same_key codes) keys
    → false ≡ not (list_any (same_key codes) keys) → EntersClass keys new_keys ends ends last last codes class
class_found keys new_keys ends last codes class has e at old = by_test (list_any (same_key codes) keys) refl
  where
    by_test : (b : Bool) → list_any (same_key codes) keys ≡ b → EntersClass keys new_keys ends ends last last codes class
    by_test true q =
        let first = first_passes (same_key codes) keys q in
        let same : new_keys ≡ keys = e ∙ rw q refl in
        record {
          has = subst (λ k. HasClasses k ends last) (sym same) has;
          more = [];
          grows = sym (append-nil ends);
          room = refl;
          at = ap (λ k. slice_get k class) same ∙ ap (slice_get keys) at ∙ first.1 ∙ ap Some (sym (same_is codes first.0 first.2));
          old_or_new = λ other l. inl (omega (arith, l, ap length same));
        }
    by_test false q = let no_new = old ∙ ap not q in absurd (cc)

-- a class that is new
pub class_new : (keys new_keys : List (ℕ × ℕ)) (ends mid new : List End) (last mid_last new_last : List ℕ) (codes : ℕ × ℕ) (class : ℕ)
    → codes.0 < length last → codes.1 < length last → HasClasses keys ends last
    → new_keys ≡ (if list_any (same_key codes) keys then keys else keys ++ codes ∷ []) → class ≡ position_or_len (same_key codes) keys → true ≡ not (list_any (same_key codes) keys)
    → AddsEnd ends mid last mid_last codes.0 → AddsEnd mid new mid_last new_last codes.1 → EntersClass keys new_keys ends new last new_last codes class
class_new keys new_keys ends mid new last mid_last new_last codes class a b has e at is one two = by_test (list_any (same_key codes) keys) refl
  where
    by_test : (p : Bool) → list_any (same_key codes) keys ≡ p → EntersClass keys new_keys ends new last new_last codes class
    by_test true q = let no_old = is ∙ ap not q in absurd (cc)
    by_test false q =
        let entered = two_more keys ends last codes a b has mid new mid_last new_last one two in
        let same : new_keys ≡ keys ++ codes ∷ [] = e ∙ rw q refl in
        let index : class ≡ length keys = at ∙ none_first (same_key codes) keys q in
        subst (λ k. EntersClass keys k ends new last new_last codes class) (sym same) (subst (EntersClass keys (keys ++ codes ∷ []) ends new last new_last codes) (sym index) entered)
