-- What is held stays held where texts, codes and rows grow.
use Rattle.vcd_head.proofs.Cited.{◌≡◌, ℕ, zero, suc, ◌+◌, ◌-◌, ◌≤◌, true, false, cond, List, [], ◌∷◌, ◌++◌, length, take, drop, slice_range, filter_map, bytes_eq, Option, Some, None, refl, sym, ap, subst, ◌∙◌, arith, AllZip, list_any, append_assoc, append-nil, take-append-le, length-append, length-drop, filter_map-append, each_after, Declaration, Variable, IdCode, code_of, variables_of, variable_of, Row, Code, HasTexts, IsRow, IsRowOf, AreRows, IsCode, slice_get-front}
use Rattle.vcd_model.specs.Declarations.{codes_of}

-- ---- texts

drop_grow : (a : ℕ) (t more : List ℕ) → a ≤ length t → drop a (t ++ more) ≡ drop a t ++ more
drop_grow zero t more h = refl
drop_grow (suc a) [] more h = absurd (omega arith)
drop_grow (suc a) (x ∷ t) more h = drop_grow a t more (omega arith)

pub range_grow : (t more : List ℕ) (a b : ℕ) → a ≤ b → b ≤ length t → slice_range (t ++ more) a b ≡ slice_range t a b
range_grow t more a b h k = ap (take (b - a)) (drop_grow a t more (omega arith)) ∙ take-append-le (b - a) (drop a t) more (omega (arith, length-drop a t))

pub is_code_grow : (t more : List ℕ) (c : Code) (k : IdCode) → IsCode t c k → IsCode (t ++ more) c k
is_code_grow t more c k h = record {
  within = let w = h.within in omega (arith, length-append t more);
  text_is = range_grow t more c.start (c.start + c.len) (omega arith) h.within ∙ h.text_is;
  size_is = h.size_is;
  event_is = h.event_is;
}

pub are_codes_grow : (t more : List ℕ) (cs : List Code) (ks : List IdCode) → AllZip (IsCode t) cs ks → AllZip (IsCode (t ++ more)) cs ks
are_codes_grow t more [] [] h = tt
are_codes_grow t more [] (k ∷ ks) h = h
are_codes_grow t more (c ∷ cs) [] h = h
are_codes_grow t more (c ∷ cs) (k ∷ ks) h = (is_code_grow t more c k h.0, are_codes_grow t more cs ks h.1)

pub has_texts_grow : (t more : List ℕ) (r : Row) (type : List ℕ) (reference : List (List ℕ)) → HasTexts t r type reference → HasTexts (t ++ more) r type reference
has_texts_grow t more r type reference h =
    let w = h.within in
    let n = h.name_within in
    record {
      within = omega (arith, length-append t more);
      word_len = h.word_len;
      word_is = range_grow t more r.start (r.start + r.word) (omega arith) (omega arith) ∙ h.word_is;
      all_len = h.all_len;
      all_is = range_grow t more (r.start + r.word) (r.start + r.word + r.all) (omega arith) (omega arith) ∙ h.all_is;
      some_token = h.some_token;
      name_within = h.name_within;
      name_is = range_grow t more (r.start + r.word) (r.start + r.word + r.name) (omega arith) (omega arith) ∙ h.name_is;
    }

-- ---- rows

row_of_grow : (t more : List ℕ) (cs ks : List IdCode) (r : Row) (d : Declaration) → IsRowOf t cs r d → IsRowOf (t ++ more) (cs ++ ks) r d
row_of_grow t more cs ks r (Declaration.Scope type name) h = (h.0, has_texts_grow t more r type (name ∷ []) h.1, h.2)
row_of_grow t more cs ks r Declaration.Up h = h
row_of_grow t more cs ks r (Declaration.Var v) h = (h.0, has_texts_grow t more r v.type v.reference h.1, slice_get-front cs ks r.code (code_of v) h.2)

pub are_rows_grow : (t more : List ℕ) (cs ks : List IdCode) (e : List Declaration) (rs : List Row) (ds : List Declaration) → AreRows t cs e rs ds → AreRows (t ++ more) (cs ++ ks) e rs ds
are_rows_grow t more cs ks e [] [] h = tt
are_rows_grow t more cs ks e [] (d ∷ ds) h = h
are_rows_grow t more cs ks e (r ∷ rs) [] h = h
are_rows_grow t more cs ks e (r ∷ rs) (d ∷ ds) h = (record { parent_is = h.0.parent_is; own = row_of_grow t more cs ks r d h.0.own }, are_rows_grow t more cs ks (e ++ d ∷ []) rs ds h.1)

pub are_rows_push : (t : List ℕ) (cs : List IdCode) (e : List Declaration) (rs : List Row) (ds : List Declaration) (r : Row) (d : Declaration)
    → AreRows t cs e rs ds → IsRow t cs (e ++ ds) r d → AreRows t cs e (rs ++ r ∷ []) (ds ++ d ∷ [])
are_rows_push t cs e [] [] r d h k = (subst (λ x. IsRow t cs x r d) (append-nil e) k, tt)
are_rows_push t cs e [] (x ∷ ds) r d h k = absurd h
are_rows_push t cs e (s ∷ rs) [] r d h k = absurd h
are_rows_push t cs e (s ∷ rs) (x ∷ ds) r d h k = (h.0, are_rows_push t cs (e ++ x ∷ []) rs ds r d h.1 (subst (λ y. IsRow t cs y r d) (sym (append_assoc e (x ∷ []) ds)) k))

-- ---- codes, one declaration on

each_push : {X Y : Type 0} (f : List X → X → Y) (e xs : List X) (x : X) → each_after f e (xs ++ x ∷ []) ≡ each_after f e xs ++ f (e ++ xs) x ∷ []
each_push f e [] x = ap (λ l. f l x ∷ []) (sym (append-nil e))
each_push f e (y ∷ xs) x = ap (λ l. f e y ∷ l) (each_push f (e ++ y ∷ []) xs x ∙ ap (λ l. each_after f (e ++ y ∷ []) xs ++ f l x ∷ []) (append_assoc e (y ∷ []) xs))

new_code_of : List Variable → Variable → Option IdCode
new_code_of earlier v = cond (list_any (λ u. bytes_eq u.code v.code) earlier) None (Some (code_of v))

pub variables_push : (ds : List Declaration) (d : Declaration) → variables_of (ds ++ d ∷ []) ≡ variables_of ds ++ variables_of (d ∷ [])
variables_push ds d = filter_map-append variable_of ds (d ∷ [])

codes_push : (ds : List Declaration) (v : Variable) → codes_of (ds ++ Declaration.Var v ∷ []) ≡ codes_of ds ++ filter_map (λ o. o) (new_code_of (variables_of ds) v ∷ [])
unfolding codes_of new_code_of
codes_push ds v =
    ap (λ vs. filter_map (λ o. o) (each_after new_code_of [] vs)) (variables_push ds (Declaration.Var v)) ∙ ap (filter_map (λ o. o)) (each_push new_code_of [] (variables_of ds) v)
    ∙ filter_map-append (λ o. o) (each_after new_code_of [] (variables_of ds)) (new_code_of (variables_of ds) v ∷ [])

pub codes-alias : (ds : List Declaration) (v : Variable) → list_any (λ u. bytes_eq u.code v.code) (variables_of ds) ≡ true → codes_of (ds ++ Declaration.Var v ∷ []) ≡ codes_of ds
unfolding new_code_of
codes-alias ds v h = codes_push ds v ∙ rw h (append-nil (codes_of ds))

pub codes-new : (ds : List Declaration) (v : Variable) → list_any (λ u. bytes_eq u.code v.code) (variables_of ds) ≡ false
    → codes_of (ds ++ Declaration.Var v ∷ []) ≡ codes_of ds ++ code_of v ∷ []
unfolding new_code_of
codes-new ds v h = codes_push ds v ∙ rw h refl

pub codes-other : (ds : List Declaration) (d : Declaration) → variable_of d ≡ None → codes_of (ds ++ d ∷ []) ≡ codes_of ds
unfolding codes_of
codes-other ds d h = ap (λ vs. filter_map (λ o. o) (each_after
    (λ earlier v. cond (list_any (λ u. bytes_eq u.code v.code) earlier) None (Some (code_of v))) [] vs)) (variables_push ds d
    ∙ rw h (append-nil (variables_of ds)))

-- ---- codes, one variable on

-- codes stay where they are
pub codes_grown : (ds : List Declaration) (v : Variable) → (more : List IdCode) × (codes_of (ds ++ Declaration.Var v ∷ []) ≡ codes_of ds ++ more)
codes_grown ds v = (filter_map (λ o. o) (new_code_of (variables_of ds) v ∷ []), codes_push ds v)
