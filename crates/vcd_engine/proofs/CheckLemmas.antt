-- What `check` keeps after one item more, and its report.
use Rattle.vcd_engine.proofs.Cited.{◌≡◌, ℕ, suc, ◌+◌, ◌≤◌, Bool, true, false, cond, List, [], ◌∷◌, ◌++◌, length, count_by, filter_map, codes, refl, sym, ap, ◌∙◌, arith, append-nil, append_assoc, decimal, length_push, filter_map-append, sum_by-append, count_by-le-length, AllZip-long, count_line, number_or_dash, Declaration, IdCode, is_scope, variables_of, Header, BodyItem, marks, time_mark, is_begin, change_of, last_mark, parts, AreRows, IsCode, Views, HeadView, Row, model_section, Regs, AreCounted, last_time_of, opens_scope, declares_variable, Check, filter_map_len}
use Rattle.vcd_model.specs.CheckAndList.{check_close}
use Rattle.vcd_model.specs.Items.{Change as Changed}
use Rattle.vcd_engine.proofs.EngineLemmas.{marks_push, marks_stay}

-- ---- the counts

count_push : (items : List BodyItem) (x : BodyItem) → count_by is_begin (items ++ x ∷ []) ≡ count_by is_begin items + cond (is_begin x) 1 0
count_push items x = sum_by-append (λ y. cond (is_begin y) 1 0) items (x ∷ []) ∙ omega arith

changes_push : (items : List BodyItem) (x : BodyItem) → filter_map change_of (items ++ x ∷ []) ≡ filter_map change_of items ++ filter_map change_of (x ∷ [])
changes_push items x = filter_map-append change_of items (x ∷ [])

-- an item that is no change
changes_stay : (items : List BodyItem) (x : BodyItem) → filter_map change_of (x ∷ []) ≡ [] → filter_map change_of (items ++ x ∷ []) ≡ filter_map change_of items
changes_stay items x e = changes_push items x ∙ ap (λ l. filter_map change_of items ++ l) e ∙ append-nil (filter_map change_of items)

-- the item, and the counts with it
module _ (items : List BodyItem) (c : Check) (a : AreCounted items c) where
  pub counted_time : (t : ℕ) → AreCounted (items ++ BodyItem.Time t ∷ []) (record { times = c.times + 1; sections = c.sections; changes = c.changes })
  counted_time t = let x = BodyItem.Time t in record {
    times = ap (λ n. n + 1) a.times ∙ sym (ap length (marks_push items x) ∙ length_push (marks items) t);
    sections = let e = count_push items x in let b = a.sections in omega arith;
    changes = a.changes ∙ sym (ap length (changes_stay items x refl));
  }

  pub counted_begin : (s : _) → AreCounted (items ++ BodyItem.Begin (model_section s) ∷ []) (record { times = c.times; sections = c.sections + 1; changes = c.changes })
  counted_begin s = let x = BodyItem.Begin (model_section s) in record {
    times = a.times ∙ sym (ap length (marks_stay items x refl));
    sections = let e = count_push items x in let b = a.sections in omega arith;
    changes = a.changes ∙ sym (ap length (changes_stay items x refl));
  }

  pub counted_end : AreCounted (items ++ BodyItem.End ∷ []) c
  counted_end = let x = BodyItem.End in record {
    times = a.times ∙ sym (ap length (marks_stay items x refl));
    sections = let e = count_push items x in let b = a.sections in omega arith;
    changes = a.changes ∙ sym (ap length (changes_stay items x refl));
  }

  pub counted_change : (y : Changed) → AreCounted (items ++ BodyItem.Changes y ∷ []) (record { times = c.times; sections = c.sections; changes = c.changes + 1 })
  counted_change y = let x = BodyItem.Changes y in record {
    times = a.times ∙ sym (ap length (marks_stay items x refl));
    sections = let e = count_push items x in let b = a.sections in omega arith;
    changes = ap (λ n. n + 1) a.changes ∙ sym (ap length (changes_push items x) ∙ length_push (filter_map change_of items) y);
  }

-- ---- no count is greater than the number of items

-- each count is at most the number of items
pub record AreFew (n : ℕ) (c : Check) : Type 0 where
  pub times : c.times ≤ n
  pub sections : c.sections ≤ n
  pub changes : c.changes ≤ n

pub are_few : (items : List BodyItem) (c : Check) → AreCounted items c → AreFew (length items) c
are_few items c a = record {
  times = rw a.times (filter_map_len time_mark items);
  sections = rw a.sections (count_by-le-length is_begin items);
  changes = rw a.changes (filter_map_len change_of items);
}

-- ---- the rows of a view

counted : {A : Type 0} (p : A → Bool) (x : A) (xs : List A) → count_by p (x ∷ xs) ≡ cond (p x) 1 0 + count_by p xs
counted p x xs = sum_by-append (λ y. cond (p y) 1 0) (x ∷ []) xs ∙ omega arith

-- one more of both
both : {A B : Type 0} (p : A → Bool) (q : B → Bool) (x : A) (xs : List A) (y : B) (ys : List B) → p x ≡ q y → count_by p xs ≡ count_by q ys
    → count_by p (x ∷ xs) ≡ count_by q (y ∷ ys)
both p q x xs y ys e f = counted p x xs ∙ rw (e, f) refl ∙ sym (counted q y ys)

abbrev scope_row : Row → Bool
scope_row r = opens_scope r.kind

abbrev variable_row : Row → Bool
variable_row r = declares_variable r.kind

scopes_are : (text : List ℕ) (codes : List IdCode) (earlier : List Declaration) (rs : List Row) (ds : List Declaration)
    → AreRows text codes earlier rs ds → count_by scope_row rs ≡ count_by is_scope ds
scopes_are text codes earlier [] [] a = refl
scopes_are text codes earlier [] (d ∷ ds) a = absurd a
scopes_are text codes earlier (r ∷ rs) [] a = absurd a
scopes_are text codes earlier (r ∷ rs) (Declaration.Scope type name ∷ ds) a = let d = Declaration.Scope type name in
    both scope_row is_scope r rs d ds (ap opens_scope a.0.own.0) (scopes_are text codes (earlier ++ d ∷ []) rs ds a.1)
scopes_are text codes earlier (r ∷ rs) (Declaration.Up ∷ ds) a = let d = Declaration.Up in
    both scope_row is_scope r rs d ds (ap opens_scope a.0.own.0) (scopes_are text codes (earlier ++ d ∷ []) rs ds a.1)
scopes_are text codes earlier (r ∷ rs) (Declaration.Var v ∷ ds) a = let d = Declaration.Var v in
    both scope_row is_scope r rs d ds (ap opens_scope a.0.own.0) (scopes_are text codes (earlier ++ d ∷ []) rs ds a.1)

-- a row that declares no variable, and one that does
not_one : (r : Row) (rs : List Row) (n : ℕ) → declares_variable r.kind ≡ false → count_by variable_row rs ≡ n → count_by variable_row (r ∷ rs) ≡ n
not_one r rs n e f = counted variable_row r rs ∙ rw (e, f) (omega arith)

one_more : (r : Row) (rs : List Row) (n : ℕ) → declares_variable r.kind ≡ true → count_by variable_row rs ≡ n → count_by variable_row (r ∷ rs) ≡ suc n
one_more r rs n e f = counted variable_row r rs ∙ rw (e, f) (omega arith)

variables_are : (text : List ℕ) (codes : List IdCode) (earlier : List Declaration) (rs : List Row) (ds : List Declaration)
    → AreRows text codes earlier rs ds → count_by variable_row rs ≡ length (variables_of ds)
variables_are text codes earlier [] [] a = refl
variables_are text codes earlier [] (d ∷ ds) a = absurd a
variables_are text codes earlier (r ∷ rs) [] a = absurd a
variables_are text codes earlier (r ∷ rs) (Declaration.Scope type name ∷ ds) a = not_one r rs (length (variables_of ds))
    (ap declares_variable a.0.own.0) (variables_are text codes (earlier ++ Declaration.Scope type name ∷ []) rs ds a.1)
variables_are text codes earlier (r ∷ rs) (Declaration.Up ∷ ds) a = not_one r rs (length (variables_of ds)) (ap declares_variable a.0.own.0)
    (variables_are text codes (earlier ++ Declaration.Up ∷ []) rs ds a.1)
variables_are text codes earlier (r ∷ rs) (Declaration.Var v ∷ ds) a = one_more r rs (length (variables_of ds)) (ap declares_variable a.0.own.0)
    (variables_are text codes (earlier ++ Declaration.Var v ∷ []) rs ds a.1)

-- the seven lines: six that are written together, and one more
regroup : (a b c d e f t : List ℕ) → (a ++ (b ++ (c ++ (d ++ (e ++ (f ++ [])))))) ++ t ≡ a ++ b ++ c ++ d ++ e ++ f ++ t
regroup a b c d e f t = simp (append_assoc, append-nil)

abbrev pub six_lines : (s n k : ℕ) → Check → List ℕ
six_lines s n k c =
    count_line (codes "scopes") (decimal s)
    ++ (count_line (codes "variables") (decimal n) ++ (count_line (codes "codes") (decimal k) ++
    (count_line (codes "times") (decimal c.times) ++ (count_line (codes "sections") (decimal c.sections) ++
    (count_line (codes "changes") (decimal c.changes) ++ [])))))

pub report_is : (v : HeadView) (h : Header) (items : List BodyItem) (c : Check) (r : Regs) (s n : ℕ) → Views (parts v) h → AreCounted items c
    → last_time_of r ≡ last_mark items → s ≡ count_by (λ r. opens_scope r.kind) v.rows.now → n ≡ count_by (λ r. declares_variable r.kind) v.rows.now
    → six_lines s n (length v.codes.now) c ++ count_line (codes "last") (number_or_dash (last_time_of r)) ≡ check_close h items
unfolding check_close
report_is v h items c r s n views counted last scopes variables =
    let declared : count_by is_scope h.declarations ≡ s = sym (scopes ∙ scopes_are (parts v).text h.codes [] v.rows.now h.declarations views.rows) in
    let vars : length (variables_of h.declarations) ≡ n = sym (variables ∙ variables_are (parts v).text h.codes [] v.rows.now h.declarations views.rows) in
    let codes_are : length h.codes ≡ length v.codes.now = AllZip-long (IsCode (parts v).text) v.codes.now h.codes views.codes in
    regroup (count_line (codes "scopes") (decimal s)) (count_line (codes "variables") (decimal n))
    (count_line (codes "codes") (decimal (length v.codes.now))) (count_line (codes "times") (decimal c.times))
    (count_line (codes "sections") (decimal c.sections)) (count_line (codes "changes") (decimal c.changes)) (count_line (codes "last") (number_or_dash (last_time_of r)))
    ∙ rw (declared, vars, codes_are, sym counted.times, sym counted.sections, sym counted.changes, sym last) refl
