-- A merged head declares the variables of all its inputs, each input in a scope of its own and with
-- new codes.
use Rattle.vcd_laws.proofs.Cited.{◌≡◌, ℕ, ℤ, pos, zero, suc, ◌+◌, ◌/◌, ◌%◌, ◌<◌, ◌≤◌, ◌^◌, int_le, Bool, true, false, cond, nat_lt, List, [], ◌∷◌, ◌++◌, length, fold, map, filter_map, flat_map, sum_by, reverse, decimal, codes, bytes_eq, Option, Some, None, unwrap_or, inl, inr, refl, sym, ap, ◌∙◌, subst, arith, AllByRecursion, list_all, concat, join_with_byte, append_assoc, append-nil, length-append, length_push, reverse-append, flat_map-append, filter_map-append, sum_by-cons, and_from, le-leb, is_code_byte, each_after, Declaration, Variable, IdCode, variable_of, variables_of, code_of, open_scopes, Header, scope_line, up_line, base94, code_place, first_number, renamed, exponent, smaller, input_head, Selected, with_path, declared_code, most_declared, IsShallow, merged_variable, IsWord, all_append, AreCodes, each_after-append, renamed_same, number_below, first_number_le, numbers_apart, new_code_word, IsGoodScale, scale_good, AreDeclared, declaration_line, decimal_word, plain_word, AreGoodScales, Open, HasOpen, has_scope, has_up, open_count, with_code, written, text_of_rows}
use Rattle.vcd_model.specs.Scales.{exponent_of}
use Rattle.vcd_model.specs.HeadText.{new_code, least_exponent}
use Rattle.vcd_model.specs.Selection.{selected}
use Rattle.vcd_laws.proofs.HeadersGood.{IsGoodHeader}
use Rattle.vcd_laws.proofs.WrittenDeclared.{fits, AllFit, IsRenaming, IsInside, image, IsWritten, is_written, AreDeclared-append}
use Rattle.vcd_laws.proofs.WrittenCodes.{In, to_codes_of, found_in}
use Rattle.vcd_laws.proofs.HeadBack.{marks, all_ready, variables_are, all_selected}

-- ---- new codes

base94_bytes : (room n : ℕ) → list_all is_code_byte (base94 room n) ≡ true
base94_bytes zero n = refl
base94_bytes (suc room) n =
    and_from (is_code_byte (33 + n % 94)) _ (digit (n % 94) (omega arith))
    (by_test (nat_lt n 94) (base94_bytes room (n / 94)))
  where
    digit : (d : ℕ) → d < 94 → is_code_byte (33 + d) ≡ true
    digit d h = rw (le-leb 33 (33 + d) (omega arith), le-leb (33 + d) 126 (omega arith)) refl

    by_test : (b : Bool) → list_all is_code_byte (base94 room (n / 94)) ≡ true
        → list_all is_code_byte (elim b [ true ↦ [] | false ↦ base94 room (n / 94) ]) ≡ true
    by_test true more = refl
    by_test false more = more

new_code_bytes : (n : ℕ) → list_all is_code_byte (new_code n) ≡ true
unfolding new_code
new_code_bytes n = base94_bytes (suc n) n

-- a variable whose code has a number below this one
pub record IsNumbered (n : ℕ) (v : Variable) : Type 0 where
  pub number : ℕ
  pub code : v.code ≡ new_code number
  pub below : number < n

numbered_more : (m n : ℕ) (vs : List Variable) → m ≤ n → AllByRecursion (IsNumbered m) vs
    → AllByRecursion (IsNumbered n) vs
numbered_more m n [] l h = tt
numbered_more m n (v ∷ vs) l h = let a = h.0 in (
  record { number = a.number; code = a.code; below = (let b = a.below in omega arith) },
  numbered_more m n vs l h.1,
)

-- the code is one of the header's
abbrev HasOldCode : Header → Variable → Type 0
HasOldCode h v = (c : IdCode) × (declared_code h.codes v.code ≡ Some c)

pub apart_fits : (u v : Variable) → bytes_eq u.code v.code ≡ false → fits v u ≡ true
apart_fits u v e = rw e refl

all_apart : (marked : ℕ → Bool) (rename : List ℕ → List ℕ) (m n : ℕ) (v : Variable)
    (us : List Variable) → rename v.code ≡ new_code n → m ≤ n → AllByRecursion (IsNumbered m) us
    → AllFit (with_code rename marked v) us
all_apart marked rename m n v [] e l h = tt
all_apart marked rename m n v (u ∷ us) e l h =
    let a = h.0 in (
      apart_fits u (with_code rename marked v)
          (ap (bytes_eq u.code) e ∙ ap (λ t. bytes_eq t (new_code n)) a.code
          ∙ numbers_apart a.number n (let b = a.below in omega arith)),
      all_apart marked rename m n v
          us e l h.1,
    )

new_codes : (earlier : List Header) (h : Header) (marked : ℕ → Bool) (outer : List Variable)
    → AllByRecursion (IsNumbered (first_number earlier)) outer
    → IsRenaming (renamed earlier h) marked (HasOldCode h) outer
new_codes earlier h marked outer below = record {
  words = λ v m. new_code_word (first_number earlier + code_place h v.code);
  bytes = λ v m. new_code_bytes (first_number earlier + code_place h v.code);
  outside = λ v m. all_apart marked (renamed earlier h) (first_number earlier)
      (first_number earlier + code_place h v.code) v outer refl (omega arith) below;
  inside = λ u v m n e. rw (renamed_same earlier h u.code v.code m.0 n.0 m.1 n.1) e;
}

-- ---- the scope of an input

abbrev pub scope_name : List Header → List ℕ
scope_name earlier = codes "in" ++ decimal (length earlier + 1)

join_more : (x : List ℕ) (ns : List (List ℕ)) (n : List ℕ)
    → join_with_byte 46 (x ∷ (ns ++ n ∷ [])) ≡ x ++ 46 ∷ join_with_byte 46 (ns ++ n ∷ [])
join_more x [] n = refl
join_more x (m ∷ ns) n = refl

in_scope : (x : List ℕ) → IsInside (x ∷ []) (λ p. x ++ 46 ∷ p)
in_scope x ns n = ap (λ l. join_with_byte 46 (l ++ n ∷ [])) (reverse-append ns (x ∷ []))
    ∙ join_more x (reverse ns) n

in_word : (n : ℕ) → n < 2 ^ 64 → IsWord (codes "in" ++ decimal n)
in_word n h = let w = decimal_word n h in record {
  filled = omega arith;
  plain = (refl, (refl, w.plain));
}

-- ---- one input

abbrev pub selected_after : List (List ℕ) → List Declaration → List Declaration → List Selected
selected_after wanted earlier ds = filter_map (λ o. o) (each_after (with_path wanted) earlier ds)

pub selected_more : (earlier xs ys : List Declaration)
    → selected_after [] earlier (xs ++ ys) ≡ selected_after [] earlier xs
    ++ selected_after [] (earlier ++ xs) ys
selected_more earlier xs ys =
    ap (filter_map (λ o. o)) (each_after-append (with_path []) earlier xs ys)
    ∙ filter_map-append (λ (o : Option Selected). o) (each_after (with_path []) earlier xs)
    (each_after (with_path []) (earlier ++ xs) ys)

pub all_in : {X : Type 0} (P : X → Type 0) (xs : List X) → ((x : X) → In x xs → P x)
    → AllByRecursion P xs
all_in P [] f = tt
all_in P (x ∷ xs) f = (f x (inl refl), all_in P xs (λ y i. f y (inr i)))

abbrev pub input_rows : List Header → Header → List Declaration
input_rows earlier h = Declaration.Scope (codes "module")
    (scope_name earlier) ∷ (written (renamed earlier h) (marks [] h.declarations) h.declarations
    ++ Declaration.Up ∷ [])

in_middle : {X : Type 0} (front back : List X) (x : X) → In x (front ++ x ∷ back)
in_middle [] back x = inl refl
in_middle (y ∷ front) back x = inr (in_middle front back x)

-- all declarations so far, of the headers before
pub record AreMerged (earlier : List Header) (w : List Declaration) : Type 0 where
  pub opens : HasOpen w []
  pub numbered : AllByRecursion (IsNumbered (first_number earlier)) (variables_of w)

module _ (earlier : List Header) (h : Header) (w : List Declaration) (good : IsGoodHeader h)
    (found : AreCodes h.codes) (shallow : IsShallow h) (merged : AreMerged earlier w)
    (few : length earlier + 1 < 2 ^ 64) where
  abbrev opened : List Declaration
  opened = w ++ Declaration.Scope (codes "module") (scope_name earlier) ∷ []

  opened_vars : variables_of opened ≡ variables_of w
  opened_vars = filter_map-append variable_of w
      (Declaration.Scope (codes "module") (scope_name earlier) ∷ []) ∙ append-nil (variables_of w)

  numbered : AllByRecursion (IsNumbered (first_number earlier)) (variables_of opened)
  numbered = subst (AllByRecursion (IsNumbered (first_number earlier))) (sym opened_vars)
      merged.numbered

  depth : (front back : List Declaration) (type name : List ℕ)
      → h.declarations ≡ front ++ Declaration.Scope type name ∷ back
      → open_scopes front + length (scope_name earlier ∷ []) < 1000
  depth front back type name e = let s = shallow front back type name e in omega arith

  old_code : (v : Variable) → In v (variables_of h.declarations) → HasOldCode h v
  old_code v there = (
    code_of v,
    found_in h.codes (code_of v) found
        (subst (In (code_of v)) (sym good.codes)
        (to_codes_of h.declarations v good.declared there)),
  )

  member : (front back : List Declaration) (v : Variable)
      → h.declarations ≡ front ++ Declaration.Var v ∷ back → HasOldCode h v
  member front back v e = old_code v (subst (In v)
      (sym (ap variables_of e ∙ filter_map-append variable_of front (Declaration.Var v ∷ back)))
      (in_middle (variables_of front) (variables_of back) v))

  abbrev marked : ℕ → Bool
  marked = marks [] h.declarations

  abbrev renames : IsRenaming (renamed earlier h) marked (HasOldCode h) (variables_of opened)
  renames = new_codes earlier h marked (variables_of opened) numbered

  abbrev inner : List ℕ → List ℕ
  inner p = scope_name earlier ++ 46 ∷ p

  rows : IsWritten (renamed earlier h) marked [] (HasOldCode h) (variables_of opened)
      (scope_name earlier ∷ []) inner renames (in_scope (scope_name earlier)) opened h.declarations
  rows =
      is_written (renamed earlier h) marked [] (HasOldCode h) (variables_of opened)
      (scope_name earlier ∷ []) inner renames (in_scope (scope_name earlier)) opened
      h.declarations
      ((length w, scope_name earlier) ∷ []) (has_scope w [] (codes "module") (scope_name earlier)
      merged.opens) refl refl
      (all_ready [] h.declarations (renamed earlier h) (HasOldCode h) (variables_of opened)
      (scope_name earlier ∷ []) inner renames (in_scope (scope_name earlier)) depth member
      good.declared)

  abbrev own : List Declaration
  own = written (renamed earlier h) marked h.declarations

  abbrev picture : Selected → Selected
  picture s = image (renamed earlier h) marked [] (HasOldCode h) (variables_of opened)
      (scope_name earlier ∷ []) inner renames (in_scope (scope_name earlier)) s

  variables_own : variables_of own ≡ map (λ (s : Selected). s.variable)
      (map picture (selected [] h.declarations))
  unfolding selected
  variables_own = let r = rows in sym (all_selected opened own)
      ∙ ap (map (λ (s : Selected). s.variable)) r.chosen

  numbered_own : (vs : List Selected) → AllByRecursion (HasOldCode h) (map (λ s. s.variable) vs)
      → AllByRecursion (IsNumbered (first_number (earlier ++ h ∷ [])))
      (map (λ s. s.variable) (map picture vs))
  numbered_own [] a = tt
  numbered_own (s ∷ vs) a = (
    record {
      number = first_number earlier + code_place h s.variable.code;
      code = refl;
      below = number_below earlier h s.variable.code a.0.0 a.0.1;
    },
    numbered_own vs a.1,
  )

  -- the declarations of one more input
  pub record IsOneMore : Type 0 where
    pub declared : AreDeclared w (input_rows earlier h)
    pub chosen : selected_after [] w (input_rows earlier h)
        ≡ map (merged_variable earlier h) (selected [] h.declarations)
    pub all_merged : AreMerged (earlier ++ h ∷ []) (w ++ input_rows earlier h)
    pub fewer : length (input_rows earlier h) ≤ most_declared h + 2

  closed_one : (t : List Open) → HasOpen (opened ++ own) t
      → map (λ e. e.1) t ≡ scope_name earlier ∷ []
      → (0 < open_scopes (opened ++ own)) × HasOpen (opened ++ own ++ Declaration.Up ∷ []) []
  closed_one [] is e = cc
  closed_one (x ∷ []) is e = (
    (let n = open_count (opened ++ own) (x ∷ []) is in omega arith),
    has_up (opened ++ own) x []
        is,
  )
  closed_one (x ∷ y ∷ t) is e = cc

  pub one_more : IsOneMore
  unfolding selected
  one_more =
      let r = rows in
      let shut = closed_one r.t r.wrote r.same in
      let n = open_count w [] merged.opens in
      let scope = Declaration.Scope (codes "module") (scope_name earlier) in
      let back : opened ++ own ++ Declaration.Up ∷ [] ≡ w ++ input_rows earlier h =
      append_assoc opened own (Declaration.Up ∷ [])
      ∙ append_assoc w (scope ∷ []) (own ++ Declaration.Up ∷ []) in
      let vars : variables_of (w ++ input_rows earlier h) ≡ variables_of w ++ variables_of own =
      ap variables_of (sym back)
      ∙ filter_map-append variable_of (opened ++ own) (Declaration.Up ∷ [])
      ∙ append-nil (variables_of (opened ++ own))
      ∙ filter_map-append variable_of opened own ∙ ap (λ l. l ++ variables_of own) opened_vars in
      let fewer = r.few in
      record {
        declared = (
          (
            (omega arith),
            record {
              word = plain_word (codes "module") (omega arith) refl;
              other = refl;
            },
            record { word = in_word (length earlier + 1) few; other = refl },
          ),
          AreDeclared-append opened own (Declaration.Up ∷ []) r.declared (shut.0, tt),
        );
        chosen = selected_more w (scope ∷ []) (own ++ Declaration.Up ∷ [])
            ∙ selected_more opened own (Declaration.Up ∷ [])
            ∙ append-nil (selected_after [] opened own) ∙ r.chosen;
        all_merged = record {
          opens = subst (λ (l : List Declaration). HasOpen l []) back shut.1;
          numbered = subst (AllByRecursion (IsNumbered (first_number (earlier ++ h ∷ []))))
              (sym vars)
              (all_append (IsNumbered (first_number (earlier ++ h ∷ []))) (variables_of w)
              (variables_of own) (numbered_more (first_number earlier)
              (first_number (earlier ++ h ∷ [])) (variables_of w)
              (first_number_le earlier (h ∷ [])) merged.numbered)
              (subst (AllByRecursion (IsNumbered (first_number (earlier ++ h ∷ []))))
              (sym variables_own) (numbered_own (selected [] h.declarations)
              (subst (AllByRecursion (HasOldCode h)) (sym (variables_are h.declarations))
              (all_in (HasOldCode h) (variables_of h.declarations) old_code)))));
        };
        fewer = let a = length-append own (Declaration.Up ∷ []) in omega arith;
      }

-- ---- all inputs

abbrev pub all_rows : List Header → List Header → List Declaration
all_rows earlier [] = []
all_rows earlier (h ∷ hs) = input_rows earlier h ++ all_rows (earlier ++ h ∷ []) hs

input_text : (earlier : List Header) (h : Header)
    → input_head earlier h ≡ flat_map declaration_line (input_rows earlier h)
input_text earlier h =
    let own = written (renamed earlier h) (marks [] h.declarations) h.declarations in
    let scope = scope_line (codes "module") (scope_name earlier) in
    ap (λ l. scope ++ l ++ up_line) (text_of_rows (renamed earlier h) (marks [] h.declarations)
    h.declarations)
    ∙ append_assoc scope (flat_map declaration_line own) up_line
    ∙ ap (λ l. scope ++ l) (ap (λ l. flat_map declaration_line own ++ l) (sym (append-nil up_line))
    ∙ sym (flat_map-append declaration_line own (Declaration.Up ∷ [])))

pub all_text : (earlier hs : List Header)
    → concat (each_after input_head earlier hs) ≡ flat_map declaration_line (all_rows earlier hs)
all_text earlier [] = refl
all_text earlier (h ∷ hs) =
    ap (λ l. l ++ concat (each_after input_head (earlier ++ h ∷ []) hs)) (input_text earlier h)
    ∙ ap (λ l. flat_map declaration_line (input_rows earlier h) ++ l)
    (all_text (earlier ++ h ∷ []) hs)
    ∙ sym (flat_map-append declaration_line (input_rows earlier h)
    (all_rows (earlier ++ h ∷ []) hs))

-- a header that can be merged
pub record CanMerge (h : Header) : Type 0 where
  pub good : IsGoodHeader h
  pub found : AreCodes h.codes
  pub shallow : IsShallow h

abbrev pub merged_selected : List Header → Header → List Selected
merged_selected earlier h = map (merged_variable earlier h) (selected [] h.declarations)

pub record AreAllMore (earlier hs : List Header) (w : List Declaration) : Type 0 where
  pub declared : AreDeclared w (all_rows earlier hs)
  pub chosen : selected_after [] w (all_rows earlier hs)
      ≡ flat_map (λ vs. vs) (each_after merged_selected earlier hs)
  pub few : length (all_rows earlier hs) ≤ sum_by (λ h. most_declared h + 2) hs

pub all_more : (hs earlier : List Header) (w : List Declaration) → AllByRecursion CanMerge hs
    → AreMerged earlier w → length earlier + length hs < 2 ^ 63 → AreAllMore earlier hs w
all_more [] earlier w can merged few = record { declared = tt; chosen = refl; few = omega arith }
all_more (h ∷ hs) earlier w can merged few =
    let c = can.0 in
    let one = one_more earlier h w c.good c.found c.shallow merged (omega arith) in
    let n = length_push earlier h in
    let rows = input_rows earlier h in
    let rest = all_rows (earlier ++ h ∷ []) hs in
    let more = all_more hs (earlier ++ h ∷ []) (w ++ rows) can.1 one.all_merged (omega arith) in
    record {
      declared = AreDeclared-append w rows rest one.declared more.declared;
      chosen = selected_more w rows rest
          ∙ ap (λ l. l ++ selected_after [] (w ++ rows) rest) one.chosen
          ∙ ap (λ l. merged_selected earlier h ++ l) more.chosen;
      few = let a = length-append rows rest in let b = one.fewer in let d = more.few in
          let s = sum_by-cons (λ (x : Header). most_declared x + 2) h hs in omega arith;
    }

-- ---- its scale

one_second : exponent_of (codes "1s") ≡ Some (pos 0)
unfolding exponent_of
one_second = refl

good_exponent : (scale : Option ℤ) → AreGoodScales scale → IsGoodScale (unwrap_or scale (pos 0))
good_exponent None good = scale_good (codes "1s") (pos 0) one_second
good_exponent (Some e) good = good

good_smaller : (a b : ℤ) → IsGoodScale a → IsGoodScale b → IsGoodScale (smaller a b)
good_smaller a b x y = by_test (int_le a b)
  where
    by_test : (t : Bool) → IsGoodScale (cond t a b)
    by_test true = x
    by_test false = y

good_fold : (e : ℤ) (hs : List Header) → IsGoodScale e → AllByRecursion CanMerge hs
    → IsGoodScale (fold smaller e (map exponent hs))
good_fold e [] good can = good
good_fold e (h ∷ hs) good can = let c = can.0 in let g = c.good in let p = g.parts in
    good_fold (smaller e (exponent h)) hs (good_smaller e (exponent h) good
    (good_exponent h.scale p.scale)) can.1

pub least_good : (hs : List Header) → AllByRecursion CanMerge hs → IsGoodScale (least_exponent hs)
unfolding least_exponent
least_good [] can = scale_good (codes "1s") (pos 0) one_second
least_good (h ∷ hs) can = let c = can.0 in let g = c.good in let p = g.parts in
    good_fold (exponent h) hs (good_exponent h.scale p.scale) can.1
