-- The room that a view needs is the header's.
use Rattle.vcd_view.proofs.Cited.{◌≡◌, ℕ, suc, ◌+◌, ◌*◌, ◌<◌, ◌≤◌, max, List, [], ◌∷◌, ◌++◌, cond, bytes_eq, length, sum_by, Option, Some, None, refl, sym, ap, subst, ◌∙◌, ◌^◌, arith, div_ceil, AllByRecursion, AllZip, filter_map, cons_option, list_any, sum_by-cons, each, each_after, Declaration, IdCode, Variable, code_of, variables_of, variable_of, Header, value_room, room_of, IsView, RoomSize, WindowSize, AreWindows, FitsInput, room_fits, Code, HeadShown, Views, IsCode, IsSize, value_bytes, view_size}
use Rattle.vcd_model.specs.Declarations.{codes_of}
use Rattle.vcd_view.proofs.LookUpLemmas.{codes_len, index_len}
use Rattle.vcd_view.proofs.RowLemmas.{rows_len}

-- ---- there are no more codes than declarations

pub filter_map_len : {X Y : Type 0} (f : X → Option Y) (xs : List X) → length (filter_map f xs) ≤ length xs
filter_map_len {Y = Y} f [] = omega arith
filter_map_len {Y = Y} f (x ∷ xs) = one_more (f x) (filter_map f xs) (filter_map_len f xs)
  where
    one_more : (o : Option Y) (ys : List Y) → length ys ≤ length xs → length (cons_option o ys) ≤ suc (length xs)
    one_more None ys l = omega arith
    one_more (Some y) ys l = omega arith

each_len : {X Y : Type 0} (f : List X → X → Y) (earlier xs : List X) → length (each_after f earlier xs) ≡ length xs
each_len f earlier [] = refl
each_len f earlier (x ∷ xs) = ap suc (each_len f (earlier ++ x ∷ []) xs)

pub codes_few : (ds : List Declaration) → length (codes_of ds) ≤ length ds
unfolding codes_of
codes_few ds =
    let first : List Variable → Variable → Option IdCode = λ earlier v. cond (list_any (λ u. bytes_eq u.code v.code) earlier) None (Some (code_of v)) in
    omega (arith, filter_map_len (λ o. o) (each first (variables_of ds)), each_len first [] (variables_of ds), filter_map_len variable_of ds)

-- ---- the sum

pub same_sum : (text : List ℕ) (cs : List Code) (ks : List IdCode) → AllZip (IsCode text) cs ks → sum_by value_bytes cs ≡ sum_by value_room ks
same_sum text [] [] h = refl
same_sum text [] (k ∷ ks) h = absurd h
same_sum text (c ∷ cs) [] h = absurd h
same_sum text (c ∷ cs) (k ∷ ks) h = sum_by-cons value_bytes c cs ∙ ap (λ n. n + sum_by value_bytes cs) (ap (λ n. max (div_ceil n 4) 64) h.0.size_is)
    ∙ ap (λ n. value_room k + n) (same_sum text cs ks h.1) ∙ sym (sum_by-cons value_room k ks)

-- a size is below 2 ^ 24
room_bound : (text : List ℕ) (cs : List Code) (ks : List IdCode) → AllZip (IsCode text) cs ks → AllByRecursion (λ (k : IdCode). IsSize k.size) ks
    → sum_by value_bytes cs ≤ length cs * 4194304
room_bound text [] [] h s = omega arith
room_bound text [] (k ∷ ks) h s = absurd h
room_bound text (c ∷ cs) [] h s = absurd h
room_bound text (c ∷ cs) (k ∷ ks) h s =
    let size = h.0.size_is in let most = s.0.most in
    let more = sum_by-cons value_bytes c cs in
    let rest = room_bound text cs ks h.1 s.1 in
    omega arith

pub sum_fits : (s : HeadShown) (h : Header) → Views s h → sum_by value_bytes s.codes < 2 ^ 63
sum_fits s h v = omega (arith, room_bound s.text s.codes h.codes v.codes v.sizes, codes_len s.text s.codes h.codes v.codes, v.few, v.few_codes)

-- ---- the bound

pub is_view : (s : HeadShown) (h : Header) → Views s h → IsView h (view_size s)
is_view s h v = record {
  text = v.held;
  rows = omega (arith, rows_len s.text h.codes [] s.rows h.declarations v.rows);
  codes = omega (arith, codes_len s.text s.codes h.codes v.codes);
  index = omega (arith, index_len h.codes s.index v.index);
  look_up = v.look_up;
}

pub is_room : (s : HeadShown) (h : Header) (values : ℕ) → Views s h → values ≡ sum_by value_bytes s.codes
    → record { values = values; slots = length s.codes; marks = length s.rows } ≡ room_of h
is_room s h values v e = λ j. record {
  values = (e ∙ same_sum s.text s.codes h.codes v.codes) j;
  slots = codes_len s.text s.codes h.codes v.codes j;
  marks = rows_len s.text h.codes [] s.rows h.declarations v.rows j;
}

pub fits : (limit : ℕ) (s : HeadShown) (h : Header) (w : WindowSize) (r : RoomSize) → Views s h → AreWindows limit w → r ≡ room_of h → FitsInput limit h w (view_size s) r
fits limit s h w r v are e = subst (λ x. FitsInput limit h w (view_size s) x) (sym e)
    (room_fits limit h w (view_size s) (room_of h) are (is_view s h v) (record { values = omega arith; slots = omega arith; marks = omega arith }))
