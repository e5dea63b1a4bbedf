-- Words that are times, one after the other, and their order.
use Rattle.vcd_words.proofs.Cited.{◌≡◌, ℕ, suc, ◌<◌, Bool, true, false, not, cond, ◌&&◌, ◌||◌, ◌==◌, nat_lt, is_some, vec_len, List, [], ◌∷◌, ◌++◌, length, map, filter_map, get_or, take, drop, take-append-drop, Option, Some, None, option_map, Result, Ok, Err, refl, sym, ap, ◌∙◌, arith, is_ascii_digit, cons_option, take_while, length-map, length-prefix_len, length-slice_split, Vec, drop-cons, decimal_value, Want, has_unit, do_rise, is_number, moment_with, Moment, asked, with_unit, UseFault, TimesOrder, has_units, times_with, last_of, parts, IsOrderOf, IsFaultIn, and-true, or-false}
use Rattle.vcd_model.specs.Job.{moment_of}
use Rattle.vcd_model.specs.Words as model
use Rattle.vcd_head.specs.declared.moment.Moment as head
use Rattle.vcd_words.proofs.WordsLemmas.{fault-moves}

-- ---- a word

-- the number that the digits of a word are
abbrev digits_number : List ℕ → Option ℕ
digits_number digits = cond (is_number digits) (Some (decimal_value digits)) None

-- a word whose digits are a number, or none
number_with : (digits unit : List ℕ) (b : Bool) → is_number digits ≡ b → (o : Option ℕ) → o ≡ cond b (Some (decimal_value digits)) None
    → (none : o ≡ None → moment_with digits unit ≡ None) × ((n : ℕ) → o ≡ Some n → moment_with digits unit ≡ with_unit n unit)
number_with digits unit true is o e = (λ none. cc, λ n some. let same : decimal_value digits ≡ n = cc in rw (is, same) refl)
number_with digits unit false is o e = (λ none. rw is refl, λ n some. cc)

module _ (word digits : List ℕ) (k : ℕ) (number : Option ℕ) (count : k ≡ length (take_while is_ascii_digit word)) (front : digits ≡ take k word)
    (read : number ≡ digits_number digits) where
  digits_are : digits ≡ take_while is_ascii_digit word
  digits_are = front ∙ ap (λ n. take n word) (count ∙ length-prefix_len is_ascii_digit word)

  number_is : number ≡ cond (is_number (take_while is_ascii_digit word)) (Some (decimal_value (take_while is_ascii_digit word))) None
  number_is = rw (read, digits_are) refl

  pub no_moment : number ≡ None → moment_of word ≡ None
  unfolding moment_of
  no_moment e = (number_with (take_while is_ascii_digit word) (drop (length (take_while is_ascii_digit word)) word) (is_number (take_while is_ascii_digit word)) refl number number_is).0 e

  pub moment_is : (n : ℕ) → number ≡ Some n → moment_of word ≡ with_unit n (drop k word)
  unfolding moment_of
  moment_is n e = (number_with (take_while is_ascii_digit word) (drop (length (take_while is_ascii_digit word)) word)
      (is_number (take_while is_ascii_digit word)) refl number number_is).1 n e ∙ ap (λ j. with_unit n (drop j word)) (sym count)

-- ---- the order of times

-- a number is above the last one, if there is one
abbrev pub is_above : Option ℕ → ℕ → Bool
is_above None n = true
is_above (Some last) n = nat_lt last n

or_assoc : (a b c : Bool) → (a || b || c) ≡ (a || (b || c))
or_assoc true b c = refl
or_assoc false b c = refl

has_unit-push : (ms : List Moment) (m : Moment) → has_unit (ms ++ m ∷ []) ≡ (has_unit ms || is_some m.unit)
has_unit-push [] m = or-false (is_some m.unit)
has_unit-push (x ∷ ms) m = ap (λ b. is_some x.unit || b) (has_unit-push ms m) ∙ sym (or_assoc (is_some x.unit) (has_unit ms) (is_some m.unit))

last_of-push : (ns : List ℕ) (n : ℕ) → last_of (ns ++ n ∷ []) ≡ Some n
last_of-push [] n = refl
last_of-push (x ∷ []) n = refl
last_of-push (x ∷ y ∷ ns) n = last_of-push (y ∷ ns) n

and_assoc : (a b c : Bool) → (a && (b && c)) ≡ (a && b && c)
and_assoc true b c = refl
and_assoc false b c = refl

do_rise-push : (ns : List ℕ) (n : ℕ) → do_rise (ns ++ n ∷ []) ≡ (do_rise ns && is_above (last_of ns) n)
do_rise-push [] n = refl
do_rise-push (x ∷ []) n = and-true (nat_lt x n)
do_rise-push (x ∷ y ∷ ns) n = ap (λ b. nat_lt x y && b) (do_rise-push (y ∷ ns) n) ∙ and_assoc (nat_lt x y) (do_rise (y ∷ ns)) (is_above (last_of (y ∷ ns)) n)

numbers-push : (ms : List Moment) (m : Moment) → map (λ (x : Moment). x.number) (ms ++ m ∷ []) ≡ map (λ (x : Moment). x.number) ms ++ m.number ∷ []
numbers-push [] m = refl
numbers-push (x ∷ ms) m = ap (λ l. x.number ∷ l) (numbers-push ms m)

pub order_push : (ms : List Moment) (m : Moment) (o o' : TimesOrder) → IsOrderOf ms o → o'.has_unit ≡ (o.has_unit || is_some m.unit)
    → o'.rises ≡ (o.rises && is_above o.last m.number) → o'.last ≡ Some m.number → IsOrderOf (ms ++ m ∷ []) o'
order_push ms m o o' is unit rises last = record {
  has_unit_is = unit ∙ ap (λ b. b || is_some m.unit) is.has_unit_is ∙ sym (has_unit-push ms m);
  rises_is = rises ∙ ap (λ b. b && is_above o.last m.number) is.rises_is ∙ ap (λ l. do_rise (map (λ (x : Moment). x.number) ms) && is_above l m.number) is.last_is
      ∙ sym (do_rise-push (map (λ (x : Moment). x.number) ms) m.number) ∙ ap do_rise (sym (numbers-push ms m));
  last_is = last ∙ sym (last_of-push (map (λ (x : Moment). x.number) ms) m.number) ∙ ap last_of (sym (numbers-push ms m));
}

-- ---- words one after the other

pub times_of-push : (words : List (List ℕ)) (word : List ℕ) (ms : List Moment) (m : Moment) → model.times_of words ≡ Ok ms
    → model.time_of word ≡ Ok m → model.times_of (words ++ word ∷ []) ≡ Ok (ms ++ m ∷ [])
times_of-push [] word ms m e t = let none : [] ≡ ms = cc in rw (t, ← none) refl
times_of-push (w ∷ words) word ms m e t = by_first (model.time_of w) (model.times_of words) refl refl e (λ xs h. times_of-push words word xs m h t)
  where
    by_first : (a : Result Moment model.UseFault) (b : Result (List Moment) model.UseFault) → model.time_of w ≡ a → model.times_of words ≡ b
        → model.with_time a b ≡ Ok ms → ((xs : List Moment) → model.times_of words ≡ Ok xs → model.times_of (words ++ word ∷ []) ≡ Ok (xs ++ m ∷ []))
        → model.with_time (model.time_of w) (model.times_of (words ++ word ∷ [])) ≡ Ok (ms ++ m ∷ [])
    by_first (Ok x) (Ok xs) ea eb f more = let same : x ∷ xs ≡ ms = cc in rw (ea, more xs eb, ← same) refl
    by_first (Ok x) (Err y) ea eb f more = cc
    by_first (Err y) b ea eb f more = cc

pub times_of-fails : (words : List (List ℕ)) (word : List ℕ) (more : List (List ℕ)) (ms : List Moment) (f : model.UseFault)
    → model.times_of words ≡ Ok ms → model.time_of word ≡ Err f → model.times_of (words ++ word ∷ more) ≡ Err f
times_of-fails [] word more ms f e t = rw t refl
times_of-fails (w ∷ words) word more ms f e t = by_first (model.time_of w) (model.times_of words) refl refl e (λ xs h. times_of-fails words word more xs f h t)
  where
    by_first : (a : Result Moment model.UseFault) (b : Result (List Moment) model.UseFault) → model.time_of w ≡ a → model.times_of words ≡ b
        → model.with_time a b ≡ Ok ms → ((xs : List Moment) → model.times_of words ≡ Ok xs → model.times_of (words ++ word ∷ more) ≡ Err f)
        → model.with_time (model.time_of w) (model.times_of (words ++ word ∷ more)) ≡ Err f
    by_first (Ok x) (Ok xs) ea eb h others = rw (ea, others xs eb) refl
    by_first (Ok x) (Err y) ea eb h others = cc
    by_first (Err y) b ea eb h others = cc

-- all words that are times are those, where each is one
pub times_kept : (words : List (List ℕ)) (ms : List Moment) → model.times_of words ≡ Ok ms → filter_map moment_of words ≡ ms
times_kept [] ms e = cc
times_kept (w ∷ words) ms e = by_first (moment_of w) (model.times_of words) refl refl e (λ xs h. times_kept words xs h)
  where
    by_first : (o : Option Moment) (b : Result (List Moment) model.UseFault) → moment_of w ≡ o → model.times_of words ≡ b
        → model.with_time (model.time_or w o) b ≡ Ok ms → ((xs : List Moment) → model.times_of words ≡ Ok xs → filter_map moment_of words ≡ xs)
        → filter_map moment_of (w ∷ words) ≡ ms
    by_first (Some x) (Ok xs) eo eb h more = let same : x ∷ xs ≡ ms = cc in rw (eo, more xs eb) same
    by_first (Some x) (Err y) eo eb h more = cc
    by_first None b eo eb h more = cc

-- there is one for each word
times_length : (words : List (List ℕ)) (ms : List Moment) → model.times_of words ≡ Ok ms → length ms ≡ length words
times_length [] ms e = let none : [] ≡ ms = cc in sym (ap length none)
times_length (w ∷ words) ms e = by_first (model.time_of w) (model.times_of words) refl e (λ xs h. times_length words xs h)
  where
    by_first : (a : Result Moment model.UseFault) (b : Result (List Moment) model.UseFault) → model.times_of words ≡ b → model.with_time a b ≡ Ok ms
        → ((xs : List Moment) → model.times_of words ≡ Ok xs → length xs ≡ length words) → length ms ≡ length (w ∷ words)
    by_first (Ok x) (Ok xs) eb h more = let same : x ∷ xs ≡ ms = cc in let n = more xs eb in rw (← same) (omega arith)
    by_first (Ok x) (Err y) eb h more = cc
    by_first (Err y) b eb h more = cc

-- and there is some word between commas
pub some_times : (at : List ℕ) (ms : List Moment) (numbers : Vec ℕ) → model.times_of (parts at) ≡ Ok ms → numbers.items ≡ map (λ (m : Moment). m.number) ms → 0 < vec_len numbers
some_times at ms numbers e n =
    let words = length-slice_split (λ b. b == 44) at in
    let times = times_length (parts at) ms e in
    let kept : length numbers.items ≡ length ms = ap length n ∙ simp length-map in
    omega (arith, words, times, kept, numbers.ok.0)

-- ---- a sample

-- a list at one of its indexes
at_place : (all : List (List ℕ)) (n : ℕ) (word : List ℕ) → n < length all → word ≡ get_or all n word → all ≡ take n all ++ word ∷ drop (suc n) all
at_place all n word l e = sym (take-append-drop n all) ∙ ap (λ rest. take n all ++ rest) (drop-cons all n word l ∙ ap (λ w. w ∷ drop (suc n) all) (sym e))

-- a word that is no time, after some that are times
pub word_fails : (names all : List (List ℕ)) (n : ℕ) (word : List ℕ) (ms : List Moment) (fault : UseFault) → n < length all
    → word ≡ get_or all n word → model.times_of (take n all) ≡ Ok ms → IsFaultIn fault (model.time_of word)
    → IsFaultIn fault (model.sample_of names (model.times_of all))
word_fails names all n word ms fault l here before h =
    fault-moves fault (model.time_of word) (model.sample_of names (model.times_of all))
    (λ f e. ap (λ words. model.sample_of names (model.times_of words)) (at_place all n word l here)
    ∙ ap (model.sample_of names) (times_of-fails (take n all) word (drop (suc n) all) ms f before e)) h

pub sample_good : (names : List (List ℕ)) (ms : List Moment) (o : TimesOrder) → IsOrderOf ms o → (not o.has_unit && not o.rises) ≡ false
    → model.sample_of names (Ok ms) ≡ Ok (Want.Sample ms names)
sample_good names ms o is e =
    let test : (not (has_unit ms) && not (do_rise (map (λ m. m.number) ms))) ≡ false = rw (← is.has_unit_is, ← is.rises_is) e in
    rw test refl

pub sample_falls : (names : List (List ℕ)) (ms : List Moment) (o : TimesOrder) → IsOrderOf ms o → (not o.has_unit && not o.rises) ≡ true
    → model.sample_of names (Ok ms) ≡ Err model.UseFault.NotRising
sample_falls names ms o is e =
    let test : (not (has_unit ms) && not (do_rise (map (λ m. m.number) ms))) ≡ true = rw (← is.has_unit_is, ← is.rises_is) e in
    rw test refl

has_units_is : (ms : List Moment) → has_units (map (λ (m : Moment). m.unit) ms) ≡ has_unit ms
has_units_is [] = refl
has_units_is (m ∷ ms) = ap (λ b. is_some m.unit || b) (has_units_is ms)

-- times that a sample may have, and that have no unit, rise
pub good_rises : (names : List (List ℕ)) (ms : List Moment) → model.sample_of names (Ok ms) ≡ Ok (Want.Sample ms names)
    → has_units (map (λ (m : Moment). m.unit) ms) ≡ false → do_rise (map (λ (m : Moment). m.number) ms) ≡ true
good_rises names ms e none = by_test (do_rise (map (λ (m : Moment). m.number) ms)) refl
  where
    plain : has_unit ms ≡ false
    plain = sym (has_units_is ms) ∙ none

    by_test : (b : Bool) → do_rise (map (λ (m : Moment). m.number) ms) ≡ b → b ≡ true
    by_test true r = refl
    by_test false r = let bad : Err model.UseFault.NotRising ≡ Ok (Want.Sample ms names) = rw (plain, r) at e in cc

-- ---- numbers and units apart

-- the time in the program's words
abbrev pub kept : Moment → head.Moment
kept m = record { number = m.number; unit = m.unit }

pub same_moment : (o : Option head.Moment) (m : Option Moment) → option_map asked o ≡ m → o ≡ option_map kept m
same_moment None m e = ap (option_map kept) e
same_moment (Some x) m e = ap (option_map kept) e

-- what is read of each time
pub read_of_kept : {X : Type 0} (read : head.Moment → X) (words : List (List ℕ))
    → map read (filter_map (λ word. option_map kept (moment_of word)) words) ≡ map (λ m. read (kept m)) (filter_map moment_of words)
read_of_kept read [] = refl
read_of_kept {X} read (word ∷ words) = by_first (moment_of word) (read_of_kept read words)
  where
    by_first : (o : Option Moment) → map read (filter_map (λ w. option_map kept (moment_of w)) words) ≡ map (λ m. read (kept m)) (filter_map moment_of words)
        → map read (cons_option (option_map kept o) (filter_map (λ w. option_map kept (moment_of w)) words)) ≡ map (λ m. read (kept m)) (cons_option o (filter_map moment_of words))
    by_first (Some m) more = ap (λ xs. read (kept m) ∷ xs) more
    by_first None more = more

pub put_together : (ms : List Moment) → times_with (map (λ (m : Moment). m.number) ms) (map (λ (m : Moment). m.unit) ms) ≡ ms
put_together [] = refl
put_together (m ∷ ms) = ap (λ rest. m ∷ rest) (put_together ms)
