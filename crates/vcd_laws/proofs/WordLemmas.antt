-- What words ask for is a job.
use Rattle.vcd_laws.proofs.Cited.{◌≡◌, ◌≢◌, ℕ, ◌^◌, ◌<◌, ◌≤◌, ℤ, Bool, true, false, not, cond, ◌&&◌, nat_lt, nat_le, IsFalse, List, [], ◌∷◌, map, length, count_by, codes, Option, Some, None, option_map, Result, Ok, Err, bytes_eq, drop, inl, inr, ◌==◌, refl, sym, subst, arith, is_ascii_digit, list_any, slice_split, onto_first, take_while, AllByRecursion, IsStrictlyIncreasing, byte, ltb-true, ltb-false, leb-true, and_parts, not-false, or_cases, bytes_eq-Decides, decimal_value, is_decimal, is_empty, Moment, Want, IsJob, IsTime, is_number, is_unit, unit_exponent, has_unit, do_rise, Command, Job, UseFault, is_standard_input, is_limit, limit_of, time_or, time_of, with_time, cut_of, sample_of, want_of, job_with, has_words, JobsAreValid, rises_at}
use Rattle.vcd_model.specs.Scales.{exponent_of, is_scale_unit}
use Rattle.vcd_model.specs.Job.{moment_of}
use Rattle.vcd_model.specs.Words.{times_of, job_of}

-- ---- a time

number_fits : (digits : List ℕ) → is_number digits ≡ true → decimal_value digits < 2 ^ 64
number_fits digits e =
    let outer = and_parts (is_decimal digits && nat_le (length digits) 20) (nat_lt (decimal_value digits) (2 ^ 64)) e in
    ltb-true (decimal_value digits) (2 ^ 64) outer.1

-- a word that is one of these has the exponent of a unit, if each of these has
unit_among : (word : List ℕ) (units : List (List ℕ)) → AllByRecursion (λ u. is_unit (exponent_of (49 ∷ u)) ≡ true) units
    → list_any (bytes_eq word) units ≡ true → is_unit (exponent_of (49 ∷ word)) ≡ true
unit_among word [] all e = cc
unit_among word (u ∷ us) all e =
    elim (or_cases (bytes_eq word u) (list_any (bytes_eq word) us) e) [
      | inl this ↦ let same : word ≡ u = (bytes_eq-Decides word u).0 this in rw same all.0
      | inr other ↦ unit_among word us all.1 other
    ]

unit_is : (word : List ℕ) → is_unit (unit_exponent word) ≡ true
unfolding is_scale_unit exponent_of
unit_is word = unit_with (is_scale_unit word) (λ e. unit_among word (codes "s" ∷ codes "ms" ∷ codes "us" ∷ codes "ns" ∷ codes "ps" ∷ codes "fs" ∷ [])
    (refl, (refl, (refl, (refl, (refl, (refl, tt)))))) e)
  where
    unit_with : (b : Bool) → (b ≡ true → is_unit (exponent_of (49 ∷ word)) ≡ true) → is_unit (cond b (exponent_of (49 ∷ word)) None) ≡ true
    unit_with true h = h refl
    unit_with false h = refl

-- a time with these parts
time_with : (n : ℕ) (fits no_unit : Bool) (unit : Option ℤ) (m : Moment) → (fits ≡ true → n < 2 ^ 64) → is_unit unit ≡ true
    → cond (not fits) None (cond no_unit (Some (record { number = n; unit = None })) (option_map (λ e. record { number = n; unit = Some e }) unit)) ≡ Some m → IsTime m
time_with n true true unit m fits u e = let same : record { number = n; unit = None } ≡ m = cc in subst IsTime same (fits refl, refl)
time_with n true false None m fits u e = cc
time_with n true false (Some x) m fits u e = let same : record { number = n; unit = Some x } ≡ m = cc in subst IsTime same (fits refl, u)
time_with n false no_unit unit m fits u e = cc

moment_is : (word : List ℕ) (m : Moment) → moment_of word ≡ Some m → IsTime m
unfolding moment_of
moment_is word m e =
    let digits = take_while is_ascii_digit word in
    let unit = drop (length digits) word in
    time_with (decimal_value digits) (is_number digits) (is_empty unit) (unit_exponent unit) m (number_fits digits) (unit_is unit) e

time_is : (word : List ℕ) (m : Moment) → time_of word ≡ Ok m → IsTime m
time_is word m e = from_option (moment_of word) (λ n f. moment_is word n f) e
  where
    from_option : (o : Option Moment) → ((n : Moment) → o ≡ Some n → IsTime n) → time_or word o ≡ Ok m → IsTime m
    from_option (Some n) h e = let same : n ≡ m = cc in subst IsTime same (h n refl)
    from_option None h e = cc

-- ---- times

-- one more time, if there is one
more_times : (t : Result Moment UseFault) (ts : Result (List Moment) UseFault) (ms : List Moment) → with_time t ts ≡ Ok ms → (m : Moment)
    × (others : List Moment) × (t ≡ Ok m) × (ts ≡ Ok others) × (ms ≡ m ∷ others)
more_times (Ok m) (Ok others) ms e = let same : m ∷ others ≡ ms = cc in (m, others, refl, refl, sym same)
more_times (Ok m) (Err f) ms e = cc
more_times (Err f) ts ms e = cc

times_are : (words : List (List ℕ)) (ms : List Moment) → times_of words ≡ Ok ms → AllByRecursion IsTime ms × (length ms ≡ length words)
times_are [] ms e = let same : [] ≡ ms = cc in subst (λ (l : List Moment). AllByRecursion IsTime l × (length l ≡ 0)) same (tt, refl)
times_are (word ∷ words) ms e =
    let p = more_times (time_of word) (times_of words) ms e in
    let others = times_are words p.1 p.3 in
    rw p.4 ((time_is word p.0 p.2, others.0), let n = others.1 in omega arith)

-- ---- what is asked for

ordered : (from to : Moment) (units : Bool) → (not units && nat_lt to.number from.number) ≡ false → IsFalse units → from.number ≤ to.number
ordered from to true e none = cc
ordered from to false e none = ltb-false to.number from.number e

cut_is : (a b : Result Moment UseFault) (want : Want) → ((m : Moment) → a ≡ Ok m → IsTime m) → ((m : Moment) → b ≡ Ok m → IsTime m) → cut_of a b ≡ Ok want → IsJob want
cut_is (Ok from) (Ok to) want ha hb e = decided (not (has_unit (from ∷ to ∷ [])) && nat_lt to.number from.number) (λ o. ordered from to (has_unit (from ∷ to ∷ [])) o) e
  where
    decided : (b : Bool) → (b ≡ false → IsFalse (has_unit (from ∷ to ∷ [])) → from.number ≤ to.number)
        → cond b (Err UseFault.FromAboveTo) (Ok (Want.Cut from to)) ≡ Ok want → IsJob want
    decided true h e = cc
    decided false h e = let same : Want.Cut from to ≡ want = cc in subst IsJob same (ha from refl, hb to refl, h refl)
cut_is (Ok from) (Err f) want ha hb e = cc
cut_is (Err f) b want ha hb e = cc

rise : (ns : List ℕ) (units : Bool) → (not units && not (do_rise ns)) ≡ false → IsFalse units → IsStrictlyIncreasing ns
rise ns true e none = cc
rise ns false e none = rises_at ns (not-false (do_rise ns) e)

sample_is : (names : List (List ℕ)) (ts : Result (List Moment) UseFault) (want : Want)
    → ((ms : List Moment) → ts ≡ Ok ms → (ms ≢ []) × AllByRecursion IsTime ms) → sample_of names ts ≡ Ok want → IsJob want
sample_is names (Ok times) want h e = decided (not (has_unit times) && not (do_rise (map (λ m. m.number) times))) (λ r. rise (map (λ m. m.number) times) (has_unit times) r) e
  where
    decided : (b : Bool) → (b ≡ false → IsFalse (has_unit times) → IsStrictlyIncreasing (map (λ m. m.number) times))
        → cond b (Err UseFault.NotRising) (Ok (Want.Sample times names)) ≡ Ok want → IsJob want
    decided true r e = cc
    decided false r e = let same : Want.Sample times names ≡ want = cc in let p = h times refl in subst IsJob same (p.0, p.1, r refl)
sample_is names (Err f) want h e = cc

-- there is a part before each comma and after the last
some_part : (test : ℕ → Bool) (text : List ℕ) → 0 < length (slice_split test text)
some_part test [] = omega arith
some_part test (b ∷ bs) = by_byte (test b) (slice_split test bs)
  where
    by_byte : (c : Bool) (parts : List (List ℕ)) → 0 < length (cond c ([] ∷ parts) (onto_first b parts))
    by_byte true parts = omega arith
    by_byte false [] = omega arith
    by_byte false (part ∷ parts) = omega arith

sample_times : (at : List ℕ) (ms : List Moment) → times_of (slice_split (λ b. b == byte ",") at) ≡ Ok ms → (ms ≢ []) × AllByRecursion IsTime ms
sample_times at ms e =
    let p = times_are (slice_split (λ b. b == byte ",") at) ms e in
    let some = some_part (λ b. b == byte ",") at in
    let n = p.1 in
    (λ none. let z : length ms ≡ 0 = rw none refl in absurd (omega arith), p.0)

-- too many files or not, and standard input twice or not
merge_is : (many twice : Bool) (want : Want) → cond many (Err UseFault.TooManyFiles) (cond twice (Err UseFault.InputTwice) (Ok Want.Merge)) ≡ Ok want → IsJob want
merge_is true twice want e = cc
merge_is false true want e = cc
merge_is false false want e = let same : Want.Merge ≡ want = cc in subst IsJob same tt

want_is : (command : Command) (want : Want) → has_words command ≡ true → want_of command ≡ Ok want → IsJob want
want_is Command.Check want some e = let same : Want.Check ≡ want = cc in subst IsJob same tt
want_is Command.Listing want some e = let same : Want.Listing ≡ want = cc in subst IsJob same tt
want_is (Command.Pick []) want some e = cc
want_is (Command.Pick (name ∷ names)) want some e = let same : Want.Pick (name ∷ names) ≡ want = cc in subst IsJob same (λ none. cc)
want_is (Command.Cut from to) want some e = cut_is (time_of from) (time_of to) want (time_is from) (time_is to) e
want_is (Command.Sample at names) want some e = sample_is names (times_of (slice_split (λ b. b == byte ",") at)) want (sample_times at) e
want_is (Command.Edges names) want some e = let same : Want.Edges names ≡ want = cc in subst IsJob same tt
want_is (Command.Merge files) want some e = merge_is (nat_lt 64 (length files)) (nat_lt 1 (count_by is_standard_input files)) want e

-- ---- the limit

limit_is : (limit : Option (List ℕ)) (n : ℕ) → limit_of limit ≡ Ok n → (64 ≤ n) × (n ≤ 16777216)
limit_is None n e = let same : 1048576 ≡ n = cc in (omega arith, omega arith)
limit_is (Some word) n e = decided (is_limit word) (λ is. in_range is) e
  where
    in_range : is_limit word ≡ true → (64 ≤ decimal_value word) × (decimal_value word ≤ 16777216)
    in_range is =
        let outer = and_parts (is_number word && nat_le 64 (decimal_value word)) (nat_le (decimal_value word) 16777216) is in
        let inner = and_parts (is_number word) (nat_le 64 (decimal_value word)) outer.0 in
        (leb-true 64 (decimal_value word) inner.1, leb-true (decimal_value word) 16777216 outer.1)

    decided : (b : Bool) → (b ≡ true → (64 ≤ decimal_value word) × (decimal_value word ≤ 16777216))
        → cond b (Ok (decimal_value word)) (Err (UseFault.BadLimit word)) ≡ Ok n → (64 ≤ n) × (n ≤ 16777216)
    decided true h e = let same : decimal_value word ≡ n = cc in subst (λ k. (64 ≤ k) × (k ≤ 16777216)) same (h refl)
    decided false h e = cc

-- ---- the job

both : (limit : Result ℕ UseFault) (want : Result Want UseFault) (job : Job) → ((n : ℕ) → limit ≡ Ok n → (64 ≤ n) × (n ≤ 16777216)) → ((w : Want) → want ≡ Ok w → IsJob w)
    → job_with limit want ≡ Ok job → IsJob job.want × (64 ≤ job.limit) × (job.limit ≤ 16777216)
both (Ok n) (Ok w) job hn hw e = let same : record { want = w; limit = n } ≡ job = cc in let l = hn n refl in
    subst (λ j. IsJob j.want × (64 ≤ j.limit) × (j.limit ≤ 16777216)) same (hw w refl, l.0, l.1)
both (Ok n) (Err f) job hn hw e = cc
both (Err f) want job hn hw e = cc

pub jobs_are_valid : JobsAreValid
unfolding job_of
jobs_are_valid None job e = cc
jobs_are_valid (Some words) job e = decided (has_words words.command) (λ some. both (limit_of words.limit) (want_of words.command) job (limit_is words.limit) (λ w. want_is words.command w some)) e
  where
    decided : (b : Bool) → (b ≡ true → job_with (limit_of words.limit) (want_of words.command) ≡ Ok job → IsJob job.want × (64 ≤ job.limit) × (job.limit ≤ 16777216))
        → cond b (job_with (limit_of words.limit) (want_of words.command)) (Err UseFault.BadWords) ≡ Ok job → IsJob job.want × (64 ≤ job.limit) × (job.limit ≤ 16777216)
    decided true h e = h refl e
    decided false h e = cc
