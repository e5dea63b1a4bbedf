-- Tokens that are no longer than the token limit: those of a stream are such, and a text of such
-- tokens is not halted.
use Rattle.vcd_laws.proofs.Cited.{◌≡◌, ℕ, ◌+◌, ◌<◌, ◌≤◌, ◌^◌, Bool, true, false, cond, nat_lt, List, [], ◌∷◌, ◌++◌, length, map, filter, fold, Option, Some, None, ◌⊎◌, inl, inr, refl, sym, ap, ◌∙◌, subst, arith, AllByRecursion, reduce, le-ltb, ltb-true, ltb-false, lt-leb, Input, Token, HaltPlace, token_places, token_at, run_at, line_at, end_at, too_much_input, too_long_tokens, failed_read, earlier_halt, comes_before, stream_until, texts_of, input_of, texts_from, forward, to_images}
use Rattle.vcd_model.specs.Tokens.{first_halt, given_places, stream_of}
use Rattle.vcd_laws.proofs.WrittenCodes.{In, in_left, in_right, in_map}

-- tokens no longer than the limit
abbrev pub AllShort : ℕ → List (List ℕ) → Type 0
AllShort limit ts = AllByRecursion (λ t. length t ≤ limit) ts

-- ---- the first halt

earlier_least : (a b : HaltPlace)
    → ((earlier_halt a b).place ≤ a.place) × ((earlier_halt a b).place ≤ b.place)
earlier_least a b = by_test (nat_lt b.place a.place) refl
  where
    by_test : (t : Bool) → nat_lt b.place a.place ≡ t
        → ((cond t b a).place ≤ a.place) × ((cond t b a).place ≤ b.place)
    by_test true e = let l = ltb-true b.place a.place e in (omega arith, omega arith)
    by_test false e = let l = ltb-false b.place a.place e in (omega arith, omega arith)

fold_least : (a : HaltPlace) (xs : List HaltPlace) (x : HaltPlace) → (x ≡ a) ⊎ In x xs
    → (fold earlier_halt a xs).place ≤ x.place
fold_least a [] x (inl e) = rw e (omega arith)
fold_least a [] x (inr i) = absurd i
fold_least a (b ∷ xs) x (inl e) = let m = earlier_least a b in let l = m.0 in
    let h = fold_least (earlier_halt a b) xs (earlier_halt a b) (inl refl) in rw e (omega arith)
fold_least a (b ∷ xs) x (inr (inl e)) = let m = earlier_least a b in let l = m.1 in
    let h = fold_least (earlier_halt a b) xs (earlier_halt a b) (inl refl) in rw e (omega arith)
fold_least a (b ∷ xs) x (inr (inr j)) = fold_least (earlier_halt a b) xs x (inr j)

-- no halt is before the first
pub reduce_least : (xs : List HaltPlace) (x : HaltPlace) → In x xs
    → (y : HaltPlace) × (reduce earlier_halt xs ≡ Some y) × (y.place ≤ x.place)
reduce_least [] x i = absurd i
reduce_least (a ∷ xs) x i = (fold earlier_halt a xs, refl, fold_least a xs x i)

-- ---- tokens that are given

pub long_in : (limit : ℕ) (text : List ℕ) (i : ℕ) (places : List ℕ) → In i places
    → nat_lt limit (length (run_at text i)) ≡ true
    → In i (filter (λ j. nat_lt limit (length (run_at text j))) places)
long_in limit text i [] there e = absurd there
long_in limit text i (j ∷ places) (inl same) e = rw (sym same, e) (inl refl)
long_in limit text i (j ∷ places) (inr there) e =
    by_test (nat_lt limit (length (run_at text j))) (long_in limit text i places there e)
  where
    by_test : (b : Bool) → In i (filter (λ k. nat_lt limit (length (run_at text k))) places)
        → In i (cond b (j ∷ filter (λ k. nat_lt limit (length (run_at text k))) places)
        (filter (λ k. nat_lt limit (length (run_at text k))) places))
    by_test true more = inr more
    by_test false more = more

-- a token that comes before the first halt is no longer than the limit
given_short : (limit : ℕ) (input : Input) (i : ℕ) → In i (token_places input.bytes)
    → comes_before (end_at input.bytes i) (first_halt limit input) ≡ true
    → length (run_at input.bytes i) ≤ limit
unfolding first_halt
given_short limit input i there before =
    by_length (nat_lt limit (length (run_at input.bytes i))) refl
  where
    text : List ℕ
    text = input.bytes

    too_long : List HaltPlace
    too_long = too_long_tokens limit text

    by_length : (b : Bool) → nat_lt limit (length (run_at text i)) ≡ b
        → length (run_at text i) ≤ limit
    by_length false e = ltb-false limit (length (run_at text i)) e
    by_length true e =
        let halt : HaltPlace = record { fault = 1; place = i + limit; line = line_at text i } in
        let one : In halt too_long =
        in_map (λ j. record { fault = 1; place = j + limit; line = line_at text j })
        (filter (λ j. nat_lt limit (length (run_at text j))) (token_places text)) i
        (long_in limit text i (token_places text) there e) in
        let all : In halt (too_much_input text ++ too_long ++ failed_read input) =
        in_left (too_much_input text ++ too_long) (failed_read input) halt
        (in_right (too_much_input text) too_long halt one) in
        let least = reduce_least (too_much_input text ++ too_long ++ failed_read input) halt all in
        let l = least.2 in
        let h : nat_lt (end_at text i) least.0.place ≡ true =
        ap (comes_before (end_at text i)) (sym least.1) ∙ before in
        let g = ltb-true (end_at text i) least.0.place h in
        let long = ltb-true limit (length (run_at text i)) e in
        absurd (omega arith)

all_given_short : (limit : ℕ) (input : Input) (places : List ℕ)
    → ((i : ℕ) → In i places → In i (token_places input.bytes))
    → AllByRecursion (λ i. length (run_at input.bytes i) ≤ limit)
    (filter (λ i. comes_before (end_at input.bytes i) (first_halt limit input)) places)
all_given_short limit input [] sub = tt
all_given_short limit input (i ∷ places) sub =
    by_test (comes_before (end_at input.bytes i) (first_halt limit input)) refl
    (all_given_short limit input places (λ j k. sub j (inr k)))
  where
    rest : List ℕ
    rest = filter (λ j. comes_before (end_at input.bytes j) (first_halt limit input)) places

    by_test : (b : Bool) → comes_before (end_at input.bytes i) (first_halt limit input) ≡ b
        → AllByRecursion (λ j. length (run_at input.bytes j) ≤ limit) rest
        → AllByRecursion (λ j. length (run_at input.bytes j) ≤ limit) (cond b (i ∷ rest) rest)
    by_test true e more = (given_short limit input i (sub i (inl refl)) e, more)
    by_test false e more = more

until_short : (limit : ℕ) (input : Input) (places : List ℕ) (halt : Option HaltPlace)
    → AllByRecursion (λ i. length (run_at input.bytes i) ≤ limit) places
    → AllShort limit (texts_of (stream_until input places halt).tokens)
until_short limit input places None h =
    to_images (λ t. length t ≤ limit) (λ (t : Token). t.bytes) (map (token_at input.bytes) places)
    (to_images (λ (t : Token). length t.bytes ≤ limit) (token_at input.bytes) places h)
until_short limit input places (Some halt) h =
    to_images (λ t. length t ≤ limit) (λ (t : Token). t.bytes) (map (token_at input.bytes) places)
    (to_images (λ (t : Token). length t.bytes ≤ limit) (token_at input.bytes) places h)

-- the tokens of a stream are no longer than its limit
pub stream_short : (limit : ℕ) (input : Input)
    → AllShort limit (texts_of (stream_of limit input).tokens)
unfolding stream_of given_places
stream_short limit input =
    until_short limit input (given_places limit input) (first_halt limit input)
    (all_given_short limit input (token_places input.bytes) (λ i there. there))

-- ---- texts of such tokens

pub no_long : (limit : ℕ) (text places : List ℕ) → AllShort limit (map (run_at text) places)
    → filter (λ i. nat_lt limit (length (run_at text i))) places ≡ []
no_long limit text [] h = refl
no_long limit text (i ∷ places) h =
    rw (le-ltb limit (length (run_at text i)) h.0) (no_long limit text places h.1)

-- a text of such tokens is not halted
pub not_halted : (limit : ℕ) (text : List ℕ) → length text < 2 ^ 63
    → AllShort limit (texts_from true text) → first_halt limit (input_of text) ≡ None
unfolding first_halt
not_halted limit text small short =
    let none = no_long limit text (token_places text)
    (subst (AllShort limit) (sym (forward text)) short) in
    rw (lt-leb (2 ^ 63) (length text) small, none) refl
