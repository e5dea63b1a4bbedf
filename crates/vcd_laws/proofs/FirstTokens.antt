-- The first tokens of a text are all those of some shorter text.
use Rattle.vcd_laws.proofs.Cited.{◌≡◌, ℕ, zero, suc, ◌+◌, ◌≤◌, ◌==◌, Bool, true, false, not, cond, ◌&&◌, List, [], ◌∷◌, ◌++◌, length, map, filter, take, count_by, refl, sym, ap, ◌∙◌, arith, add-one, one-add, range_with_len, before_first, AllByRecursion, length_push, sum_by-append, take-append_seam, is_white_space, as_line, Token, begins_token, run_at, line_at, token_at, at_white, map_first, index_of, drop_of, same_cond, plain_front}
use Rattle.std.proofs.Common.{append_assoc}
use Rattle.vcd_model.specs.Tokens.{tokens_of}
use Rattle.vcd_model.proofs.TokenLemmas.{run_of}

-- ---- tokens with their lines, read forward

-- the line after a byte
abbrev line_after : ℕ → ℕ → ℕ
line_after line b = line + cond (b == 10) 1 0

-- the tokens of a text that begins on this line, after white space or not
abbrev tokens_from : Bool → ℕ → List ℕ → List Token
tokens_from apart line [] = []
tokens_from apart line (b ∷ bs) =
    cond (apart && not (is_white_space b))
    (record { bytes = before_first is_white_space (b ∷ bs); line = line } ∷ tokens_from (is_white_space b) (line_after line b) bs)
    (tokens_from (is_white_space b) (line_after line b) bs)

line_of_front : (T q bs : List ℕ) (i : ℕ) → T ≡ q ++ bs → i ≡ length q
    → line_at T i ≡ 1 + count_by (λ b. b == 10) q
line_of_front T q bs i e l =
    ap (λ t. line_at t i) e ∙ ap (line_at (q ++ bs)) l
    ∙ ap (λ t. 1 + count_by (λ b. b == 10) t) (take-append_seam q bs)

count_more : (q : List ℕ) (b : ℕ)
    → count_by (λ c. c == 10) (q ++ b ∷ []) ≡ count_by (λ c. c == 10) q + cond (b == 10) 1 0
count_more q b = sum_by-append (λ c. cond (c == 10) 1 0) q (b ∷ []) ∙ omega arith

line_more : (T q bs : List ℕ) (b i : ℕ) → T ≡ q ++ b ∷ bs → i ≡ length q
    → line_at T (i + 1) ≡ line_after (line_at T i) b
line_more T q bs b i e l =
    let x = line_of_front T q (b ∷ bs) i e l in
    let y = line_of_front T (q ++ b ∷ []) bs (i + 1) (e ∙ sym (append_assoc q (b ∷ []) bs)) (omega (arith, length_push q b)) in
    let z = count_more q b in
    omega arith

forward_from : (text T q : List ℕ) (c m : ℕ) → T ≡ q ++ c ∷ text → m ≡ length q
    → map (token_at T) (filter (begins_token T) (range_with_len (suc m) (length text)))
    ≡ tokens_from (is_white_space c) (line_at T (suc m)) text
forward_from [] T q c m e l = refl
forward_from (b ∷ bs) T q c m e l =
    let e' : T ≡ (q ++ c ∷ []) ++ b ∷ bs = e ∙ sym (append_assoc q (c ∷ []) (b ∷ bs)) in
    let l' : suc m ≡ length (q ++ c ∷ []) = omega (arith, length_push q c) in
    let here : begins_token T (suc m) ≡ (is_white_space c && not (is_white_space b)) = rw (index_of T q (b ∷ bs) c m e l, index_of T (q ++ c ∷ []) bs b (suc m) e' l') refl in
    let run : run_at T (suc m) ≡ before_first is_white_space (b ∷ bs) = ap (before_first is_white_space) (drop_of T (q ++ c ∷ []) (b ∷ bs) (suc m) e' l') in
    let line : line_at T (suc (suc m)) ≡ line_after (line_at T (suc m)) b = ap (line_at T) (sym (add-one (suc m))) ∙ line_more T (q ++ c ∷ []) bs b (suc m) e' l' in
    let rest = map (token_at T) (filter (begins_token T) (range_with_len (suc m + 1) (length bs))) in
    let more : rest ≡ tokens_from (is_white_space b) (line_after (line_at T (suc m)) b) bs
    = rw add-one (forward_from bs T (q ++ c ∷ []) b (suc m) e' l') ∙ ap (λ n. tokens_from (is_white_space b) n bs) line in
    map_first (token_at T) (begins_token T) (suc m) (range_with_len (suc m + 1) (length bs)) (is_white_space c && not (is_white_space b)) here
    ∙ same_cond (is_white_space c && not (is_white_space b))
    (token_at T (suc m) ∷ rest) rest
    (record { bytes = before_first is_white_space (b ∷ bs); line = line_at T (suc m) } ∷ tokens_from (is_white_space b) (line_after (line_at T (suc m)) b) bs)
    (tokens_from (is_white_space b) (line_after (line_at T (suc m)) b) bs)
    (ap (λ t. record { bytes = t; line = line_at T (suc m) } ∷ rest) run
    ∙ ap (λ l. record { bytes = before_first is_white_space (b ∷ bs); line = line_at T (suc m) } ∷ l) more) more

forward : (text : List ℕ) → tokens_of text ≡ tokens_from true 1 text
unfolding tokens_of
forward [] = refl
forward (b ∷ bs) =
    let line : line_at (b ∷ bs) 1 ≡ line_after 1 b = line_more (b ∷ bs) [] bs b 0 refl refl in
    let more = forward_from bs (b ∷ bs) [] b 0 refl refl ∙ ap (λ n. tokens_from (is_white_space b) n bs) line in
    map_first (token_at (b ∷ bs)) (begins_token (b ∷ bs)) 0 (range_with_len (0 + 1) (length bs)) (not (is_white_space b)) refl
    ∙ ap (λ (l : List Token). cond (not (is_white_space b)) (token_at (b ∷ bs) 0 ∷ l) l) more

-- ---- a shorter text

pub plain_run : (b : ℕ) (bs : List ℕ) → is_white_space b ≡ false
    → before_first is_white_space (b ∷ bs) ≡ b ∷ before_first is_white_space bs
plain_run b bs e = rw (e, one-add) refl

pub white_run : (b : ℕ) (bs : List ℕ) → is_white_space b ≡ true → before_first is_white_space (b ∷ bs) ≡ []
white_run b bs e = rw e refl

-- within a token none begins
quiet : (line : ℕ) (run : List ℕ) → AllByRecursion (λ b. is_white_space b ≡ false) run
    → tokens_from false line (as_line run) ≡ []
quiet line [] plain = refl
quiet line (b ∷ run) plain = rw plain.0 (quiet (line_after line b) run plain.1)

run_length : (bs : List ℕ) → length (before_first is_white_space bs) ≤ length bs
run_length [] = omega arith
run_length (b ∷ bs) = by_test (is_white_space b) refl (run_length bs)
  where
    by_test : (w : Bool) → is_white_space b ≡ w → length (before_first is_white_space bs) ≤ length bs
        → length (before_first is_white_space (b ∷ bs)) ≤ length (b ∷ bs)
    by_test true e l = rw (white_run b bs e) (omega arith)
    by_test false e l = rw (plain_run b bs e) (omega arith)

-- a text no longer than this one, whose tokens are the first ones of this
record IsFront (apart : Bool) (line : ℕ) (text : List ℕ) (n : ℕ) : Type 0 where
  front : List ℕ
  tokens : tokens_from apart line (as_line front) ≡ take n (tokens_from apart line text)
  run : apart ≡ false → before_first is_white_space (as_line front) ≡ before_first is_white_space text
  short : length front ≤ length text

prefix_of : (text : List ℕ) (apart : Bool) (line n : ℕ) → IsFront apart line text n
prefix_of text true line zero = record { front = []; tokens = refl; run = λ e. cc; short = omega arith }
prefix_of text false line zero = record {
  front = before_first is_white_space text;
  tokens = quiet line (before_first is_white_space text) (plain_front text);
  run = λ e. run_of (before_first is_white_space text) (10 ∷ []) (plain_front text) (at_white refl);
  short = run_length text;
}
prefix_of [] apart line (suc n) = record { front = []; tokens = none apart; run = λ e. refl; short = omega arith }
  where
    none : (b : Bool) → tokens_from b line (10 ∷ []) ≡ take (suc n) (tokens_from b line [])
    none true = refl
    none false = refl
prefix_of (b ∷ bs) apart line (suc n) =
    by_white (is_white_space b) refl apart (λ d m. prefix_of bs d (line_after line b) m)
  where
    by_white : (w : Bool) → is_white_space b ≡ w → (apart : Bool)
        → ((d : Bool) (m : ℕ) → IsFront d (line_after line b) bs m) → IsFront apart line (b ∷ bs) (suc n)
    by_white true e apart prefixes =
        let f = prefixes true (suc n) in record {
          front = b ∷ f.front;
          tokens = passed apart (as_line f.front) ∙ f.tokens ∙ ap (take (suc n)) (sym (passed apart bs));
          run = λ x. white_run b (as_line f.front) e ∙ sym (white_run b bs e);
          short = let s = f.short in omega arith;
        }
      where
        passed : (apart : Bool) (cs : List ℕ) → tokens_from apart line (b ∷ cs) ≡ tokens_from true (line_after line b) cs
        passed true cs = rw e refl
        passed false cs = rw e refl
    by_white false e true prefixes =
        let f = prefixes false n in record {
          front = b ∷ f.front;
          tokens = begun (as_line f.front)
              ∙ ap (λ t. record { bytes = b ∷ t; line = line } ∷ tokens_from false (line_after line b) (as_line f.front)) (f.run refl)
              ∙ ap (λ l. record { bytes = b ∷ before_first is_white_space bs; line = line } ∷ l) f.tokens
              ∙ ap (take (suc n)) (sym (begun bs));
          run = λ x. cc;
          short = let s = f.short in omega arith;
        }
      where
        begun : (cs : List ℕ) → tokens_from true line (b ∷ cs) ≡ record { bytes = b ∷ before_first is_white_space cs; line = line } ∷ tokens_from false (line_after line b) cs
        begun cs = rw (e, one-add) refl
    by_white false e false prefixes =
        let f = prefixes false (suc n) in record {
          front = b ∷ f.front;
          tokens = inside (as_line f.front) ∙ f.tokens ∙ ap (take (suc n)) (sym (inside bs));
          run = λ x. plain_run b (as_line f.front) e ∙ ap (λ l. b ∷ l) (f.run refl) ∙ sym (plain_run b bs e);
          short = let s = f.short in omega arith;
        }
      where
        inside : (cs : List ℕ) → tokens_from false line (b ∷ cs) ≡ tokens_from false (line_after line b) cs
        inside cs = rw e refl

-- the first tokens of a text are those of a line no longer than it
pub first_tokens : (text : List ℕ) (n : ℕ) → (front : List ℕ) × (tokens_of (as_line front) ≡ take n (tokens_of text)) × (length front ≤ length text)
first_tokens text n =
    let f = prefix_of text true 1 n in
    (f.front, forward (as_line f.front) ∙ f.tokens ∙ ap (take n) (sym (forward text)), f.short)
