-- A strobe has fewer edges than there are times: an input has fewer than 2^63 tokens.
use Rattle.vcd_laws.proofs.Cited.{Bool, List, None, Ok, Option, Some, [], ap, arith, cond, false, filter, inl, length, nat_le, nat_lt, refl, suc, sym, true, zero, ℕ, ◌++◌, ◌+◌, ◌-◌, ◌<◌, ◌^◌, ◌∙◌, ◌∷◌, ◌≡◌, ◌≤◌, leb-false, ltb-true, length-append, length-map, AllByRecursion, cons_option, range_with_len, Opens, BodyPhrase, items_of, Comment, Gives, body_grammar, body_items, IdCode, Header, HeaderPhrase, header_grammar, Input, BodyItem, Opened, items_in, AreGood, IsGood, IsReading, Placed, Reading, phrases_of, reading_of, HaltPlace, Stream, Token, begins_token, comes_before, end_at, failed_read, line_at, stream_until, token_at, token_places, too_long_tokens, too_much_input}
use Rattle.vcd_model.specs.Tokens.{first_halt, given_places, stream_of}
use Rattle.vcd_model.specs.BodyReading.{read_body}
use Rattle.vcd_model.specs.HeaderReading.{read_header}
use Rattle.vcd_model.specs.Outcome.{open_from, body_of}
use Rattle.vcd_model.specs.Strobe.{Clock, edges_in, is_edge}
use Rattle.vcd_model.proofs.HeaderFacts.{inputs_all}
use Rattle.vcd_model.proofs.HeaderGrammar.{header_computes}
use Rattle.vcd_model.proofs.BodyGrammar.{body_computes}
use Rattle.vcd_model.proofs.Readings.{reading_is_one}
use Rattle.vcd_model.proofs.StrobeGrows.{edges_after}
use Rattle.vcd_laws.proofs.WrittenDeclared.{filter_fewer}
use Rattle.vcd_laws.proofs.WrittenCodes.{In, in_left}
use Rattle.vcd_laws.proofs.ShortTokens.{reduce_least}

-- ---- tokens

range_length : (a n : ℕ) → length (range_with_len a n) ≡ n
range_length a zero = refl
range_length a (suc n) = ap suc (range_length (a + 1) n)

-- offsets of which all that are kept are below a number
few_below : (keep test : ℕ → Bool) (a n top : ℕ) → ((i : ℕ) → keep i ≡ true → i < top)
    → length (filter keep (filter test (range_with_len a n))) ≤ top - a
few_below keep test a zero top below = omega arith
few_below keep test a (suc n) top below =
    by_test (test a) (keep a) refl (few_below keep test (a + 1) n top below)
  where
    rest : List ℕ
    rest = filter test (range_with_len (a + 1) n)

    by_test : (b k : Bool) → keep a ≡ k → length (filter keep rest) ≤ top - (a + 1)
        → length (filter keep (cond b (a ∷ rest) rest)) ≤ top - a
    by_test false k e more = omega arith
    by_test true true e more = let l = below a e in rw e (omega arith)
    by_test true false e more = rw e (omega arith)

few_given : (limit : ℕ) (input : Input) → length (given_places limit input) < 2 ^ 63
unfolding given_places first_halt
few_given limit input = by_size (nat_le (2 ^ 63) (length text)) refl
  where
    text : List ℕ
    text = input.bytes

    kept : ℕ → Bool
    kept i = comes_before (end_at text i) (first_halt limit input)

    by_size : (b : Bool) → nat_le (2 ^ 63) (length text) ≡ b
        → length (filter kept (token_places text)) < 2 ^ 63
    by_size false e =
        let l = leb-false (2 ^ 63) (length text) e in
        let f = filter_fewer kept (token_places text) in
        let g = filter_fewer (begins_token text) (range_with_len 0 (length text)) in
        let n = range_length 0 (length text) in
        omega arith
    by_size true e =
        let much : HaltPlace = record {
          fault = 21;
          place = 2 ^ 63 - 1;
          line = line_at text (2 ^ 63 - 1);
        } in
        let there : In much (too_much_input text ++ too_long_tokens limit text
        ++ failed_read input) =
        in_left (too_much_input text ++ too_long_tokens limit text) (failed_read input) much
        (in_left (too_much_input text) (too_long_tokens limit text) much (rw e (inl refl))) in
        let least = reduce_least (too_much_input text ++ too_long_tokens limit text
        ++ failed_read input) much there in
        let low = least.2 in
        let f = few_below kept (begins_token text) 0 (length text) (2 ^ 63 - 1) (λ i k.
        let h : nat_lt (end_at text i) least.0.place ≡ true =
        ap (comes_before (end_at text i)) (sym least.1) ∙ k in
        let l = ltb-true (end_at text i) least.0.place h in omega arith) in
        omega arith

until_few : (input : Input) (places : List ℕ) (halt : Option HaltPlace)
    → length (stream_until input places halt).tokens ≡ length places
until_few input places None = length-map places (token_at input.bytes)
until_few input places (Some halt) = length-map places (token_at input.bytes)

pub few_tokens : (limit : ℕ) (input : Input) → length (stream_of limit input).tokens < 2 ^ 63
unfolding stream_of
few_tokens limit input =
    let n = until_few input (given_places limit input) (first_halt limit input) in
    let f = few_given limit input in
    omega arith

-- ---- what is left after a header

left_few : (most : ℕ) (stream : Stream) → length (read_header most stream).rest
    ≤ length stream.tokens
unfolding read_header
left_few most stream =
    by_reading (reading_of (header_grammar most) stream.tokens)
    (reading_is_one (header_grammar most) (header_computes most) stream.tokens)
  where
    by_reading : (r : Reading HeaderPhrase) → IsReading (header_grammar most) stream.tokens r
        → length r.rest ≤ length stream.tokens
    by_reading r is =
        let e = ap length is.tokens in
        let f = length-append (is.done ++ is.before) r.rest in
        omega arith

rest_few : (limit : ℕ) (earlier : List Header) (inputs : List Input) (os : List Opened)
    → open_from limit earlier inputs ≡ Ok os
    → AllByRecursion (λ (o : Opened). length o.rest < 2 ^ 63) os
rest_few limit earlier inputs os h =
    inputs_all (λ (o : Opened). length o.rest < 2 ^ 63) limit
    (λ most input. let a = left_few most (stream_of limit input) in
    let b = few_tokens limit input in omega arith) earlier inputs os h

-- ---- items

module _ (codes : List IdCode) where
  placed_few : (earlier : List BodyPhrase) (ts : List Token) (ps : List (Placed BodyPhrase))
      → AreGood (body_grammar codes) earlier ts ps
      → length (items_of (phrases_of ps)) ≤ length ts
  placed_few earlier ts [] good = omega arith
  placed_few earlier ts (p ∷ ps) good =
      let is : IsGood (body_grammar codes) earlier good.0 p = good.3 in
      let a = ap length good.2 in
      let b = length-append good.0 good.1 in
      let c = ap length is.tokens in
      let d = length-append is.front (is.last ∷ []) in
      by_phrase p.phrase (omega arith) (placed_few (earlier ++ p.phrase ∷ []) good.1 ps good.4)
    where
      by_phrase : (q : BodyPhrase) → 1 + length good.1 ≤ length ts
          → length (items_of (phrases_of ps)) ≤ length good.1
          → length (items_of (q ∷ phrases_of ps)) ≤ length ts
      by_phrase (Comment inner) l more = omega arith
      by_phrase (Gives x) l more = omega arith

  items_few : (ts : List Token) → length (body_items (read_body codes ts)) ≤ length ts
  unfolding read_body
  items_few ts =
      by_reading (reading_of (body_grammar codes) ts)
      (reading_is_one (body_grammar codes) (body_computes codes) ts)
    where
      by_reading : (r : Reading BodyPhrase) → IsReading (body_grammar codes) ts r
          → length (items_of (phrases_of r.placed)) ≤ length ts
      by_reading r is =
          let e = ap length is.tokens in
          let f = length-append (is.done ++ is.before) r.rest in
          let g = length-append is.done is.before in
          let n = placed_few [] is.done r.placed is.good in
          omega arith

pub few_items : (limit : ℕ) (input : Input) (o : Opened) → Opens limit input o
    → length (items_in o) < 2 ^ 63
unfolding body_of
few_items limit input o h =
    let a = (rest_few limit [] (input ∷ []) (o ∷ []) h).0 in
    let b = items_few o.header.codes o.rest in
    omega arith

-- ---- edges

edges_few : (ks : List Clock) (p q : List BodyItem) → length (edges_after ks p q) ≤ length q
edges_few ks p [] = omega arith
edges_few ks p (x ∷ q) = by_edge (is_edge ks p x) (edges_few ks (p ++ x ∷ []) q)
  where
    by_edge : (b : Bool) → length (edges_after ks (p ++ x ∷ []) q) ≤ length q
        → length (cons_option (cond b (Some p) None) (edges_after ks (p ++ x ∷ []) q))
        ≤ length (x ∷ q)
    by_edge true h = omega arith
    by_edge false h = omega arith

-- an input has fewer edges than there are times
pub few_edges : (limit : ℕ) (input : Input) (o : Opened) (ks : List Clock) → Opens limit input o
    → length (edges_in ks (items_in o)) < 2 ^ 64
unfolding edges_in
few_edges limit input o ks h =
    let a = few_items limit input o h in
    let b = edges_few ks [] (items_in o) in
    omega arith
