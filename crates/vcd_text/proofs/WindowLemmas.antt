-- A step of a feed, in the text.
use Rattle.vcd_text.proofs.Cited.{◌≡◌, ℕ, zero, suc, ◌+◌, ◌-◌, ◌^◌, ◌≤◌, ◌<◌, Bool, true, false, List, [], ◌∷◌, ◌++◌, length, take, drop, refl, ap, sym, ◌∙◌, subst, arith, ◌⊎◌, inl, inr, add-zero, zero-add, append-nil, length-drop, length-append, slice_index, slice_range, ◌==◌, nat_lt, if◌then◌else◌, Option, Some, None, Ok, Err, drop_more, take-take, length-take, length-take-le, nat_tests, Consumes, IsAtEnd, Keeps, is_white_space, Input, Mark, Clean, Failed, Token, end_of_tokens, line_at, stream_of, begun, line_feeds_in, skipped, gathered, ended, refilled, Whites, Gathers, Skips, TakesShort, Collects, Fills, Finishes, Halts, looked, Fits, halt_number, whole, failed_after, Ends, NextGives, Near, HasRest, AtPlace, At, IsMarkAfter, NoHaltBefore, InPhase, HasGivenAt, Parked, Going, Halted, Halt, Whole, Part, TooLong, More, Next, Finish, TokenTooLong, InputTooLong, ReadFailed}
use Rattle.vcd_text.specs.declared.window.Filled.TheVariants.{Failed as fill-failed}
use Rattle.vcd_text.specs.declared.answer.Next.TheVariants.{Token as token-given}
use Rattle.vcd_text.proofs.Steps.{live-others, live-whites, live-end, live-take, token_to}
use Rattle.vcd_text.proofs.Streams.{much-stream, long-stream, failed-stream, clean-stream, halts-from, end-of-token}
use Rattle.vcd_text.proofs.AheadLemmas.{ahead-index, ahead-length, ahead-drop, ahead-slice, line_feeds_in-more, line_feeds_in-other, slice_range-append}

-- what has come of the next token is in the window
pub record Within (limit : ℕ) (rest : Option (List ℕ)) (chunk token : List ℕ) (p : Parked) (text : List ℕ) (given : List Token) : Type 0 where
  pub at : At limit rest chunk p text given p.size
  pub bytes : take p.size token ≡ slice_range text (looked p - p.size) (looked p)
  pub line : 0 < p.size → p.line ≡ line_at text (looked p - p.size)

-- and white space has been passed over
pub record Ready (limit : ℕ) (rest : Option (List ℕ)) (chunk token : List ℕ) (p : Parked) (text : List ℕ) (given : List Token) : Type 0 where
  pub within : Within limit rest chunk token p text given
  pub line : p.line ≡ line_at text (looked p - p.size)
  pub begins : p.size ≡ 0 → p.at < p.stop → is_white_space (slice_index chunk p.at) ≡ false

-- d bytes further on in the chunk, which are white
whites-on : (limit : ℕ) (rest : Option (List ℕ)) (chunk text : List ℕ) (given : List Token) (at end p line_feeds d : ℕ) → AtPlace limit rest chunk text given at end p p line_feeds
    → end ≤ length chunk → d ≤ end - at → p + d < 2 ^ 63 → ((k : ℕ) → k < d → is_white_space (slice_index chunk (at + k)) ≡ true)
    → AtPlace limit rest chunk text given (at + d) end (p + d) (p + d) (line_feeds + line_feeds_in (slice_range chunk at (at + d)))
whites-on limit rest chunk text given at end p line_feeds d w fits le small white = record {
  more = w.more;
  known = w.known;
  ahead = ahead-drop text chunk w.more p at end d w.ahead fits le;
  within = omega (arith, ahead-length text chunk w.more p at end w.ahead w.within fits);
  live = live-whites limit text p d given (λ k h. ap is_white_space (ahead-index text chunk w.more p at end k w.ahead fits (omega arith)) ∙ white k h) small w.live;
  line_feeds_are = rw (line_feeds_in-more, ahead-slice text chunk w.more p at end d w.ahead fits le, ← w.line_feeds_are) refl;
}

-- d bytes further on in the chunk, which are not
others-on : (limit : ℕ) (rest : Option (List ℕ)) (chunk text : List ℕ) (given : List Token) (at end p r line_feeds d : ℕ) → AtPlace limit rest chunk text given at end p r line_feeds
    → end ≤ length chunk → d ≤ end - at → at ≤ end → p + d < 2 ^ 63 → p + d ≤ r + limit → ((k : ℕ) → k < d → is_white_space (slice_index chunk (at + k)) ≡ false)
    → AtPlace limit rest chunk text given (at + d) end (p + d) r line_feeds
others-on limit rest chunk text given at end p r line_feeds d w fits le order small short other = record {
  more = w.more;
  known = w.known;
  ahead = ahead-drop text chunk w.more p at end d w.ahead fits le;
  within = omega (arith, ahead-length text chunk w.more p at end w.ahead w.within fits);
  live = live-others limit text p d r given (λ k h. ap is_white_space (ahead-index text chunk w.more p at end k w.ahead fits (omega arith)) ∙ other k h) small short w.live;
  line_feeds_are = rw (line_feeds_in-more, ahead-slice text chunk w.more p at end d w.ahead fits le, line_feeds_in-other chunk at d (omega arith) other, add-zero) w.line_feeds_are;
}

pub skip-within : (limit : ℕ) (rest : Option (List ℕ)) (chunk token : List ℕ) (p : Parked) (text : List ℕ) (given : List Token) (d : ℕ)
    → Fits p (length chunk) limit → p.size ≡ 0 → Whites chunk p d → Within limit rest chunk token p text given
    → Ready limit rest chunk token (skipped chunk p d) text given
skip-within limit rest chunk token p text given d r empty s w =
    let zeroth : looked p - p.size ≡ looked p = omega arith in
    let old = rw zeroth at w.at.place in
    let on = whites-on limit rest chunk text given p.at p.end (looked p) p.line_feeds d old r.end (omega (arith, r.stop, s.to)) (omega (arith, r.counted, s.to)) s.white in
    let place : p.base + (p.at + d) ≡ looked p + d = omega arith in
    let less : p.base + (p.at + d) - p.size ≡ looked p + d = omega arith in
    let none : looked p + d - (looked p + d) ≡ 0 = omega arith in
    record {
      within = record {
        at = record { place = rw (less, place) on; begun = omega arith };
        bytes = rw (less, place, empty, none) refl;
        line = λ h. absurd (omega arith);
      };
      line = rw (less, ← on.line_feeds_are) (omega arith);
      begins = λ _ h. s.after h;
    }

pub gathered-within : (limit : ℕ) (rest : Option (List ℕ)) (chunk token token' : List ℕ) (p : Parked) (text : List ℕ) (given : List Token) (d : ℕ)
    → Fits p (length chunk) limit → length token ≡ limit → Gathers chunk token token' p d → Ready limit rest chunk token p text given
    → Within limit rest chunk token' (gathered p d) text given
gathered-within limit rest chunk token token' p text given d r full s w =
    let begun = w.within.at.begun in
    let on = others-on limit rest chunk text given p.at p.end (looked p) (looked p - p.size) p.line_feeds d w.within.at.place r.end
    (omega (arith, r.stop, s.to)) (omega (arith, r.at, r.stop)) (omega (arith, r.counted, s.to)) (omega (arith, s.room, begun)) s.other in
    let place : p.base + (p.at + d) ≡ looked p + d = omega arith in
    let less : p.base + (p.at + d) - (p.size + d) ≡ looked p - p.size = omega arith in
    record {
      at = record { place = rw (less, place) on; begun = omega arith };
      bytes = rw (less, place, s.bytes, w.within.bytes, ← (ahead-slice text chunk w.within.at.place.more (looked p) p.at p.end d w.within.at.place.ahead r.end (omega (arith, r.stop, s.to))))
          (slice_range-append text (looked p - p.size) (looked p) d (omega arith));
      line = λ h. rw less w.line;
    }

-- a byte further on, if a token ends
end-on : (limit : ℕ) (rest : Option (List ℕ)) (chunk text : List ℕ) (given : List Token) (at end p r line_feeds : ℕ) → AtPlace limit rest chunk text given at end p r line_feeds
    → end ≤ length chunk → at < end → p + 1 < 2 ^ 63 → r < p → is_white_space (slice_index chunk at) ≡ true
    → AtPlace limit rest chunk text (given ++ token_to text r p ∷ []) (at + 1) end (p + 1) (p + 1) (line_feeds + line_feeds_in (slice_range chunk at (at + 1)))
end-on limit rest chunk text given at end p r line_feeds w fits lt small begun white =
    let here : slice_index text (p + 0) ≡ slice_index chunk (at + 0) = ahead-index text chunk w.more p at end 0 w.ahead fits (omega arith) in
    let byte : slice_index text p ≡ slice_index chunk at = rw (add-zero, add-zero) at here in
    record {
      more = w.more;
      known = w.known;
      ahead = ahead-drop text chunk w.more p at end 1 w.ahead fits (omega arith);
      within = omega (arith, ahead-length text chunk w.more p at end w.ahead w.within fits);
      live = live-end limit text p r given (ap is_white_space byte ∙ white) begun small w.within w.live;
      line_feeds_are = rw (line_feeds_in-more, ahead-slice text chunk w.more p at end 1 w.ahead fits (omega arith), ← w.line_feeds_are) refl;
    }

line_feeds_in-one : (chunk : List ℕ) (at : ℕ) → at < length chunk → line_feeds_in (slice_range chunk at (at + 1)) ≡ (if slice_index chunk at == 10 then 1 else 0)
line_feeds_in-one chunk at lt =
    let a : at + 1 - at ≡ 1 = omega arith in
    rw (a, drop_more chunk at 0 lt) (zero-add _)

not-none : (n : ℕ) → (n ≡ 0 → ⊥) → 0 < n
not-none n h = omega arith

true-false : (b : Bool) → b ≡ true → b ≡ false → ⊥
true-false b t f = cc

-- some bytes of it have come
ended-some : (limit : ℕ) (rest : Option (List ℕ)) (chunk token : List ℕ) (p : Parked) (text : List ℕ) (given : List Token) (d : ℕ)
    → p.at + d < p.stop → is_white_space (slice_index chunk (p.at + d)) ≡ true → Ready limit rest chunk token p text given → 0 < p.size + d
ended-some limit rest chunk token p text given d lt white w = not-none (p.size + d) (λ e.
    let a : p.size ≡ 0 = omega arith in
    let b : p.at + d ≡ p.at = omega arith in
    true-false (is_white_space (slice_index chunk p.at)) (rw b at white) (w.begins a (omega arith)))

pub end-at : (limit : ℕ) (rest : Option (List ℕ)) (chunk token token' : List ℕ) (p : Parked) (text : List ℕ) (given : List Token) (d : ℕ)
    → Fits p (length chunk) limit → length token ≡ limit → Gathers chunk token token' p d → p.at + d < p.stop
    → is_white_space (slice_index chunk (p.at + d)) ≡ true → Ready limit rest chunk token p text given
    → At limit rest chunk (ended chunk p d) text (given ++ (record { bytes = take (p.size + d) token'; line = p.line }) ∷ []) 0
end-at limit rest chunk token token' p text given d r full s lt white w =
    let v = gathered-within limit rest chunk token token' p text given d r full s w in
    let some = ended-some limit rest chunk token p text given d lt white w in
    let q : ℕ = p.base + (p.at + d) in
    let begun = v.at.begun in
    let less : p.base + (p.at + d) - (p.size + d) ≡ looked p - p.size = omega (arith, w.within.at.begun) in
    let on = end-on limit rest chunk text given (p.at + d) p.end q (q - (p.size + d)) p.line_feeds v.at.place r.end (omega (arith, r.stop)) (omega (arith, r.counted)) (omega arith) white in
    let token-is : token_to text (q - (p.size + d)) q ≡ record { bytes = take (p.size + d) token'; line = p.line } = rw (v.bytes, w.line, less) refl in
    let place : p.base + (p.at + d + 1) ≡ q + 1 = omega arith in
    let less' : p.base + (p.at + d + 1) - 0 ≡ q + 1 = omega arith in
    record { place = rw (less', place, ← token-is, ← (line_feeds_in-one chunk (p.at + d) (omega (arith, r.stop, r.end)))) on; begun = omega arith }

no-loss : (rest : Option (List ℕ)) (bs more : List ℕ) → rest ≡ Some more → Consumes rest None bs → ⊥
no-loss None bs more e c = cc
no-loss (Some xs) bs more e c = c

consumed : (rest : Option (List ℕ)) (bs more more' : List ℕ) → rest ≡ Some more → Consumes rest (Some more') bs → more ≡ bs ++ more'
consumed None bs more more' e c = cc
consumed (Some xs) bs more more' e c = cc

at-end : (rest : Option (List ℕ)) (more : List ℕ) → rest ≡ Some more → IsAtEnd rest → more ≡ []
at-end None more e c = cc
at-end (Some xs) more e c = cc

-- the chunk is used up, and the source gives n bytes more
pub fill-within : (limit : ℕ) (rest rest' : Option (List ℕ)) (chunk chunk' token : List ℕ) (p : Parked) (text : List ℕ) (given : List Token) (n : ℕ)
    → p.end ≤ p.at → n ≤ length chunk' → Consumes rest rest' (take n chunk')
    → Within limit rest chunk token p text given → Within limit rest' chunk' token (refilled p n) text given
fill-within limit rest None chunk chunk' token p text given n used fits consumes w = absurd (no-loss rest (take n chunk') w.at.place.more w.at.place.known consumes)
fill-within limit rest (Some more') chunk chunk' token p text given n used fits consumes w =
    let place : p.base + p.at + 0 ≡ looked p = omega arith in
    let none : p.end - p.at ≡ 0 = omega arith in
    let ahead : drop (looked p) text ≡ w.at.place.more = rw none at w.at.place.ahead in
    let more : w.at.place.more ≡ take n chunk' ++ more' = consumed rest (take n chunk') w.at.place.more more' w.at.place.known consumes in
    let zeroth : n - 0 ≡ n = omega arith in
    record {
      at = record {
        place = rw place (record {
          more = more';
          known = refl;
          ahead = rw zeroth (ahead ∙ more);
          within = w.at.place.within;
          live = w.at.place.live;
          line_feeds_are = w.at.place.line_feeds_are;
        });
        begun = rw place w.at.begun;
      };
      bytes = rw place w.bytes;
      line = rw place w.line;
    }

-- all is looked at
used-up : (limit : ℕ) (rest : Option (List ℕ)) (chunk text : List ℕ) (given : List Token) (at end p r line_feeds : ℕ)
    → AtPlace limit rest chunk text given at end p r line_feeds → end ≤ at → IsAtEnd rest → length text ≡ p
used-up limit rest chunk text given at end p r line_feeds w used none =
    let no : end - at ≡ 0 = omega arith in
    let ahead : drop p text ≡ w.more = rw no at w.ahead in
    let nil = at-end rest w.more w.known none in
    omega (arith, length-drop p text, ap length (ahead ∙ nil), w.within)

ends-by : (limit : ℕ) (i : Input) (given tokens : List Token) (halt : Option ℕ) (line m : ℕ)
    → stream_of limit i ≡ record { tokens = tokens; halt = halt; line = m } → tokens ≡ given → m ≡ line → Ends limit i given halt line
ends-by limit i given tokens halt line m e t n = e ∙ (ap (λ ts. record { tokens = ts; halt = halt; line = m }) t ∙ ap (λ k. record { tokens = given; halt = halt; line = k }) n)

-- the source has ended, and no token has begun
pub finish-ends : (limit : ℕ) (rest : Option (List ℕ)) (chunk token : List ℕ) (p : Parked) (text : List ℕ) (given : List Token) → p.end ≤ p.at
    → IsAtEnd rest → p.size ≡ 0 → Within limit rest chunk token p text given
    → Ends limit (whole text) given None (p.line_feeds + 1)
finish-ends limit rest chunk token p text given used none empty w =
    let place = w.at.place in
    let n = used-up limit rest chunk text given p.at p.end (looked p) (looked p - p.size) p.line_feeds place used none in
    let no : nat_lt (looked p - p.size) (looked p) ≡ false = let le : looked p ≤ looked p - p.size = omega arith in grind (arith, nat_tests) in
    let e = ap (λ k. line_feeds_in (take k text)) n in
    let f = place.line_feeds_are in
    ends-by limit (whole text) given _ None (p.line_feeds + 1) _
    (clean-stream limit text (looked p) (looked p - p.size) given place.live place.within n) (rw no (append-nil given)) (omega (arith, e, f))

-- the source has ended, and a token with it
pub finish-gives : (limit : ℕ) (rest : Option (List ℕ)) (chunk token : List ℕ) (p : Parked) (text : List ℕ) (given : List Token) → p.end ≤ p.at
    → IsAtEnd rest → 0 < p.size → Within limit rest chunk token p text given
    → Ends limit (whole text) (given ++ (record { bytes = take p.size token; line = p.line }) ∷ []) None (p.line_feeds + 1)
finish-gives limit rest chunk token p text given used none some w =
    let place = w.at.place in
    let n = used-up limit rest chunk text given p.at p.end (looked p) (looked p - p.size) p.line_feeds place used none in
    let begun = w.at.begun in
    let yes : nat_lt (looked p - p.size) (looked p) ≡ true = let lt : looked p - p.size < looked p = omega arith in grind (arith, nat_tests) in
    let token-is : token_to text (looked p - p.size) (looked p) ≡ record { bytes = take p.size token; line = p.line } = rw (w.bytes, w.line some) refl in
    let e = ap (λ k. line_feeds_in (take k text)) n in
    let f = place.line_feeds_are in
    ends-by limit (whole text) (given ++ (record { bytes = take p.size token; line = p.line }) ∷ []) _ None (p.line_feeds + 1) _
    (clean-stream limit text (looked p) (looked p - p.size) given place.live place.within n) (rw (yes, token-is) refl) (omega (arith, e, f))

-- the token is too long
pub long-ends : (limit : ℕ) (rest : Option (List ℕ)) (chunk token : List ℕ) (p : Parked) (text : List ℕ) (given : List Token) (d : ℕ)
    → Fits p (length chunk) limit → p.size + d ≡ limit → p.at + d < p.stop
    → ((k : ℕ) → k < d + 1 → is_white_space (slice_index chunk (p.at + k)) ≡ false) → Ready limit rest chunk token p text given
    → Ends limit (whole text) given (Some 1) p.line
long-ends limit rest chunk token p text given d r full lt other w =
    let begun = w.within.at.begun in
    let place = w.within.at.place in
    let on = others-on limit rest chunk text given p.at p.end (looked p) (looked p - p.size) p.line_feeds d place r.end (omega (arith, r.stop))
    (omega (arith, r.at, r.stop)) (omega (arith, r.counted)) (omega arith) (λ k h. other k (omega arith)) in
    let byte : slice_index text (looked p + d) ≡ slice_index chunk (p.at + d) = ahead-index text chunk place.more (looked p) p.at p.end d place.ahead r.end (omega (arith, r.stop)) in
    let white : is_white_space (slice_index text (looked p + d)) ≡ false = ap is_white_space byte ∙ other d (omega arith) in
    let fits = ahead-length text chunk place.more (looked p) p.at p.end place.ahead place.within r.end in
    ends-by limit (whole text) given given (Some 1) p.line _ (long-stream limit text (looked p + d) (looked p - p.size) given on.live on.within Clean
    (omega arith) (omega (arith, r.stop)) (omega (arith, r.counted)) white) refl (sym w.line)

-- the input is too long
pub input-ends : (limit : ℕ) (rest : Option (List ℕ)) (chunk token : List ℕ) (p : Parked) (text : List ℕ) (given : List Token)
    → Fits p (length chunk) limit → p.at ≡ p.stop → p.stop < p.end → Within limit rest chunk token p text given
    → Ends limit (whole text) given (Some 21) (p.line_feeds + 1)
input-ends limit rest chunk token p text given r used lt w =
    let place = w.at.place in
    let fits = ahead-length text chunk place.more (looked p) p.at p.end place.ahead place.within r.end in
    let full = r.stops lt in
    let f = place.line_feeds_are in
    ends-by limit (whole text) given given (Some 21) (p.line_feeds + 1) _
    (much-stream limit text (looked p) (looked p - p.size) given place.live place.within Clean (omega arith) (omega arith)) refl
    (omega (arith, f))

-- the source has failed
pub fail-ends : (limit : ℕ) (rest : Option (List ℕ)) (chunk token : List ℕ) (p : Parked) (text : List ℕ) (given : List Token) → Within limit rest chunk token p text given
    → Ends limit (record { bytes = take (looked p) text; mark = Failed }) given (Some 31) (p.line_feeds + 1)
fail-ends limit rest chunk token p text given w =
    let place = w.at.place in
    let n = length-take-le (looked p) text place.within in
    let e = ap (λ k. line_feeds_in (take k (take (looked p) text))) n ∙ ap line_feeds_in (take-take (looked p) (looked p) text (omega arith)) in
    let f = place.line_feeds_are in
    ends-by limit (record { bytes = take (looked p) text; mark = Failed }) given given (Some 31) (p.line_feeds + 1) _
    (failed-stream limit (take (looked p) text) (looked p) (looked p - p.size) given
    (live-take limit text (looked p) (looked p - p.size) given place.within place.live) (omega (arith, n)) n) refl (omega (arith, e, f))

-- what was read and not looked at lies in the chunk
pub near-place : (limit : ℕ) (rest : Option (List ℕ)) (chunk text : List ℕ) (given : List Token) (at end p r line_feeds : ℕ) (mark : Mark)
    → AtPlace limit rest chunk text given at end p r line_feeds → Near (length chunk) rest p (record { bytes = text; mark = mark })
near-place limit rest chunk text given at end p r line_feeds mark w =
    let slice : length (slice_range chunk at end) ≤ length chunk = simp (length-take, length-drop) (omega arith) in
    rw w.known (omega (arith, slice, length-append (slice_range chunk at end) w.more, length-drop p text, ap length w.ahead, w.within))

-- nothing that was read is not looked at
pub near-short : (chunk : ℕ) (rest : Option (List ℕ)) (n : ℕ) (i : Input) → length i.bytes ≤ n → Near chunk rest n i
near-short chunk None n i le = tt
near-short chunk (Some more) n i le = omega arith

zero-or-more : (n : ℕ) → (n ≡ 0) ⊎ (0 < n)
zero-or-more zero = inl refl
zero-or-more (suc n) = inr (omega arith)

pub skip-ready : (limit : ℕ) (rest : Option (List ℕ)) (chunk token : List ℕ) (old new : Parked) (text : List ℕ) (given : List Token)
    → Fits old (length chunk) limit → (0 < old.size → new ≡ old) → (old.size ≡ 0 → Skips chunk old new) → Within limit rest chunk token old text given
    → Ready limit rest chunk token new text given
skip-ready limit rest chunk token old new text given r begun skips w = elim (zero-or-more old.size) [
  | inl none ↦ rw (skips none).1 (skip-within limit rest chunk token old text given (new.at - old.at) r none (skips none).0 w)
  | inr some ↦ rw (begun some) (record { within = w; line = w.line some; begins = λ none h. absurd (omega arith) })
]

-- what lasts over the steps of one answer
pub record Turns (limit : ℕ) (stands : Input → List Token → Type 0) (rest : Option (List ℕ)) (chunk token : List ℕ) (size : ℕ) (p : Parked) : Type 0 where
  pub fits : Fits p size limit
  pub going : p.phase ≡ Going
  pub clean : (i : Input) (given : List Token) → stands i given → i.mark ≡ Clean
  pub within : (i : Input) (given : List Token) → stands i given → Within limit rest chunk token p i.bytes given

is-whole : (i : Input) → i.mark ≡ Clean → whole i.bytes ≡ i
is-whole i e = sym (ap (λ m. record { bytes = i.bytes; mark = m }) e)

-- no halt is before what was looked at
no-halt-within : (limit : ℕ) (rest : Option (List ℕ)) (chunk token : List ℕ) (p : Parked) (i : Input) (given : List Token)
    → Within limit rest chunk token p i.bytes given → NoHaltBefore limit i (looked p)
no-halt-within limit rest chunk token p i given w = halts-from limit i.bytes (looked p) (looked p - p.size) given w.at.place.live w.at.place.within i.mark

no-halt-cut : (limit : ℕ) (rest : Option (List ℕ)) (chunk token : List ℕ) (p : Parked) (text : List ℕ) (given : List Token)
    → Within limit rest chunk token p text given → NoHaltBefore limit (record { bytes = take (looked p) text; mark = Failed }) (looked p)
no-halt-cut limit rest chunk token p text given w =
    let place = w.at.place in
    halts-from limit (take (looked p) text) (looked p) (looked p - p.size) given
    (live-take limit text (looked p) (looked p - p.size) given place.within place.live)
    (omega (arith, length-take-le (looked p) text place.within)) Failed

-- there is a halt, and the window is empty
pub halted-stands : (limit : ℕ) (rest : Option (List ℕ)) (chunk token : List ℕ) (p : Parked) (i : Input) (given : List Token) (h : Halt)
    → p.phase ≡ Halted h → p.size ≡ 0 → Near (length chunk) rest (looked p) i → IsMarkAfter h i.mark
    → Ends limit i given (Some (halt_number h)) p.line → NoHaltBefore limit i (looked p)
    → HasGivenAt limit rest chunk p i given × (take p.size token ≡ []) × Ends limit i given (Some (halt_number h)) p.line
halted-stands limit rest chunk token p i given h phase empty near marks e before = (rw phase (near, marks, e, before), rw empty refl, e)

-- before the first step
pub first-turns : (limit : ℕ) (rest : Option (List ℕ)) (chunk token : List ℕ) (p : Parked) → Fits p (length chunk) limit → p.phase ≡ Going
    → Turns limit (HasGivenAt limit rest chunk p) rest chunk token (length chunk) (record p { size = 0 })
first-turns limit rest chunk token p r going = record {
  fits = record { at = r.at; stop = r.stop; end = r.end; stops = r.stops; counted = r.counted; line_feeds = r.line_feeds; size = omega arith; kept = r.kept };
  going = going;
  clean = λ i given st. (subst (λ q. InPhase q limit rest chunk p i given) going st).0;
  within = λ i given st.
      let a = (subst (λ q. InPhase q limit rest chunk p i given) going st).1 in
      let none : looked p - (looked p - 0) ≡ 0 = omega arith in
      record {
        at = record { place = a.place; begun = a.begun };
        bytes = sym (ap (λ n. take n (drop (looked p - 0) i.bytes)) none);
        line = λ lt. absurd (omega arith);
      };
}

pub after-skip : (limit : ℕ) (stands : Input → List Token → Type 0) (rest : Option (List ℕ)) (chunk token : List ℕ) (size : ℕ) (old mid : Parked)
    → Turns limit stands rest chunk token size old → length chunk ≡ size → (0 < old.size → mid ≡ old) → (old.size ≡ 0 → Skips chunk old mid)
    → (i : Input) (given : List Token) → stands i given → Ready limit rest chunk token mid i.bytes given
after-skip limit stands rest chunk token size old mid t fits begun skips i given st =
    skip-ready limit rest chunk token old mid i.bytes given (rw fits t.fits) begun skips (t.within i given st)

pub whole-stands : (limit : ℕ) (rest : Option (List ℕ)) (chunk token token' : List ℕ) (mid new : Parked) (i : Input) (given : List Token)
    → i.mark ≡ Clean → Fits mid (length chunk) limit → length token ≡ limit → new.phase ≡ Going → Collects chunk token token' mid new Whole
    → Ready limit rest chunk token mid i.bytes given
    → HasGivenAt limit rest chunk new i (given ++ (record { bytes = take new.size token'; line = new.line }) ∷ [])
whole-stands limit rest chunk token token' mid new i given clean r full phase cs w =
    let a : At limit rest chunk new i.bytes (given ++ (record { bytes = take new.size token'; line = new.line }) ∷ []) 0 = rw cs.4
    (end-at limit rest chunk token token' mid i.bytes given cs.0 r full cs.1 cs.2 cs.3 w) in
    subst (λ q. InPhase q limit rest chunk new i (given ++ (record { bytes = take new.size token'; line = new.line }) ∷ [])) (sym phase) (clean, a)

pub part-within : (limit : ℕ) (rest : Option (List ℕ)) (chunk token token' : List ℕ) (mid new : Parked) (text : List ℕ) (given : List Token)
    → Fits mid (length chunk) limit → length token ≡ limit → Collects chunk token token' mid new Part → Ready limit rest chunk token mid text given
    → Within limit rest chunk token' new text given
part-within limit rest chunk token token' mid new text given r full cs w =
    rw cs.1 (gathered-within limit rest chunk token token' mid text given (mid.stop - mid.at) r full cs.0 w)

pub more-within : (limit : ℕ) (rest rest' : Option (List ℕ)) (chunk chunk' token : List ℕ) (old new : Parked) (text : List ℕ) (given : List Token)
    → old.end ≤ old.at → Fills rest rest' chunk' old new More → Within limit rest chunk token old text given
    → Within limit rest' chunk' token new text given
more-within limit rest rest' chunk chunk' token old new text given used f w =
    rw f.3 (fill-within limit rest rest' chunk chunk' token old text given new.end used f.1 f.2 w)

pub finish-stands : (limit : ℕ) (rest rest' : Option (List ℕ)) (chunk chunk' token : List ℕ) (old new : Parked) (i : Input) (given : List Token)
    (r : Next) → i.mark ≡ Clean → old.end ≤ old.at → IsAtEnd rest → Finishes old new r → Within limit rest chunk token old i.bytes given
    → NextGives (HasGivenAt limit rest' chunk' new) limit i given (Ok r) (record { bytes = take new.size token; line = new.line }) (looked new)
finish-stands limit rest rest' chunk chunk' token old new i given token-given clean used none f w =
    let n = used-up limit rest chunk i.bytes given old.at old.end (looked old) (looked old - old.size) old.line_feeds w.at.place used none in
    rw f.1 (
      near-short (length chunk') rest' (looked old) i (omega arith),
      subst (λ j. Ends limit j (given ++ (record { bytes = take old.size token; line = old.line }) ∷ []) None (old.line_feeds + 1))
          (is-whole i clean) (finish-gives limit rest chunk token old i.bytes given used none f.0 w),
      clean,
    )
finish-stands limit rest rest' chunk chunk' token old new i given Finish clean used none f w =
    let n = used-up limit rest chunk i.bytes given old.at old.end (looked old) (looked old - old.size) old.line_feeds w.at.place used none in
    let e = subst (λ j. Ends limit j given None (old.line_feeds + 1)) (is-whole i clean) (finish-ends limit rest chunk token old i.bytes given used none f.0 w) in
    rw f.1 ((near-short (length chunk') rest' (looked old) i (omega arith), e, clean), rw f.0 refl, e, clean)

-- what is answered again after a halt
pub again-gives : (limit : ℕ) (rest : Option (List ℕ)) (chunk token : List ℕ) (p : Parked) (i : Input) (given : List Token) (h : Halt)
    → p.phase ≡ Halted h → HasGivenAt limit rest chunk p i given
    → NextGives (HasGivenAt limit rest chunk (record p { size = 0 })) limit i given (Err h) (record { bytes = []; line = p.line }) (looked p)
again-gives limit rest chunk token p i given TokenTooLong phase st = let e = rw phase at st in (rw phase e, refl, e.2)
again-gives limit rest chunk token p i given InputTooLong phase st = let e = rw phase at st in (rw phase e, refl, e.2)
again-gives limit rest chunk token p i given ReadFailed phase st =
    let e = rw phase at st in
    let failed = e.1 in
    let same : i ≡ failed_after (looked p) i = rw failed refl in
    let e' = subst (λ j. Near (length chunk) rest (looked p) j × (j.mark ≡ Failed) × Ends limit j given (Some 31) p.line × NoHaltBefore limit j (looked p)) same e in
    (rw phase e', refl, e'.2)

pub long-gives : (limit : ℕ) (rest : Option (List ℕ)) (chunk token token' : List ℕ) (mid new last : Parked) (i : Input) (given : List Token)
    (r : Halt) → i.mark ≡ Clean → Fits mid (length chunk) limit → length token ≡ limit → Collects chunk token token' mid new TooLong
    → Ready limit rest chunk token mid i.bytes given
    → r ≡ TokenTooLong → Halts TokenTooLong new last
    → NextGives (HasGivenAt limit rest chunk last) limit i given (Err r) (record { bytes = take last.size token'; line = last.line }) (looked last)
long-gives limit rest chunk token token' mid new last i given r clean range full cs w is h =
    let size = range.size in
    let room : mid.size + (length token - mid.size) ≡ limit = omega arith in
    let e = long-ends limit rest chunk token mid i.bytes given (length token - mid.size) range room cs.1 cs.2 w in
    let last-is : last ≡ record mid { size = 0; phase = Halted TokenTooLong } = h ∙ rw cs.0 refl in
    let near = near-place limit rest chunk i.bytes given mid.at mid.end (looked mid) (looked mid - mid.size) mid.line_feeds i.mark w.within.at.place in
    rw (is, last-is) (halted-stands limit rest chunk token' (record mid { size = 0; phase = Halted TokenTooLong })
    i given TokenTooLong refl refl near tt (subst (λ j. Ends limit j given (Some 1) mid.line) (is-whole i clean) e)
    (no-halt-within limit rest chunk token mid i given w.within))

pub input-gives : (limit : ℕ) (rest : Option (List ℕ)) (chunk token : List ℕ) (old last : Parked) (i : Input) (given : List Token) (r : Halt)
    → i.mark ≡ Clean → Fits old (length chunk) limit → old.at ≡ old.stop → old.stop < old.end → Within limit rest chunk token old i.bytes given
    → r ≡ InputTooLong → Halts InputTooLong old last
    → NextGives (HasGivenAt limit rest chunk last) limit i given (Err r) (record { bytes = take last.size token; line = last.line }) (looked last)
input-gives limit rest chunk token old last i given r clean range used lt w is h =
    let near = near-place limit rest chunk i.bytes given old.at old.end (looked old) (looked old - old.size) old.line_feeds i.mark w.at.place in
    rw (is, h) (halted-stands limit rest chunk token (record old { size = 0; line = old.line_feeds + 1; phase = Halted InputTooLong }) i given InputTooLong refl refl near tt
    (subst (λ j. Ends limit j given (Some 21) (old.line_feeds + 1)) (is-whole i clean)
    (input-ends limit rest chunk token old i.bytes given range used lt w)) (no-halt-within limit rest chunk token old i given w))

pub fail-gives : (limit : ℕ) (rest rest' : Option (List ℕ)) (chunk chunk' token : List ℕ) (old mid last : Parked) (i : Input) (given : List Token)
    (r : Halt) → i.mark ≡ Clean → Fills rest rest' chunk' old mid fill-failed → Within limit rest chunk token old i.bytes given
    → r ≡ ReadFailed → Halts ReadFailed mid last
    → NextGives (HasGivenAt limit rest' chunk' last) limit i given (Err r) (record { bytes = take last.size token; line = last.line }) (looked last)
fail-gives limit rest rest' chunk chunk' token old mid last i given r clean fills w is h =
    let same = fills.0 in
    let stopped : Input = record { bytes = take (looked old) i.bytes; mark = Failed } in
    let at : failed_after (looked old) i ≡ stopped = rw clean refl in
    let last-is : last ≡ record old { size = 0; line = old.line_feeds + 1; phase = Halted ReadFailed } = h ∙ rw same refl in
    let near = near-short (length chunk') rest' (looked old) stopped (simp length-take (omega arith)) in
    rw (is, last-is, at) (halted-stands limit rest' chunk' token
    (record old { size = 0; line = old.line_feeds + 1; phase = Halted ReadFailed }) stopped given ReadFailed refl refl near refl
    (fail-ends limit rest chunk token old i.bytes given w) (no-halt-cut limit rest chunk token old i.bytes given w))

-- the registers, if the last token is let go
abbrev pub cleared : Parked → Parked
cleared p = record p { size = 0 }

-- ---- how far was read

ended-near : (limit : ℕ) (rest : Option (List ℕ)) (chunk token token' : List ℕ) (p : Parked) (i : Input) (given : List Token) (d : ℕ)
    → Fits p (length chunk) limit → length token ≡ limit → Gathers chunk token token' p d → p.at + d < p.stop
    → is_white_space (slice_index chunk (p.at + d)) ≡ true → Ready limit rest chunk token p i.bytes given
    → Near (length chunk) rest (end_of_tokens i.bytes (suc (length given))) i
ended-near limit rest chunk token token' p i given d r full s lt white w =
    let v = gathered-within limit rest chunk token token' p i.bytes given d r full s w in
    let place = v.at.place in
    let q : ℕ = p.base + (p.at + d) in
    let some = ended-some limit rest chunk token p i.bytes given d lt white w in
    let byte : slice_index i.bytes (q + 0) ≡ slice_index chunk (p.at + d + 0) = ahead-index i.bytes chunk place.more q (p.at + d) p.end 0 place.ahead r.end (omega (arith, r.stop)) in
    let white' : is_white_space (slice_index i.bytes q) ≡ true = ap is_white_space (rw (add-zero, add-zero) at byte) ∙ white in
    let end = end-of-token limit i.bytes q (q - (p.size + d)) given place.live place.within (omega (arith, v.at.begun)) (λ _. white') in
    rw end (near-place limit rest chunk i.bytes given (p.at + d) p.end q (q - (p.size + d)) p.line_feeds i.mark place)

pub whole-near : (limit : ℕ) (rest : Option (List ℕ)) (chunk token token' : List ℕ) (mid new : Parked) (i : Input) (given : List Token)
    → Fits mid (length chunk) limit → length token ≡ limit → Collects chunk token token' mid new Whole
    → Ready limit rest chunk token mid i.bytes given
    → Near (length chunk) rest (end_of_tokens i.bytes (suc (length given))) i
whole-near limit rest chunk token token' mid new i given r full cs w = ended-near limit rest chunk token token' mid i given cs.0 r full cs.1 cs.2 cs.3 w

-- ---- a token that begins at the next byte

module _ (limit : ℕ) (rest : Option (List ℕ)) (chunk token token' : List ℕ) (p new : Parked) (r : Fits p (length chunk) limit)
    (full : length token ≡ limit) (t : TakesShort chunk token token' p new) where
  -- no white space comes before it
  pub short-skips : Skips chunk (record p { size = 0 }) (begun p)
  short-skips =
      let none : p.at - p.at ≡ 0 = omega arith in
      let here : p.at + 0 ≡ p.at = omega arith in
      let few : line_feeds_in (slice_range chunk p.at (p.at + 0)) ≡ 0 = let z : p.at + 0 - p.at ≡ 0 = omega arith in ap (λ n. line_feeds_in (take n (drop p.at chunk))) z in
      let same : p.line_feeds ≡ p.line_feeds + line_feeds_in (slice_range chunk p.at (p.at + 0)) = omega (arith, few) in
      rw none (
        record { to = omega (arith, r.at); white = λ k less. absurd (omega arith); after = λ _. t.collects.1.other 0 (omega (arith, t.some, ap (λ (q : Parked). q.size) t.collects.4)) },
        λ j. record p { at = sym here j; size = 0; line_feeds = same j; line = same j + 1 },
      )

  short-begun : Fits (begun p) (length chunk) limit
  short-begun = record { at = r.at; stop = r.stop; end = r.end; stops = r.stops; counted = r.counted; line_feeds = r.line_feeds; size = omega arith; kept = r.kept }

  pub short-going : new.phase ≡ Going
  short-going = ap (λ (q : Parked). q.phase) t.collects.4 ∙ t.going

  module _ (i : Input) (given : List Token) (st : HasGivenAt limit rest chunk p i given) where
    short-ready : Ready limit rest chunk token (begun p) i.bytes given
    short-ready = after-skip limit (HasGivenAt limit rest chunk p) rest chunk token (length chunk) (record p { size = 0 }) (begun p)
        (first-turns limit rest chunk token p r t.going) refl (λ lt. absurd (omega arith)) (λ _. short-skips) i given st

    -- it is given
    pub short-stands : HasGivenAt limit rest chunk new i (given ++ (record { bytes = take new.size token'; line = new.line }) ∷ [])
    short-stands = whole-stands limit rest chunk token token' (begun p) new i given
        ((first-turns limit rest chunk token p r t.going).clean i given st) short-begun full short-going t.collects short-ready

    -- and nothing was read
    pub short-near : Near (length chunk) rest (end_of_tokens i.bytes (suc (length given))) i
    short-near = whole-near limit rest chunk token token' (begun p) new i given short-begun full t.collects short-ready

-- a token that ends with the input
pub finish-near : (limit : ℕ) (rest rest' : Option (List ℕ)) (chunk chunk' token : List ℕ) (p : Parked) (i : Input) (given : List Token)
    → p.end ≤ p.at → IsAtEnd rest → 0 < p.size → Within limit rest chunk token p i.bytes given
    → Near (length chunk') rest' (end_of_tokens i.bytes (suc (length given))) i
finish-near limit rest rest' chunk chunk' token p i given used none some w =
    let place = w.at.place in
    let n = used-up limit rest chunk i.bytes given p.at p.end (looked p) (looked p - p.size) p.line_feeds place used none in
    let end = end-of-token limit i.bytes (looked p) (looked p - p.size) given place.live place.within (omega (arith, w.at.begun)) (λ lt. absurd (omega arith)) in
    near-short (length chunk') rest' (end_of_tokens i.bytes (suc (length given))) i (omega arith)

-- if the source fails it has all that was not looked at
pub fail-rest : (limit : ℕ) (rest rest' : Option (List ℕ)) (chunk chunk' token : List ℕ) (old mid : Parked) (i : Input) (given : List Token)
    → old.end ≤ old.at → Fills rest rest' chunk' old mid fill-failed → Within limit rest chunk token old i.bytes given
    → HasRest rest' (looked old) i
fail-rest limit rest rest' chunk chunk' token old mid i given used fills w =
    let place = w.at.place in
    let none : old.end - old.at ≡ 0 = omega arith in
    let ahead : drop (looked old) i.bytes ≡ place.more = rw none at place.ahead in
    kept-rest rest rest' place.more place.known fills.1 ∙ ap Some (sym ahead)
  where
    kept-rest : (rest rest' : Option (List ℕ)) (more : List ℕ) → rest ≡ Some more → Keeps rest rest' → rest' ≡ Some more
    kept-rest None rest' more e k = absurd (cc)
    kept-rest (Some xs) None more e k = absurd k
    kept-rest (Some xs) (Some ys) more e k = ap Some k ∙ e

-- once a read has failed the input is marked
pub failed-marked : (limit : ℕ) (rest : Option (List ℕ)) (chunk : List ℕ) (p : Parked) (i : Input) (given : List Token)
    → HasGivenAt limit rest chunk p i given → p.phase ≡ Halted ReadFailed → i.mark ≡ Clean → ⊥
failed-marked limit rest chunk p i given st phase clean =
    let e = subst (λ q. InPhase q limit rest chunk p i given) phase st in
    let marked : i.mark ≡ Failed = e.1 in
    cc
