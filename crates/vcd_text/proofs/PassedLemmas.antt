-- Tokens that were passed ahead, and what a feed has given after them.
use Rattle.vcd_text.proofs.Cited.{◌≡◌, ◌≢◌, ℕ, suc, ◌+◌, ◌-◌, ◌^◌, ◌≤◌, ◌<◌, true, false, List, [], ◌∷◌, ◌++◌, length, take, drop, refl, ap, sym, ◌∙◌, subst, arith, inl, inr, add-zero, append-nil, append_assoc, length-append, slice_index, slice_range, ◌==◌, Option, take-take, count_by-le-length, cases_lt, cases_order, is_white_space, Input, Token, end_of_tokens, line_at, bit_at, BitsAreWhite, White, HasLookedAt, AreWhite, IsRun, StandsAt, PassedFrom, Passed, line_ahead, Fits, ahead_in, looked, line_feeds_in, gone_on, At, InPhase, Parked, Phase, Going, Ended, Halted}
use Rattle.vcd_text.proofs.Masks.{bits-before, bits-at}
use Rattle.vcd_text.proofs.Places.{length-slice_range}
use Rattle.vcd_text.proofs.Steps.{live-others, live-whites, live-end, token_to, true-false}
use Rattle.vcd_text.proofs.Streams.{end-of-token}
use Rattle.vcd_text.proofs.AheadLemmas.{ahead-length, ahead-drop, ahead-slice, line_feeds_in-more, slice-index, slice-slice}
use Rattle.vcd_text.proofs.WindowLemmas.{cleared}

-- ---- one token more

-- after tokens that were passed, and white space
pub passed_on : (limit lines : ℕ) (bytes : List ℕ) (from at start : ℕ) (ts : List Token) (t : Token) → PassedFrom limit lines bytes from ts at
    → AreWhite bytes at start → StandsAt limit lines bytes start t → PassedFrom limit lines bytes from (ts ++ t ∷ []) (start + length t.bytes + 1)
passed_on limit lines bytes from at start [] t e w s = (start, subst (λ k. AreWhite bytes k start) e w, s, refl)
passed_on limit lines bytes from at start (x ∷ ts) t p w s = (p.0, p.1, p.2, passed_on limit lines bytes (p.0 + length x.bytes + 1) at start ts t p.3 w s)

length-run : (limit : ℕ) (bytes : List ℕ) (at n : ℕ) → IsRun limit bytes at n → length (slice_range bytes at (at + n)) ≡ n
length-run limit bytes at n r = length-slice_range bytes at (at + n) (omega (arith, r.within)) ∙ omega arith

run_stands : (limit lines : ℕ) (bytes : List ℕ) (at n : ℕ) → IsRun limit bytes at n
    → StandsAt limit lines bytes at (record { bytes = slice_range bytes at (at + n); line = line_ahead lines bytes at })
run_stands limit lines bytes at n r =
    let len = length-run limit bytes at n r in
    record {
      run = subst (IsRun limit bytes at) (sym len) r;
      bytes_are = ap (λ k. slice_range bytes at (at + k)) (sym len);
      line_is = refl;
    }

-- a token that ends at this offset
pub passed_to : (limit lines : ℕ) (bytes : List ℕ) (at start end : ℕ) (ts : List Token) → AreWhite bytes at start → start ≤ end
    → IsRun limit bytes start (end - start) → Passed limit lines bytes at ts
    → Passed limit lines bytes (end + 1) (ts ++ (record { bytes = slice_range bytes start end; line = line_ahead lines bytes start }) ∷ [])
passed_to limit lines bytes at start end ts w le r p =
    let d : ℕ = end - start in
    let e : start + d ≡ end = omega arith in
    let len = length-run limit bytes start d r in
    let on = passed_on limit lines bytes 0 at start ts (record { bytes = slice_range bytes start (start + d); line = line_ahead lines bytes start }) p w (run_stands limit lines bytes start d r) in
    let short : Passed limit lines bytes (start + d + 1) (ts ++ (record { bytes = slice_range bytes start (start + d); line = line_ahead lines bytes start }) ∷ []) =
    subst (λ n. Passed limit lines bytes (start + n + 1) (ts ++ (record { bytes = slice_range bytes start (start + d); line = line_ahead lines bytes start }) ∷ [])) len on in
    subst (λ k. Passed limit lines bytes (k + 1) (ts ++ (record { bytes = slice_range bytes start k; line = line_ahead lines bytes start }) ∷ [])) e short

-- a run ends at the first white byte
pub run_is : (limit : ℕ) (bytes : List ℕ) (at d n : ℕ) → ((k : ℕ) → k < d → is_white_space (slice_index bytes (at + k)) ≡ false)
    → is_white_space (slice_index bytes (at + d)) ≡ true → IsRun limit bytes at n → n ≡ d
run_is limit bytes at d n other white r = elim (cases_order n d) [
  | inl same ↦ same
  | inr (inl lt) ↦ true-false (is_white_space (slice_index bytes (at + n))) r.white (other n lt)
  | inr (inr gt) ↦ true-false (is_white_space (slice_index bytes (at + d))) white (r.other d gt)
]

-- ---- how far they reach

pub passed_within : (limit lines : ℕ) (bytes : List ℕ) (from n : ℕ) (ts : List Token) → from ≤ length bytes → PassedFrom limit lines bytes from ts n → n ≤ length bytes
passed_within limit lines bytes from n [] le e = omega arith
passed_within limit lines bytes from n (t ∷ ts) le p = passed_within limit lines bytes (p.0 + length t.bytes + 1) n ts (omega (arith, p.2.run.within)) p.3

-- of no bytes there are none
passed_none : (limit lines n : ℕ) (ts : List Token) → Passed limit lines [] n ts → (n ≡ 0) × (ts ≡ [])
passed_none limit lines n [] e = (e, refl)
passed_none limit lines n (t ∷ ts) p = absurd (omega (arith, p.2.run.within))

-- ---- the text after them

module _ (limit : ℕ) (text : List ℕ) (p q lines : ℕ) (order : p ≤ q) (fits : q ≤ length text) (small : q < 2 ^ 63) (feeds : lines ≡ line_feeds_in (take p text)) where
  byte : (k : ℕ) → k < q - p → slice_index text (p + k) ≡ slice_index (slice_range text p q) k
  byte k lt = sym (slice-index text p q k lt)

  line-of : (m : ℕ) → m ≤ q - p → line_ahead lines (slice_range text p q) m ≡ line_at text (p + m)
  line-of m le =
      let a : p + m - p ≡ m = omega arith in
      let cut : line_feeds_in (take m (slice_range text p q)) ≡ line_feeds_in (slice_range text p (p + m)) = rw a (ap line_feeds_in (take-take m (q - p) (drop p text) le)) in
      let more = line_feeds_in-more text p m in
      omega arith

  module _ (m : ℕ) (t : Token) (given : List Token) (s : StandsAt limit lines (slice_range text p q) m t) (l : HasLookedAt limit text (p + m) (p + m) given) where
    inside : m + length t.bytes < q - p
    inside = omega (arith, s.run.within, length-slice_range text p q fits)

    begun : HasLookedAt limit text (p + m + length t.bytes) (p + m) given
    begun = live-others limit text (p + m) (length t.bytes) (p + m) given
        (λ k h. let e : p + m + k ≡ p + (m + k) = omega arith in rw e (ap is_white_space (byte (m + k) (omega (arith, inside))) ∙ s.run.other k h))
        (omega (arith, inside)) (omega (arith, s.run.short)) l

    white : is_white_space (slice_index text (p + m + length t.bytes)) ≡ true
    white = let e : p + m + length t.bytes ≡ p + (m + length t.bytes) = omega arith in rw e (ap is_white_space (byte (m + length t.bytes) inside) ∙ s.run.white)

    token-is : token_to text (p + m) (p + m + length t.bytes) ≡ t
    token-is = ap (λ bs. record { bytes = bs; line = line_at text (p + m) }) (sym (slice-slice text p q m (length t.bytes) (omega (arith, inside))) ∙ sym s.bytes_are)
        ∙ ap (λ k. record { bytes = t.bytes; line = k }) (sym (line-of m (omega (arith, inside))) ∙ sym s.line_is)

    next-live : HasLookedAt limit text (p + (m + length t.bytes + 1)) (p + (m + length t.bytes + 1)) (given ++ t ∷ [])
    next-live =
        let e : p + m + length t.bytes + 1 ≡ p + (m + length t.bytes + 1) = omega arith in
        let on = live-end limit text (p + m + length t.bytes) (p + m) given white (omega (arith, s.run.some)) (omega (arith, inside)) (omega (arith, inside)) begun in
        subst (λ k. HasLookedAt limit text k k (given ++ t ∷ [])) e (subst (λ u. HasLookedAt limit text (p + m + length t.bytes + 1) (p + m + length t.bytes + 1) (given ++ u ∷ [])) token-is on)

    ends : end_of_tokens text (suc (length given)) ≡ p + m + length t.bytes
    ends = end-of-token limit text (p + m + length t.bytes) (p + m) given begun (omega (arith, inside)) (omega (arith, s.run.some)) (λ _. white)

  -- after white space
  behind-white : (m start : ℕ) (given : List Token) → AreWhite (slice_range text p q) m start → start ≤ q - p
      → HasLookedAt limit text (p + m) (p + m) given → HasLookedAt limit text (p + start) (p + start) given
  behind-white m start given w le l =
      let o = w.order in
      let e : p + m + (start - m) ≡ p + start = omega arith in
      subst (λ k. HasLookedAt limit text k k given) e (live-whites limit text (p + m) (start - m) given
      (λ k h. let f : p + m + k ≡ p + (m + k) = omega arith in rw f (ap is_white_space (byte (m + k) (omega arith)) ∙ w.white (m + k) (omega arith) (omega arith)))
      (omega arith) l)

  begins-in : (m : ℕ) (t : Token) → StandsAt limit lines (slice_range text p q) m t → m ≤ q - p
  begins-in m t s = omega (arith, s.run.within, length-slice_range text p q fits)

  passed-live : (m n : ℕ) (ts given : List Token) → PassedFrom limit lines (slice_range text p q) m ts n
      → HasLookedAt limit text (p + m) (p + m) given → HasLookedAt limit text (p + n) (p + n) (given ++ ts)
  passed-live m n [] given e l = rw (e, append-nil) l
  passed-live m n (t ∷ ts) given w l =
      let there = behind-white m w.0 given w.1 (begins-in w.0 t w.2) l in
      subst (λ xs. HasLookedAt limit text (p + n) (p + n) xs) (append_assoc given (t ∷ []) ts)
      (passed-live (w.0 + length t.bytes + 1) n ts (given ++ t ∷ []) w.3 (next-live w.0 t given w.2 there))

  -- the last of them ends after offset p
  passed-far : (m n : ℕ) (t : Token) (ts given : List Token) → PassedFrom limit lines (slice_range text p q) m (t ∷ ts) n
      → HasLookedAt limit text (p + m) (p + m) given → p ≤ end_of_tokens text (length (given ++ t ∷ ts))
  passed-far m n t [] given w l =
      let e : length (given ++ t ∷ []) ≡ suc (length given) = simp length-append (omega arith) in
      let there = behind-white m w.0 given w.1 (begins-in w.0 t w.2) l in
      rw (e, ends w.0 t given w.2 there) (omega arith)
  passed-far m n t (u ∷ ts) given w l =
      let there = behind-white m w.0 given w.1 (begins-in w.0 t w.2) l in
      subst (λ xs. p ≤ end_of_tokens text (length xs)) (append_assoc given (t ∷ []) (u ∷ ts))
      (passed-far (w.0 + length t.bytes + 1) n u ts (given ++ t ∷ []) w.3 (next-live w.0 t given w.2 there))

-- ---- the registers

pub line_feeds_in-few : (bytes : List ℕ) → line_feeds_in bytes ≤ length bytes
line_feeds_in-few bytes = count_by-le-length (λ b. b == 10) bytes

pub ahead_fits : (phase : Phase) (chunk : List ℕ) (p : Parked) (limit n : ℕ) → Fits p (length chunk) limit → n ≤ length (ahead_in phase chunk p) → p.at + n ≤ p.stop
ahead_fits Going chunk p limit n f le = omega (arith, length-slice_range chunk p.at p.stop (omega (arith, f.stop, f.end)), f.at)
ahead_fits Ended chunk p limit n f le = omega (arith, f.at)
ahead_fits (Halted h) chunk p limit n f le = omega (arith, f.at)

pub gone_fits : (chunk : List ℕ) (p : Parked) (limit n : ℕ) → Fits p (length chunk) limit → p.at + n ≤ p.stop → Fits (gone_on chunk p n) (length chunk) limit
gone_fits chunk p limit n f le = record {
  at = le;
  stop = f.stop;
  end = f.end;
  stops = f.stops;
  counted = f.counted;
  line_feeds = omega (arith, f.line_feeds, line_feeds_in-few (slice_range chunk p.at (p.at + n)), length-slice_range chunk p.at (p.at + n) (omega (arith, f.stop, f.end)));
  size = omega arith;
  kept = f.kept;
}

gone_nowhere : (chunk : List ℕ) (p : Parked) → gone_on chunk p 0 ≡ cleared p
gone_nowhere chunk p =
    let a : p.at + 0 ≡ p.at = omega arith in
    let b : p.at - p.at ≡ 0 = omega arith in
    rw (a, b, add-zero) refl

-- while a feed reads, its tokens ahead are in the text
going_ahead : (limit : ℕ) (rest : Option (List ℕ)) (chunk : List ℕ) (p : Parked) (text : List ℕ) (given : List Token) → Fits p (length chunk) limit → At limit rest chunk p text given 0
    → (slice_range text (looked p) (looked p + (p.stop - p.at)) ≡ slice_range chunk p.at p.stop) × (looked p + (p.stop - p.at) ≤ length text)
    × HasLookedAt limit text (looked p + 0) (looked p + 0) given × (p.line_feeds ≡ line_feeds_in (take (looked p) text))
going_ahead limit rest chunk p text given f a =
    let place = a.place in
    let d : ℕ = p.stop - p.at in
    let e : p.at + d ≡ p.stop = omega (arith, f.at) in
    let none : looked p - 0 ≡ looked p + 0 = omega arith in
    let here : looked p ≡ looked p + 0 = omega arith in (
      ahead-slice text chunk place.more (looked p) p.at p.end d place.ahead f.end (omega (arith, f.stop)) ∙ ap (slice_range chunk p.at) e,
      omega (arith, ahead-length text chunk place.more (looked p) p.at p.end place.ahead place.within f.end, f.stop),
      subst (λ k. HasLookedAt limit text k (looked p + 0) given) here (subst (λ r. HasLookedAt limit text (looked p) r given) none place.live),
      place.line_feeds_are,
    )

pass_nothing : (phase : Phase) (limit : ℕ) (rest : Option (List ℕ)) (chunk : List ℕ) (p : Parked) (i : Input) (given ts : List Token) (n : ℕ)
    → (n ≡ 0) × (ts ≡ []) → InPhase phase limit rest chunk (cleared p) i given
    → InPhase phase limit rest chunk (gone_on chunk p n) i (given ++ ts)
pass_nothing phase limit rest chunk p i given ts n none st =
    let same : given ≡ given ++ ts = sym (ap (λ xs. given ++ xs) none.1 ∙ append-nil given) in
    let there : cleared p ≡ gone_on chunk p n = sym (ap (gone_on chunk p) none.0 ∙ gone_nowhere chunk p) in
    subst (λ xs. InPhase phase limit rest chunk (gone_on chunk p n) i xs) same (subst (λ r. InPhase phase limit rest chunk r i given) there st)

pub pass_stands : (phase : Phase) (limit : ℕ) (rest : Option (List ℕ)) (chunk : List ℕ) (p : Parked) (i : Input) (given ts : List Token) (n : ℕ)
    → Fits p (length chunk) limit → Passed limit p.line_feeds (ahead_in phase chunk p) n ts → InPhase phase limit rest chunk p i given
    → InPhase phase limit rest chunk (gone_on chunk p n) i (given ++ ts)
pass_stands Going limit rest chunk p i given ts n f w st =
    let place = st.1.place in
    let g = going_ahead limit rest chunk p i.bytes given f st.1 in
    let q : ℕ = looked p + (p.stop - p.at) in
    let small : q < 2 ^ 63 = omega (arith, f.counted, f.at) in
    let there = subst (λ bs. Passed limit p.line_feeds bs n ts) (sym g.0) w in
    let few : n ≤ p.stop - p.at = omega (
      arith,
      passed_within limit p.line_feeds (slice_range chunk p.at p.stop) 0 n ts (omega arith) w,
      length-slice_range chunk p.at p.stop (omega (arith, f.stop, f.end)),
    ) in
    let live = passed-live limit i.bytes (looked p) q p.line_feeds (omega arith) g.1 small g.3 0 n ts given there g.2 in
    let far : n ≤ p.end - p.at = omega (arith, f.stop) in
    let at : p.base + (p.at + n) ≡ looked p + n = omega arith in
    let less : p.base + (p.at + n) - 0 ≡ looked p + n = omega arith in (
      st.0,
      record {
        place = rw (less, at) (record {
          more = place.more;
          known = place.known;
          ahead = ahead-drop i.bytes chunk place.more (looked p) p.at p.end n place.ahead f.end far;
          within = omega (arith, g.1);
          live = live;
          line_feeds_are = rw (line_feeds_in-more, ahead-slice i.bytes chunk place.more (looked p) p.at p.end n place.ahead f.end far, ← place.line_feeds_are) refl;
        });
        begun = omega arith;
      },
    )
pass_stands Ended limit rest chunk p i given ts n f w st = pass_nothing Ended limit rest chunk p i given ts n (passed_none limit p.line_feeds n ts w) st
pass_stands (Halted h) limit rest chunk p i given ts n f w st = pass_nothing (Halted h) limit rest chunk p i given ts n (passed_none limit p.line_feeds n ts w) st

-- what was looked at before ends before the last of them
pub pass_far : (phase : Phase) (limit : ℕ) (rest : Option (List ℕ)) (chunk : List ℕ) (p : Parked) (i : Input) (given ts : List Token) (n : ℕ)
    → Fits p (length chunk) limit → ts ≢ [] → Passed limit p.line_feeds (ahead_in phase chunk p) n ts → InPhase phase limit rest chunk p i given
    → looked p ≤ end_of_tokens i.bytes (length (given ++ ts))
pass_far phase limit rest chunk p i given [] n f some w st = absurd (some refl)
pass_far Going limit rest chunk p i given (t ∷ ts) n f some w st =
    let g = going_ahead limit rest chunk p i.bytes given f st.1 in
    let q : ℕ = looked p + (p.stop - p.at) in
    let small : q < 2 ^ 63 = omega (arith, f.counted, f.at) in
    let there = subst (λ bs. Passed limit p.line_feeds bs n (t ∷ ts)) (sym g.0) w in
    passed-far limit i.bytes (looked p) q p.line_feeds (omega arith) g.1 small g.3 0 n t ts given there g.2
pass_far Ended limit rest chunk p i given (t ∷ ts) n f some w st = absurd (omega (arith, w.2.run.within))
pass_far (Halted h) limit rest chunk p i given (t ∷ ts) n f some w st = absurd (omega (arith, w.2.run.within))

-- ---- the token that the first set bit ends

module _ (bytes : List ℕ) (at : ℕ) (w : White) (bit : ℕ) (m : BitsAreWhite bytes at (length bytes) w) (set : bit_at w.bits bit ≡ 1) (below : (k : ℕ)
    → k < bit → bit_at w.bits k ≡ 0) where
  pub marked_run : (limit : ℕ) → w.next + bit - 64 - at ≢ 0 → w.next + bit - 64 - at ≤ limit → IsRun limit bytes at (w.next + bit - 64 - at)
  marked_run limit some short =
      let a = m.ahead bit set in
      let i = m.inside bit set in
      record {
        some = omega arith;
        short = short;
        within = omega (arith, m.within);
        other = bits-before bytes at (length bytes) w bit _ m set below refl;
        white = bits-at bytes at (length bytes) w bit _ m set refl;
      }

  -- another is not there
  pub marked_only : (limit n : ℕ) → IsRun limit bytes at n → n ≡ w.next + bit - 64 - at
  marked_only limit n r = run_is limit bytes at (w.next + bit - 64 - at) n (bits-before bytes at (length bytes) w bit _ m set below refl) (bits-at bytes at (length bytes) w bit _ m set refl) r

  -- the next token begins here, if this byte is another
  pub marked_first : (limit start n : ℕ) → w.next + bit - 64 - at ≢ 0 → AreWhite bytes at start → IsRun limit bytes start n → n ≡ w.next + bit - 64 - at
  marked_first limit start n some front r = elim (cases_lt at start) [
    | inl lt ↦ (let e : at + 0 ≡ at = omega arith in
        true-false (is_white_space (slice_index bytes at)) (front.white at (omega arith) lt)
        (subst (λ k. is_white_space (slice_index bytes k) ≡ false) e
        (bits-before bytes at (length bytes) w bit _ m set below refl 0 (omega arith))))
    | inr le ↦ (let o = front.order in
        let e : start ≡ at = omega arith in
        marked_only limit n (subst (λ k. IsRun limit bytes k n) e r))
  ]

-- the token after white space begins no earlier than that ends
pub run_behind : (limit : ℕ) (bytes : List ℕ) (from at start n : ℕ) → AreWhite bytes from at → AreWhite bytes from start → IsRun limit bytes start n → at ≤ start
run_behind limit bytes from at start n w front r = elim (cases_lt start at) [
  | inl lt ↦ (let e : start + 0 ≡ start = omega arith in
      true-false (is_white_space (slice_index bytes start)) (w.white start front.order lt) (subst (λ k. is_white_space (slice_index bytes k) ≡ false) e (r.other 0 r.some)))
  | inr le ↦ le
]

-- and ends no earlier than the first white byte after it
pub run_past : (limit : ℕ) (bytes : List ℕ) (at next start n : ℕ) → at ≤ start
    → ((j : ℕ) → at ≤ j → j < next → is_white_space (slice_index bytes j) ≡ false) → IsRun limit bytes start n → next ≤ start + n
run_past limit bytes at next start n le other r = elim (cases_lt (start + n) next) [
  | inl lt ↦ true-false (is_white_space (slice_index bytes (start + n))) r.white (other (start + n) (omega arith) lt)
  | inr far ↦ far
]

-- a byte that is not white is before the set bits that come next
pub before_bits : (bytes : List ℕ) (start : ℕ) (w : White) → BitsAreWhite bytes start (length bytes) w
    → (start < length bytes → is_white_space (slice_index bytes start) ≡ false) → (k : ℕ) → bit_at w.bits k ≡ 1 → start + 64 < w.next + k
before_bits bytes start w m stops k set = elim (cases_lt (start + 64) (w.next + k)) [
  | inl lt ↦ lt
  | inr le ↦ (let here : w.next + k - 64 ≡ start = omega (arith, m.ahead k set) in
      let within : start < length bytes = omega (arith, m.ahead k set, m.inside k set, m.within) in
      true-false (is_white_space (slice_index bytes start)) (subst (λ i. is_white_space (slice_index bytes i) ≡ true) here (m.white k set)) (stops within))
]

-- the white space that is left from a later offset on
pub white_rest : (bytes : List ℕ) (from at start : ℕ) → from ≤ at → at ≤ start → AreWhite bytes from start → AreWhite bytes at start
white_rest bytes from at start le far w = record { order = far; white = λ k h lt. w.white k (omega arith) lt }

pub white_one : (bytes : List ℕ) (at : ℕ) → is_white_space (slice_index bytes at) ≡ true → AreWhite bytes at (at + 1)
white_one bytes at e = record {
  order = omega arith;
  white = λ k from below. let here : at ≡ k = omega arith in subst (λ j. is_white_space (slice_index bytes j) ≡ true) here e;
}

pub white_on : (bytes : List ℕ) (from at to : ℕ) → AreWhite bytes from at → AreWhite bytes at to → AreWhite bytes from to
white_on bytes from at to w more = record {
  order = omega (arith, w.order, more.order);
  white = λ k h lt. elim (cases_lt k at) [
    | inl early ↦ w.white k h early
    | inr late ↦ more.white k late lt
  ];
}

-- of the bytes up to the white one after a run, only that one is white
pub run_bits : (limit : ℕ) (bytes : List ℕ) (start n : ℕ) (w : White) → IsRun limit bytes start n → w.next ≡ start + n + 1
    → ((k : ℕ) → bit_at w.bits k ≡ 1 → k ≡ 63) → bit_at w.bits 63 ≡ 1 → BitsAreWhite bytes start (length bytes) w
run_bits limit bytes start n w run next bit set = record {
  within = let within = run.within in omega (arith, next, within);
  ahead = λ k one. omega (arith, bit k one, next);
  inside = λ k one. omega (arith, bit k one);
  white = λ k one. let here : start + n ≡ w.next + k - 64 = omega (arith, bit k one, next) in subst (λ j. is_white_space (slice_index bytes j) ≡ true) here run.white;
  other = λ j from below none. elim (cases_lt j (start + n)) [
    | inl lt ↦ (let here : start + (j - start) ≡ j = omega arith in
        subst (λ i. is_white_space (slice_index bytes i) ≡ false) here (run.other (j - start) (omega (arith, lt))))
    | inr le ↦ (let last : j + 64 - w.next ≡ 63 = omega (arith, next) in
        let clear = none (omega (arith, next)) in
        absurd (omega (arith, sym (ap (λ i. bit_at w.bits i) last) ∙ clear, set)))
  ];
}
