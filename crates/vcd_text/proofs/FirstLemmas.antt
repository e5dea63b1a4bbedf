-- A step of a feed if whole tokens come first in the chunk.
use Rattle.vcd_text.proofs.Cited.{◌≡◌, ℕ, ◌+◌, ◌-◌, ◌≤◌, ◌<◌, true, false, List, [], ◌∷◌, ◌++◌, length, take, drop, ap, sym, subst, ◌∙◌, arith, inl, inr, length-drop, slice_index, slice_range, drop-drop, get_or-drop, cases_order, is_white_space, Token, AreFirst, AreWhite, IsRun, StandsAt, PassedFrom, Passed, Fits, ahead_in, Collects, Skips, is_white_at, line_feeds_in, Parked, Going, Whole, Part, TooLong}
use Rattle.vcd_text.proofs.Places.{length-slice_range}
use Rattle.vcd_text.proofs.Steps.{true-false}
use Rattle.vcd_text.proofs.AheadLemmas.{line_feeds_in-more, slice-drop, slice-index, slice-slice}
use Rattle.vcd_text.proofs.PassedLemmas.{run_is}

-- ---- the tokens after the first d bytes

module _ (limit lines d : ℕ) (bytes : List ℕ) where
  byte_after : (at : ℕ) → slice_index (drop d bytes) at ≡ slice_index bytes (d + at)
  byte_after at = get_or-drop d bytes at 0

  white_after : (at start : ℕ) → AreWhite bytes (d + at) (d + start) → AreWhite (drop d bytes) at start
  white_after at start w = record {
    order = omega (arith, w.order);
    white = λ k le lt. ap is_white_space (byte_after k) ∙ w.white (d + k) (omega arith) (omega arith);
  }

  stands_after : (at : ℕ) (t : Token) → StandsAt limit lines bytes (d + at) t → StandsAt limit (lines + line_feeds_in (take d bytes)) (drop d bytes) at t
  stands_after at t s =
      let n : ℕ = length t.bytes in
      let e : at + n - at ≡ n = omega arith in
      let f : d + at + n - (d + at) ≡ n = omega arith in
      record {
        run = record {
          some = s.run.some;
          short = s.run.short;
          within = omega (arith, s.run.within, length-drop d bytes);
          other = λ k lt. let g : d + (at + k) ≡ d + at + k = omega arith in ap is_white_space (byte_after (at + k)) ∙ rw g (s.run.other k lt);
          white = let g : d + (at + n) ≡ d + at + n = omega arith in ap is_white_space (byte_after (at + n)) ∙ rw g s.run.white;
        };
        bytes_are = rw (e, drop-drop) (rw f at s.bytes_are);
        line_is = let g : d + at - d ≡ at = omega arith in let more = rw g at (line_feeds_in-more bytes d at) in s.line_is ∙ omega (arith, more);
      }

  passed_after : (at n : ℕ) (ts : List Token) → PassedFrom limit lines bytes (d + at) ts n → PassedFrom limit (lines + line_feeds_in (take d bytes)) (drop d bytes) at ts (n - d)
  passed_after at n [] e = omega arith
  passed_after at n (t ∷ ts) p =
      let start : ℕ = p.0 - d in
      let e : p.0 ≡ d + start = omega (arith, p.1.order) in
      let next : p.0 + length t.bytes + 1 ≡ d + (start + length t.bytes + 1) = omega arith in (
        start,
        white_after at start (subst (AreWhite bytes (d + at)) e p.1),
        stands_after start t (subst (λ k. StandsAt limit lines bytes k t) e p.2),
        passed_after (start + length t.bytes + 1) n ts (subst (λ k. PassedFrom limit lines bytes k ts n) next p.3),
      )

-- ---- a turn

-- white space is passed over up to the first token, which is whole in the chunk
module _ (limit lines start : ℕ) (chunk token token' : List ℕ) (p mid new : Parked) (t : Token) (order : p.at ≤ p.stop)
    (fits : p.stop ≤ length chunk) (white : AreWhite (slice_range chunk p.at p.stop) 0 start)
    (here : StandsAt limit lines (slice_range chunk p.at p.stop) start t) (none : p.size ≡ 0) (skips : Skips chunk p mid) where
  inside : p.at + (start + length t.bytes) < p.stop
  inside = omega (arith, here.run.within, length-slice_range chunk p.at p.stop fits)

  byte : (k : ℕ) → p.at + k < p.stop → is_white_at (slice_range chunk p.at p.stop) k ≡ is_white_at chunk (p.at + k)
  byte k lt = ap is_white_space (slice-index chunk p.at p.stop k (omega arith))

  skipped_to : mid.at ≡ p.at + start
  skipped_to = to (mid.at - p.at) (ap (λ (q : Parked). q.at) skips.1) skips.0.white skips.0.after
    where
      to : (d : ℕ) → mid.at ≡ p.at + d → ((k : ℕ) → k < d → is_white_at chunk (p.at + k) ≡ true)
          → (p.at + d < p.stop → is_white_at chunk (p.at + d) ≡ false) → mid.at ≡ p.at + start
      to d at passed after = elim (cases_order d start) [
        | inl same ↦ omega arith
        | inr (inl lt) ↦ true-false (is_white_at chunk (p.at + d)) (sym (byte d (omega (arith, inside))) ∙ white.white d (omega arith) lt) (after (omega (arith, inside)))
        | inr (inr gt) ↦ (let e : start + 0 ≡ start = omega arith in
            true-false (is_white_at chunk (p.at + start)) (passed start gt) (sym (byte start (omega (arith, inside))) ∙ rw e at (here.run.other 0 here.run.some)))
      ]

  run : IsRun limit chunk mid.at (length t.bytes)
  run = record {
    some = here.run.some;
    short = here.run.short;
    within = omega (arith, inside, skipped_to);
    other = λ k lt. let e : mid.at + k ≡ p.at + (start + k) = omega (arith, skipped_to) in ap (is_white_at chunk) e ∙ sym (byte (start + k) (omega (arith, inside))) ∙ here.run.other k lt;
    white = let e : mid.at + length t.bytes ≡ p.at + (start + length t.bytes) = omega (arith, skipped_to) in
        ap (is_white_at chunk) e ∙ sym (byte (start + length t.bytes) inside) ∙ here.run.white;
  }

  same_stop : (mid.stop ≡ p.stop) × (mid.size ≡ 0)
  same_stop = (ap (λ (q : Parked). q.stop) skips.1, ap (λ (q : Parked). q.size) skips.1 ∙ none)

  never_part : Collects chunk token token' mid new Part → ⊥
  never_part cs = true-false (is_white_at chunk (mid.at + length t.bytes)) run.white (cs.0.other (length t.bytes) (omega (arith, inside, skipped_to, same_stop)))

  never_long : length token ≡ limit → Collects chunk token token' mid new TooLong → ⊥
  never_long full cs = true-false (is_white_at chunk (mid.at + length t.bytes)) run.white (cs.2 (length t.bytes) (omega (arith, here.run.short, same_stop)))

  takes_whole : Collects chunk token token' mid new Whole → (new.at ≡ p.at + (start + length t.bytes + 1)) × (new.stop ≡ p.stop) × (take new.size token' ≡ t.bytes)
  takes_whole cs =
      let n : length t.bytes ≡ cs.0 = run_is limit chunk mid.at cs.0 (length t.bytes) cs.1.other cs.3 run in
      let at : new.at ≡ mid.at + cs.0 + 1 = ap (λ (q : Parked). q.at) cs.4 in
      let size : new.size ≡ mid.size + cs.0 = ap (λ (q : Parked). q.size) cs.4 in
      let gathered = ap (λ k. take k token') size ∙ cs.1.bytes ∙ ap (λ k. take k token ++ slice_range chunk mid.at (mid.at + cs.0)) same_stop.1 in
      let part = ap (λ k. slice_range chunk k (k + cs.0)) skipped_to ∙ ap (λ k. slice_range chunk (p.at + start) (p.at + start + k)) (sym n) in (
        omega (arith, skipped_to),
        ap (λ (q : Parked). q.stop) cs.4 ∙ same_stop.0,
        gathered ∙ part ∙ sym (slice-slice chunk p.at p.stop start (length t.bytes) (omega (arith, inside))) ∙ sym here.bytes_are,
      )

-- and the others come first in what is left
rest_first : (limit lines n d : ℕ) (chunk : List ℕ) (p new : Parked) (ts : List Token)
    → PassedFrom limit lines (slice_range chunk p.at p.stop) d ts n → d ≤ p.stop - p.at → new.at ≡ p.at + d → new.stop ≡ p.stop
    → AreFirst limit (slice_range chunk new.at new.stop) ts
rest_first limit lines n d chunk p new ts w le at stop =
    let e : d ≡ d + 0 = omega arith in
    let rest = passed_after limit lines d (slice_range chunk p.at p.stop) 0 n ts (subst (λ k. PassedFrom limit lines (slice_range chunk p.at p.stop) k ts n) e w) in
    rw (at, stop) (
      lines + line_feeds_in (take d (slice_range chunk p.at p.stop)),
      n - d,
      subst (λ bs. Passed limit (lines + line_feeds_in (take d (slice_range chunk p.at p.stop))) bs (n - d) ts)
          (slice-drop chunk p.at p.stop d le) rest,
    )

-- what lasts over the steps of one answer, if whole tokens lie ahead: nothing was read, and no
-- token has begun
pub record Stays {X : Type 0} (source source' : X) (limit : ℕ) (chunk : List ℕ) (p : Parked) (t : Token) (ts : List Token) : Type 0 where
  pub source_is : source' ≡ source
  pub none : p.size ≡ 0
  pub first : AreFirst limit (slice_range chunk p.at p.stop) (t ∷ ts)

-- so the turn is the last
module _ {X : Type 0} (source source' : X) (limit : ℕ) (chunk token token' : List ℕ) (size : ℕ) (p mid new : Parked) (t : Token) (ts : List Token)
    (range : Fits p size limit) (same : length chunk ≡ size) (skips : p.size ≡ 0 → Skips chunk p mid)
    (s : Stays source source' limit chunk p t ts) where
  fits : p.stop ≤ length chunk
  fits = omega (arith, range.stop, range.end)

  pub stays_part : Collects chunk token token' mid new Part → ⊥
  stays_part = never_part limit s.first.0 s.first.2.0 chunk token token' p mid new t range.at fits s.first.2.1 s.first.2.2 s.none (skips s.none)

  pub stays_long : length token ≡ limit → Collects chunk token token' mid new TooLong → ⊥
  stays_long = never_long limit s.first.0 s.first.2.0 chunk token token' p mid new t range.at fits s.first.2.1 s.first.2.2 s.none (skips s.none)

  pub stays_whole : new.phase ≡ Going → Collects chunk token token' mid new Whole → (take new.size token' ≡ t.bytes) × (source' ≡ source) × AreFirst limit (ahead_in new.phase chunk new) ts
  stays_whole going cs =
      let w = takes_whole limit s.first.0 s.first.2.0 chunk token token' p mid new t range.at fits s.first.2.1 s.first.2.2 s.none (skips s.none) cs in
      let len = length-slice_range chunk p.at p.stop fits in
      let rest = rest_first limit s.first.0 s.first.1 (s.first.2.0 + length t.bytes + 1) chunk p new ts s.first.2.3 (omega (arith, len, s.first.2.2.run.within)) w.0 w.1 in
      (w.2, s.source_is, subst (λ q. AreFirst limit (ahead_in q chunk new) ts) (sym going) rest)
