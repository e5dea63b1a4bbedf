use Rattle.vcd_text.proofs.Cited.{Err, IfSome, Ok, Result, Some, ◌≡◌, ◌≢◌, ℕ, zero, suc, ◌+◌, ◌-◌, ◌≤◌, ◌<◌, List, length, Bool, true, false, arith, refl, ap, sym, subst, ◌∙◌, add-one, HasRest, Fits, looked, settled, Collects, Finishes, Skips, is_white_at, Whole, Parked, Finish, Next, Halt, InputTooLong, ReadFailed, TokenTooLong, Ended, Going, Halted}
use Rattle.vcd_text.proofs.Facts.{after-skip, whole-stands, part-within, more-within, again-gives, long-gives, input-gives, fail-gives, finish-stands, whole-near, finish-near, fail-rest, failed-marked, stays_long, stays_part, stays_whole}
use Rattle.vcd_text.specs.Turn.{Turns}
use Rattle.vcd_text.specs.declared.answer.Next.TheVariants.{Token as token}
use Rattle.vcd_text.proofs.feed.gather.Goals as goal

err-is : (h : Halt) → ◌≡◌ {A = Result Next Halt} (Err h) (Err ReadFailed) → h ≡ ReadFailed
err-is h e = cc

-- a whole token has bytes
some-token : (chunk tok tok' : List ℕ) (old mid new : Parked) → (0 < old.size → mid ≡ old) → (old.size ≡ 0 → Skips chunk old mid)
    → Collects chunk tok tok' mid new Whole → 0 < new.size
some-token chunk tok tok' old mid new begun skips h = by_sizes old.size refl h.0 refl
  where
    size : new.size ≡ mid.size + h.0
    size = ap (λ (p : Parked). p.size) h.4

    by_sizes : (n : ℕ) → old.size ≡ n → (d : ℕ) → h.0 ≡ d → 0 < new.size
    by_sizes (suc n) e d f = let same = ap (λ (p : Parked). p.size) (begun (omega (arith, e))) in omega (arith, size, same, e)
    by_sizes zero e (suc d) f = omega (arith, size, f)
    by_sizes zero e zero f =
        let s = skips e in
        let at : mid.at ≡ old.at + (mid.at - old.at) = ap (λ (p : Parked). p.at) s.1 in
        let stop : mid.stop ≡ old.stop = ap (λ (p : Parked). p.stop) s.1 in
        let same : old.at + (mid.at - old.at) ≡ mid.at + h.0 = omega (arith, at, f) in
        let white : is_white_at chunk (old.at + (mid.at - old.at)) ≡ true = ap (is_white_at chunk) same ∙ h.3 in
        let other : is_white_at chunk (old.at + (mid.at - old.at)) ≡ false = s.0.after (omega (arith, h.2, at, stop, f)) in
        absurd (cc)

-- ---- what a turn leaves

-- how far the registers have come
far-enough : (first old mid new : Parked) → first.base + first.at + old.size ≤ old.base + old.at
    → old.base + old.at + mid.size ≤ mid.base + mid.at + old.size → mid.base + mid.at + new.size ≤ new.base + new.at + mid.size
    → first.base + first.at + new.size ≤ new.base + new.at
far-enough first old mid new a b d = omega (arith, a, b, d)

module _ {X : Type 0} (failures : X → ℕ) (last_failed : X → Bool) (source source' : X) (chunk limit : ℕ) (old new : Parked) (fits : Fits new chunk limit) (kept : new.kept ≡ old.kept) where
  -- one that is settled already
  again-turns : (answer : Result Next Halt) → settled old.phase ≡ Some answer → answer ≢ Ok token → new.phase ≡ old.phase → looked new ≡ looked old
      → new.size ≡ 0 → source' ≡ source → Turns failures last_failed source source' chunk limit old new answer
  again-turns answer is other phase same empty source_is = record {
    fits = fits;
    kept = kept;
    further = omega (arith, same);
    progress = λ e. absurd (other e);
    settles = λ _. ap settled phase ∙ is;
    again = subst (λ o. IfSome o (λ (r : Result Next Halt). (answer ≡ r) × (source' ≡ source))) (sym is) (refl, source_is);
    going = λ e. absurd (other e);
    failed = λ not_failed e. absurd (not_failed (is ∙ ap Some e));
    last = λ not_failed e. absurd (not_failed (is ∙ ap Some e));
    same = λ _. ap failures source_is;
    shows = λ e. absurd (other e);
    empty = λ _. empty;
  }

  module _ (going : old.phase ≡ Going) where
    settled-not : (answer : Result Next Halt → Type 0) → IfSome (settled old.phase) answer
    settled-not answer = subst (λ p. IfSome (settled p) answer) (sym going) tt

    -- one that halts
    halts-turns : (h : Halt) (size : ℕ) → looked old + size ≤ looked new → new.phase ≡ Halted h → new.size ≡ 0
        → (h ≡ ReadFailed → failures source' ≡ failures source + 1) → (h ≡ ReadFailed → last_failed source' ≡ true)
        → (h ≢ ReadFailed → failures source' ≡ failures source) → Turns failures last_failed source source' chunk limit old new (Err h)
    halts-turns h size far phase empty failed last same = record {
      fits = fits;
      kept = kept;
      further = omega (arith, far);
      progress = λ e. absurd (cc);
      settles = λ _. ap settled phase;
      again = settled-not _;
      going = λ e. absurd (cc);
      failed = λ _ e. failed (err-is h e);
      last = λ _ e. last (err-is h e);
      same = λ n. same (λ e. n (ap Err e));
      shows = λ e. absurd (cc);
      empty = λ _. empty;
    }

    -- one that gives a token, and does not halt
    token-turns : looked old < looked new → 0 < new.size → ((h : Halt) → settled new.phase ≢ Some (Err h)) → failures source' ≡ failures source
        → Turns failures last_failed source source' chunk limit old new (Ok token)
    token-turns further some no_halt same = record {
      fits = fits;
      kept = kept;
      further = omega (arith, further);
      progress = λ _. further;
      settles = λ n. absurd (n refl);
      again = settled-not _;
      going = λ _. no_halt;
      failed = λ _ e. absurd (cc);
      last = λ _ e. absurd (cc);
      same = λ _. same;
      shows = λ _. some;
      empty = λ n. absurd (n refl);
    }

    -- one that comes to the end
    finish-turns : (size : ℕ) → looked old + size ≤ looked new → new.phase ≡ Ended → new.size ≡ 0 → failures source' ≡ failures source
        → Turns failures last_failed source source' chunk limit old new (Ok Finish)
    finish-turns size far phase empty same = record {
      fits = fits;
      kept = kept;
      further = omega (arith, far);
      progress = λ e. absurd (cc);
      settles = λ _. ap settled phase;
      again = settled-not _;
      going = λ e. absurd (cc);
      failed = λ _ e. absurd (cc);
      last = λ _ e. absurd (cc);
      same = λ _. same;
      shows = λ e. absurd (cc);
      empty = λ _. empty;
    }

    -- one that ends
    ends-turns : (mid : Parked) (result : Next) → looked old + mid.size ≤ looked mid → Finishes mid new result → failures source' ≡ failures source
        → Turns failures last_failed source source' chunk limit old new (Ok result)
    ends-turns mid token far ends same =
        let at = ap looked ends.1 in
        let size = ap (λ (p : Parked). p.size) ends.1 in
        let phase = ap (λ (p : Parked). settled p.phase) ends.1 in
        token-turns (omega (arith, far, at, ends.0)) (omega (arith, size, ends.0)) (λ h e. cc) same
    ends-turns mid Finish far ends same =
        let at = ap looked ends.1 in
        let size = ap (λ (p : Parked). p.size) ends.1 in
        finish-turns mid.size (omega (arith, far, at)) (ap (λ (p : Parked). p.phase) ends.1) (omega (arith, size, ends.0)) same

pub returns-in-Ended-clause-turns : goal.returns-in-Ended-clause-turns
returns-in-Ended-clause-turns g c = again-turns g.S.Source.failures g.S.Source.last_failed _ _ _ _ _ _ (record {
  at = c.requires.fits.at;
  stop = c.requires.fits.stop;
  end = c.requires.fits.end;
  stops = c.requires.fits.stops;
  counted = c.requires.fits.counted;
  line_feeds = c.requires.fits.line_feeds;
  size = omega arith;
  kept = c.requires.fits.kept;
}) refl (Ok Finish) (ap settled c.in-Ended.is) (λ e. cc) refl refl refl refl

pub returns-in-Halted-clause-turns : goal.returns-in-Halted-clause-turns
returns-in-Halted-clause-turns g c = again-turns g.S.Source.failures g.S.Source.last_failed _ _ _ _ _ _ (record {
  at = c.requires.fits.at;
  stop = c.requires.fits.stop;
  end = c.requires.fits.end;
  stops = c.requires.fits.stops;
  counted = c.requires.fits.counted;
  line_feeds = c.requires.fits.line_feeds;
  size = omega arith;
  kept = c.requires.fits.kept;
}) refl (Err c.in-Halted.halt) (ap settled c.in-Halted.is) (λ e. cc) refl refl refl refl

pub returns-in-Whole-clause-turns : goal.returns-in-Whole-clause-turns
returns-in-Whole-clause-turns g c =
    let t = c.loop-parked.invariant.1 in
    let fits = c.loop-parked.auto.chunk in
    let full = c.loop-parked.auto.token in
    let range = c.in-Whole.ensures.fits (rw (fits, full) (rw fits at (c.skip.ensures.fits (length c.args.token.now) (rw fits t.fits)))) in
    let phase = c.in-Whole.ensures.on.phase ∙ (c.skip.ensures.on.phase ∙ t.going) in
    let further : looked c.args.parked.now + c.collect_token.new.parked.size < looked c.collect_token.new.parked = omega
    (arith, c.in-Whole.ensures.whole, c.skip.ensures.on.looked, c.loop-parked.invariant.3) in
    token-turns g.S.Source.failures g.S.Source.last_failed _ _ _ _ _ _ (rw (fits, full) at range) (c.in-Whole.ensures.on.kept ∙ (c.skip.ensures.on.kept ∙ c.loop-parked.invariant.2)) c.in-Going.is
    (omega (arith, further)) (some-token _ _ _ _ _ _ c.skip.ensures.begun c.skip.ensures.skips c.in-Whole.ensures.collects) (λ h e. let none = ap settled phase in cc) c.loop-parked.invariant.0

pub returns-in-Halted-clause-says : goal.returns-in-Halted-clause-says
returns-in-Halted-clause-says g c = record {
  gives = λ i given st. again-gives _ _ _ c.args.token.now _ i given _ c.in-Halted.is st;
  near = λ e. absurd (cc);
  left = λ e i given st clean. absurd (failed-marked _ _ _ _ i given st (c.in-Halted.is ∙ ap Halted (err-is _ e)) clean);
}

pub returns-in-Whole-clause-says : goal.returns-in-Whole-clause-says
returns-in-Whole-clause-says g c =
    let t = c.loop-parked.invariant.1 in
    let fits : length c.loop-parked.chunk ≡ length c.args.chunk.now = c.loop-parked.auto.chunk in
    let full : length c.loop-parked.token ≡ length c.args.token.now = c.loop-parked.auto.token in
    let range = c.skip.ensures.fits (length c.args.token.now) (rw fits t.fits) in
    let phase = c.in-Whole.ensures.on.phase ∙ (c.skip.ensures.on.phase ∙ t.going) in
    record {
      gives = λ i given st. whole-stands _ _ _ _ _ _ _ i given (t.clean i given st) range full phase c.in-Whole.ensures.collects
          (after-skip _ _ _ _ _ _ _ _ t fits c.skip.ensures.begun c.skip.ensures.skips i given st);
      near = λ _ i given st. rw add-one (whole-near _ _ _ _ _ _ _ i given range full c.in-Whole.ensures.collects
          (after-skip _ _ _ _ _ _ _ _ t fits c.skip.ensures.begun c.skip.ensures.skips i given st));
      left = λ e. absurd (cc);
    }

pub returns-in-TooLong-clause-says : goal.returns-in-TooLong-clause-says
returns-in-TooLong-clause-says g c =
    let t = c.loop-parked.invariant.1 in
    let fits : length c.loop-parked.chunk ≡ length c.args.chunk.now = c.loop-parked.auto.chunk in
    let full : length c.loop-parked.token ≡ length c.args.token.now = c.loop-parked.auto.token in
    let range = c.skip.ensures.fits (length c.args.token.now) (rw fits t.fits) in
    record {
      gives = λ i given st. long-gives _ _ _ _ _ _ _ _ i given _ (t.clean i given st) range full c.in-TooLong.ensures.collects
          (after-skip _ _ _ _ _ _ _ _ t fits c.skip.ensures.begun c.skip.ensures.skips i given st) c.halted.ensures.result c.halted.ensures.halts;
      near = λ e. absurd (cc);
      left = λ e. absurd (cc);
    }

pub returns-then-parked-clause-says : goal.returns-then-parked-clause-says
returns-then-parked-clause-says g c =
    let t = c.loop-parked.invariant.1 in
    let fits : length c.loop-parked.chunk ≡ length c.args.chunk.now = c.loop-parked.auto.chunk in
    let full : length c.loop-parked.token ≡ length c.args.token.now = c.loop-parked.auto.token in
    let range = c.skip.ensures.fits (length c.args.token.now) (rw fits t.fits) in
    let full' : length c.collect_token.new.token ≡ length c.args.token.now = omega arith in
    let range' = rw full at (c.in-Part.ensures.fits (rw full range)) in
    record {
      gives = λ i given st.
          let w = part-within _ _ _ _ _ _ _ i.bytes given range full c.in-Part.ensures.collects
          (after-skip _ _ _ _ _ _ _ _ t fits c.skip.ensures.begun c.skip.ensures.skips i given st) in
          input-gives _ _ _ _ _ _ i given _ (t.clean i given st) range' (c.in-Part.ensures.part refl) c.if-parked.true w c.halted-then-parked.ensures.result c.halted-then-parked.ensures.halts;
      near = λ e. absurd (cc);
      left = λ e. absurd (cc);
    }

pub loop-parked-preserved : goal.loop-parked-preserved
loop-parked-preserved g c =
    let t = c.loop-parked.invariant.1 in
    let fits : length c.loop-parked.chunk ≡ length c.args.chunk.now = c.loop-parked.auto.chunk in
    let full : length c.loop-parked.token ≡ length c.args.token.now = c.loop-parked.auto.token in
    let range = c.skip.ensures.fits (length c.args.token.now) (rw fits t.fits) in
    let range' = rw full at (c.in-Part.ensures.fits (rw full range)) in
    let used : c.collect_token.new.parked.end ≤ c.collect_token.new.parked.at = omega (arith, c.in-Part.ensures.part refl, c.if-parked.false) in (
      c.in-More.ensures.failures (λ e. cc) ∙ c.loop-parked.invariant.0,
      record {
        fits = rw (sym fits) (c.in-More.ensures.fits _ range');
        going = c.in-More.ensures.phase ∙ (c.in-Part.ensures.on.phase ∙ (c.skip.ensures.on.phase ∙ t.going));
        clean = t.clean;
        within = λ i given st. more-within _ _ _ _ _ _ _ _ i.bytes given used c.in-More.ensures.fills
            (part-within _ _ _ _ _ _ _ i.bytes given range full c.in-Part.ensures.collects
            (after-skip _ _ _ _ _ _ _ _ t fits c.skip.ensures.begun c.skip.ensures.skips i given st));
      },
      c.in-More.ensures.kept ∙ (c.in-Part.ensures.on.kept ∙ (c.skip.ensures.on.kept ∙ c.loop-parked.invariant.2)),
      omega (arith, c.in-More.ensures.looked.0, c.in-More.ensures.looked.1, c.in-Part.ensures.on.looked, c.skip.ensures.on.looked, c.loop-parked.invariant.3),
      λ u us w. absurd (stays_part _ _ _ _ _ _ _ _ _ _ u us t.fits fits c.skip.ensures.skips (c.loop-parked.invariant.4 u us w) c.in-Part.ensures.collects),
    )

pub returns-in-End-clause-says : goal.returns-in-End-clause-says
returns-in-End-clause-says g c =
    let t = c.loop-parked.invariant.1 in
    let fits : length c.loop-parked.chunk ≡ length c.args.chunk.now = c.loop-parked.auto.chunk in
    let full : length c.loop-parked.token ≡ length c.args.token.now = c.loop-parked.auto.token in
    let range = c.skip.ensures.fits (length c.args.token.now) (rw fits t.fits) in
    let used : c.collect_token.new.parked.end ≤ c.collect_token.new.parked.at = omega (arith, c.in-Part.ensures.part refl, c.if-parked.false) in
    record {
      gives = λ i given st.
          let w = part-within _ _ _ _ _ _ _ i.bytes given range full c.in-Part.ensures.collects
          (after-skip _ _ _ _ _ _ _ _ t fits c.skip.ensures.begun c.skip.ensures.skips i given st) in
          finish-stands _ _ _ _ _ _ _ _ i given _ (t.clean i given st) used c.in-End.ensures.fills.1 (rw c.in-End.ensures.fills.0 at c.end_feed.ensures.finishes) w;
      near = λ is i given st.
          let w = part-within _ _ _ _ _ _ _ i.bytes given range full c.in-Part.ensures.collects
          (after-skip _ _ _ _ _ _ _ _ t fits c.skip.ensures.begun c.skip.ensures.skips i given st) in
          let some : 0 < c.collect_token.new.parked.size = rw c.in-End.ensures.fills.0 at (c.end_feed.ensures.looked.1 (cc)) in
          rw add-one (finish-near _ _ _ _ _ _ _ i given used c.in-End.ensures.fills.1 some w);
      left = λ e. absurd (cc);
    }

pub returns-in-Failed-clause-says : goal.returns-in-Failed-clause-says
returns-in-Failed-clause-says g c =
    let t = c.loop-parked.invariant.1 in
    let fits : length c.loop-parked.chunk ≡ length c.args.chunk.now = c.loop-parked.auto.chunk in
    let full : length c.loop-parked.token ≡ length c.args.token.now = c.loop-parked.auto.token in
    let range = c.skip.ensures.fits (length c.args.token.now) (rw fits t.fits) in
    let used : c.collect_token.new.parked.end ≤ c.collect_token.new.parked.at = omega (arith, c.in-Part.ensures.part refl, c.if-parked.false) in
    record {
      gives = λ i given st.
          let w = part-within _ _ _ _ _ _ _ i.bytes given range full c.in-Part.ensures.collects
          (after-skip _ _ _ _ _ _ _ _ t fits c.skip.ensures.begun c.skip.ensures.skips i given st) in
          fail-gives _ _ _ _ _ _ _ _ _ i given _ (t.clean i given st) c.in-Failed.ensures.fills w c.halted-in-Failed.ensures.result c.halted-in-Failed.ensures.halts;
      near = λ e. absurd (cc);
      left = λ _ i given st _.
          let w = part-within _ _ _ _ _ _ _ i.bytes given range full c.in-Part.ensures.collects
          (after-skip _ _ _ _ _ _ _ _ t fits c.skip.ensures.begun c.skip.ensures.skips i given st) in
          let rest = fail-rest _ _ _ _ c.fill_chunk.new.chunk _ _ _ i given used c.in-Failed.ensures.fills w in
          let same : looked c.halted-in-Failed.new.parked ≡ looked c.collect_token.new.parked = omega (arith, c.in-Failed.ensures.looked.0, ap looked (c.halted-in-Failed.ensures.halts)) in
          subst (λ n. HasRest (g.S.Source.rest c.fill_chunk.new.source) n i) (sym same) rest;
    }

pub returns-in-TooLong-clause-turns : goal.returns-in-TooLong-clause-turns
returns-in-TooLong-clause-turns g c =
    let t = c.loop-parked.invariant.1 in
    let fits = c.loop-parked.auto.chunk in
    let full = c.loop-parked.auto.token in
    let range = c.in-TooLong.ensures.fits (rw (fits, full) (rw fits at (c.skip.ensures.fits (length c.args.token.now) (rw fits t.fits)))) in
    let on = c.in-TooLong.ensures.on in
    let halts : c.halted.new.parked ≡ record c.collect_token.new.parked { size = 0; phase = Halted TokenTooLong } = c.halted.ensures.halts in
    let far = far-enough c.args.parked.now c.loop-parked.parked c.skip.new.parked c.collect_token.new.parked c.loop-parked.invariant.3 c.skip.ensures.on.looked on.looked in
    rw c.halted.ensures.result
    (halts-turns g.S.Source.failures g.S.Source.last_failed _ _ _ _ _ _ (c.halted.ensures.fits _ _ (rw (fits, full) at range)) (c.halted.ensures.kept
    ∙ (on.kept ∙ (c.skip.ensures.on.kept ∙ c.loop-parked.invariant.2))) c.in-Going.is TokenTooLong c.collect_token.new.parked.size
    (rw (ap looked halts) far) (ap (λ (p : Parked). p.phase) halts) (ap (λ (p : Parked). p.size) halts) (λ e. absurd (cc)) (λ e. absurd (cc)) (λ _. c.loop-parked.invariant.0))

pub returns-then-parked-clause-turns : goal.returns-then-parked-clause-turns
returns-then-parked-clause-turns g c =
    let t = c.loop-parked.invariant.1 in
    let fits = c.loop-parked.auto.chunk in
    let full = c.loop-parked.auto.token in
    let range = c.in-Part.ensures.fits (rw (fits, full) (rw fits at (c.skip.ensures.fits (length c.args.token.now) (rw fits t.fits)))) in
    let on = c.in-Part.ensures.on in
    let halts : c.halted-then-parked.new.parked
    ≡ record c.collect_token.new.parked { size = 0; line = c.collect_token.new.parked.line_feeds + 1; phase = Halted InputTooLong } = c.halted-then-parked.ensures.halts in
    let far = far-enough c.args.parked.now c.loop-parked.parked c.skip.new.parked c.collect_token.new.parked c.loop-parked.invariant.3 c.skip.ensures.on.looked on.looked in
    rw c.halted-then-parked.ensures.result
    (halts-turns g.S.Source.failures g.S.Source.last_failed _ _ _ _ _ _ (c.halted-then-parked.ensures.fits _ _ (rw (fits, full) at range))
    (c.halted-then-parked.ensures.kept ∙ (on.kept ∙ (c.skip.ensures.on.kept ∙ c.loop-parked.invariant.2)))
    c.in-Going.is InputTooLong c.collect_token.new.parked.size
    (rw (ap looked halts) far) (ap (λ (p : Parked). p.phase) halts) (ap (λ (p : Parked). p.size) halts) (λ e. absurd (cc)) (λ e. absurd (cc)) (λ _. c.loop-parked.invariant.0))

pub returns-in-Failed-clause-turns : goal.returns-in-Failed-clause-turns
returns-in-Failed-clause-turns g c =
    let t = c.loop-parked.invariant.1 in
    let fits = c.loop-parked.auto.chunk in
    let full = c.loop-parked.auto.token in
    let range = c.in-Part.ensures.fits (rw (fits, full) (rw fits at (c.skip.ensures.fits (length c.args.token.now) (rw fits t.fits)))) in
    let on = c.in-Part.ensures.on in
    let filled = c.in-Failed.ensures in
    let halts : c.halted-in-Failed.new.parked
    ≡ record c.fill_chunk.new.parked { size = 0; line = c.fill_chunk.new.parked.line_feeds + 1; phase = Halted ReadFailed } = c.halted-in-Failed.ensures.halts in
    let far = far-enough c.args.parked.now c.loop-parked.parked c.skip.new.parked c.collect_token.new.parked c.loop-parked.invariant.3 c.skip.ensures.on.looked on.looked in
    rw c.halted-in-Failed.ensures.result
    (halts-turns g.S.Source.failures g.S.Source.last_failed _ _ _ _ _ _
    (c.halted-in-Failed.ensures.fits _ _ (rw fits at (filled.fits _ (rw full at range)))) (c.halted-in-Failed.ensures.kept
    ∙ (filled.kept ∙ (on.kept ∙ (c.skip.ensures.on.kept ∙ c.loop-parked.invariant.2)))) c.in-Going.is ReadFailed c.collect_token.new.parked.size
    (rw (ap looked halts, filled.looked.0) far) (ap (λ (p : Parked). p.phase) halts) (ap (λ (p : Parked). p.size) halts) (λ _. filled.failed refl
    ∙ ap (λ n. n + 1) c.loop-parked.invariant.0) (λ _. filled.last refl) (λ n. absurd (n refl)))

pub returns-in-End-clause-turns : goal.returns-in-End-clause-turns
returns-in-End-clause-turns g c =
    let t = c.loop-parked.invariant.1 in
    let fits = c.loop-parked.auto.chunk in
    let full = c.loop-parked.auto.token in
    let range = c.in-Part.ensures.fits (rw (fits, full) (rw fits at (c.skip.ensures.fits (length c.args.token.now) (rw fits t.fits)))) in
    let on = c.in-Part.ensures.on in
    let filled = c.in-End.ensures in
    let far = far-enough c.args.parked.now c.loop-parked.parked c.skip.new.parked c.collect_token.new.parked c.loop-parked.invariant.3 c.skip.ensures.on.looked on.looked in
    ends-turns g.S.Source.failures g.S.Source.last_failed _ _ _ _ _ _ (c.end_feed.ensures.fits _ _ (rw fits at (filled.fits _ (rw full at range))))
    (c.end_feed.ensures.kept ∙ (filled.kept ∙ (on.kept ∙ (c.skip.ensures.on.kept ∙ c.loop-parked.invariant.2)))) c.in-Going.is
    c.fill_chunk.new.parked c.end_feed.result (rw (filled.looked.0, filled.looked.1) far) c.end_feed.ensures.finishes (filled.failures (λ e. cc) ∙ c.loop-parked.invariant.0)

-- ---- if whole tokens lie ahead

pub returns-in-Whole-clause-ahead : goal.returns-in-Whole-clause-ahead
returns-in-Whole-clause-ahead g c = λ t ts w.
    let phase = c.in-Whole.ensures.on.phase ∙ (c.skip.ensures.on.phase ∙ c.loop-parked.invariant.1.going) in
    let full : length c.collect_token.new.token ≡ length c.args.token.now = omega (arith, c.loop-parked.auto.token) in
    let s = stays_whole _ _ _ _ _ _ _ _ _ _ t ts c.loop-parked.invariant.1.fits c.loop-parked.auto.chunk c.skip.ensures.skips (c.loop-parked.invariant.4 t ts w) phase c.in-Whole.ensures.collects in
    (refl, s.0, s.1, rw full s.2)

pub returns-in-TooLong-clause-ahead : goal.returns-in-TooLong-clause-ahead
returns-in-TooLong-clause-ahead g c = λ t ts w.
    absurd (stays_long _ _ _ _ _ c.collect_token.new.token _ _ _ _ t ts c.loop-parked.invariant.1.fits c.loop-parked.auto.chunk c.skip.ensures.skips
    (c.loop-parked.invariant.4 t ts w) c.loop-parked.auto.token c.in-TooLong.ensures.collects)

pub returns-then-parked-clause-ahead : goal.returns-then-parked-clause-ahead
returns-then-parked-clause-ahead g c = λ t ts w.
    absurd (stays_part _ _ _ _ _ _ _ _ _ _ t ts c.loop-parked.invariant.1.fits c.loop-parked.auto.chunk c.skip.ensures.skips (c.loop-parked.invariant.4 t ts w) c.in-Part.ensures.collects)

pub returns-in-End-clause-ahead : goal.returns-in-End-clause-ahead
returns-in-End-clause-ahead g c = λ t ts w.
    absurd (stays_part _ _ _ _ _ _ _ _ _ _ t ts c.loop-parked.invariant.1.fits c.loop-parked.auto.chunk c.skip.ensures.skips (c.loop-parked.invariant.4 t ts w) c.in-Part.ensures.collects)

pub returns-in-Failed-clause-ahead : goal.returns-in-Failed-clause-ahead
returns-in-Failed-clause-ahead g c = λ t ts w.
    absurd (stays_part _ _ _ _ _ _ _ _ _ _ t ts c.loop-parked.invariant.1.fits c.loop-parked.auto.chunk c.skip.ensures.skips (c.loop-parked.invariant.4 t ts w) c.in-Part.ensures.collects)
