use Rattle.vcd_text.proofs.Cited.{◌≡◌, ℕ, List, ◌∷◌, length, refl, sym, subst, arith, add-one, AreFirst, ahead_in, Parked}
use Rattle.vcd_text.proofs.Facts.{short-going, short-near, short-skips, short-stands, stays_whole}
use Rattle.vcd_text.proofs.feed.take_or_gather.Goals as goal

pub returns-then-collect_short-clause-says : goal.returns-then-collect_short-clause-says
returns-then-collect_short-clause-says g c =
    let t = c.if-collect_short.ensures.takes refl in
    record {
      gives = λ i given st. short-stands _ _ _ c.args.token.now _ c.args.parked.now _ c.requires.fits refl t i given st;
      near = λ _ i given st. rw add-one (short-near _ _ _ c.args.token.now _ c.args.parked.now _ c.requires.fits refl t i given st);
      left = λ e. absurd (cc);
    }

pub returns-then-collect_short-clause-ahead : goal.returns-then-collect_short-clause-ahead
returns-then-collect_short-clause-ahead g c = λ t ts w.
    let s = c.if-collect_short.ensures.takes refl in
    let p = c.args.parked.now in
    let limit = length c.args.token.now in
    let rest = g.S.Source.rest c.args.source.now in
    let range = c.requires.fits in
    let first = subst (λ q. AreFirst limit (ahead_in q c.args.chunk.now p) (t ∷ ts)) s.going w in
    let full : length c.collect_short.new.token ≡ limit = omega arith in
    let taken = stays_whole c.args.source.now c.args.source.now limit c.args.chunk.now c.args.token.now c.collect_short.new.token
    (length c.args.chunk.now) (record p { size = 0 }) _ c.collect_short.new.parked t ts
    (record { at = range.at; stop = range.stop; end = range.end; stops = range.stops; counted = range.counted; line_feeds = range.line_feeds; size = omega arith; kept = range.kept }) refl
    (λ _. short-skips limit rest c.args.chunk.now c.args.token.now c.collect_short.new.token p c.collect_short.new.parked range refl s)
    (record { source_is = refl; none = refl; first = first })
    (short-going limit rest c.args.chunk.now c.args.token.now c.collect_short.new.token p c.collect_short.new.parked range refl s) s.collects in
    (refl, taken.0, refl, rw full taken.2)

pub returns-clause-ahead : goal.returns-clause-ahead
returns-clause-ahead g c = λ t ts w.
    let same = c.if-collect_short.ensures.none refl in
    let p = c.args.parked.now in
    let chunk = c.args.chunk.now in
    c.gather.ensures.ahead t ts
    (subst (λ (q : Parked). AreFirst (length c.collect_short.new.token) (ahead_in q.phase chunk q) (t ∷ ts)) (sym same.0)
    (subst (λ (l : List ℕ). AreFirst (length l) (ahead_in p.phase chunk p) (t ∷ ts)) (sym same.1) w))
