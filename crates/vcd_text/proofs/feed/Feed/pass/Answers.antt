use Rattle.vcd_text.proofs.Cited.{◌++◌, length, refl, arith, end_of_tokens, looked, gone_on}
use Rattle.vcd_text.proofs.Facts.{near-more, parked-stands, passed_within, ahead_fits, gone_fits, pass_stands, pass_far}
use Rattle.vcd_text.proofs.feed.Feed.pass.Goals as goal

pub move_past-requires-clause-within : goal.move_past-requires-clause-within
move_past-requires-clause-within g c =
    let f = c.args.self.now in
    ahead_fits f.parked.phase f.chunk.now f.parked (length f.token.now) c.args.n f.fits (passed_within _ _ _ 0 c.args.n c.requires.0 (omega arith) c.requires.1)

pub move_past-requires-clause-counted : goal.move_past-requires-clause-counted
move_past-requires-clause-counted g c =
    let f = c.args.self.now in
    let within = ahead_fits f.parked.phase f.chunk.now f.parked (length f.token.now) c.args.n f.fits (passed_within _ _ _ 0 c.args.n c.requires.0 (omega arith) c.requires.1) in
    omega (arith, f.fits.counted, f.fits.line_feeds, within)

pub returns-clause-stands : goal.returns-clause-stands
returns-clause-stands g c = λ ts passed i given st.
    let f = c.args.self.now in
    let rest = g.S.Source.rest f.source.now in
    let on = pass_stands f.parked.phase (length f.token.now) rest f.chunk.now f.parked i given ts c.args.n f.fits passed st.at in
    rw (c.move_past.ensures.same, c.move_past.ensures.parked) (parked-stands rest f.chunk.now f.token.now (length f.token.now)
    (gone_on f.chunk.now f.parked c.args.n) i (given ++ ts) refl on (λ some. absurd (omega arith)))

pub returns-clause-near : goal.returns-clause-near
returns-clause-near g c = λ ts passed some i given st.
    let f = c.args.self.now in
    let rest = g.S.Source.rest f.source.now in
    let far = pass_far f.parked.phase (length f.token.now) rest f.chunk.now f.parked i given ts c.args.n f.fits some passed st.at in
    rw c.move_past.ensures.same (near-more (length f.chunk.now) rest (looked f.parked) (end_of_tokens i.bytes (length (given ++ ts))) i far st.read_ahead)

pub invariant_of-self-clause-fits : goal.invariant_of-self-clause-fits
invariant_of-self-clause-fits g c =
    let f = c.args.self.now in
    let within = ahead_fits f.parked.phase f.chunk.now f.parked (length f.token.now) c.args.n f.fits (passed_within _ _ _ 0 c.args.n c.requires.0 (omega arith) c.requires.1) in
    rw (c.move_past.ensures.same, c.move_past.ensures.parked) (gone_fits f.chunk.now f.parked (length f.token.now) c.args.n f.fits within)
