use Rattle.vcd_text.proofs.Cited.{length, sym, subst, HasGivenTo}
use Rattle.vcd_text.proofs.Facts.{goes_on_at}
use Rattle.vcd_text.proofs.feed.Feed.offset.Goals as goal

pub returns-clause-given : goal.returns-clause-given
returns-clause-given g c = λ i given h.
    let f = c.args.self.now in
    subst (λ o. HasGivenTo (length f.chunk.now) (length f.token.now) o i given) (sym c.offset_of.ensures.value) (goes_on_at (g.S.Source.rest f.source.now) f.chunk.now f.token.now f.parked i given h)
