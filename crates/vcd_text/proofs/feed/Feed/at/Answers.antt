use Rattle.vcd_text.proofs.Cited.{◌≡◌, ◌∙◌, ℕ, List, Option, Some, ap, refl, sym, subst, drop, HasGivenParked, registers_at, Parked}
use Rattle.vcd_text.proofs.feed.Feed.at.Goals as goal

pub returns-clause-given : goal.returns-clause-given
returns-clause-given g c = λ i given is h.
    let f = c.resume.result in
    let shows = c.resume.ensures.shows in
    let rest : g.S.Source.rest f.source.now ≡ Some (drop c.args.offset.bytes i.bytes) = ap g.S.Source.rest shows.source_is ∙ is in
    let p : f.parked ≡ registers_at c.args.offset = c.resume.ensures.parked ∙ c.in_ok-parked.ensures.registers in
    let given_at = h c.args.chunk.now c.args.token.now refl refl in
    subst (λ (r : Option (List ℕ)). HasGivenParked r f.chunk.now f.token.now f.parked i given) (sym rest)
    (subst (λ (l : List ℕ). HasGivenParked (Some (drop c.args.offset.bytes i.bytes)) l f.token.now f.parked i given) (sym shows.chunk_is)
    (subst (λ (l : List ℕ). HasGivenParked (Some (drop c.args.offset.bytes i.bytes)) c.args.chunk.now l f.parked i given) (sym shows.token_is)
    (subst (λ (q : Parked). HasGivenParked (Some (drop c.args.offset.bytes i.bytes)) c.args.chunk.now c.args.token.now q i given) (sym p) given_at)))
