use Rattle.std.proofs.Common.{◌≡◌, ◌∙◌, rules, length, subst, sym}
use Rattle.vcd_model.specs.Strobe.{clocks_of}
use Rattle.vcd_text.specs.Feed.{chunk_len_of, limit_of, seen, supply_of}
use Rattle.vcd_strobe.specs.Strobes.{Suffices}
use Rattle.vcd_strobe_words.specs.Asked.{strobe_in}
use Rattle.vcdkit_strobe.proofs.BoundLemmas.{lent_within, suffices}
use Rattle.vcdkit_strobe.proofs.EndLemmas.{edges_last, edges_passed, strobed}
use Rattle.vcdkit_strobe.proofs.job.strobe_in.Goals as goal

pub returns-clause-bound : goal.returns-clause-bound
returns-clause-bound g c = λ h views.
    lent_within c.args.view c.args.places h c.args.room c.args.head.now _ views c.requires.head (c.requires.places h views).0 c.requires.room
    (limit_of c.args.feed.now) (chunk_len_of c.args.feed.now) c.requires.chunk

pub returns-clause-ends : goal.returns-clause-ends
returns-clause-ends g c = λ h i front name views given.
    let q = strobe_in c.args.job.now in
    let ks = clocks_of h q.clocks in
    let head = c.args.head.now in
    let room = c.args.room in
    let selected = c.requires.selected h views in
    let places = c.requires.places h views in
    let clocks : c.deref.result.now ≡ head.clocks.items = search rules in
    let id : c.deref-2.result.now ≡ head.id.items = search rules in
    let marks : c.deref-3.result.now ≡ head.marks.items = search rules in
    let enough = suffices c.args.view c.args.places h room head _ views c.requires.head places.0 c.requires.room c.args.job.now selected places.1 in
    let stands = c.new-state.ensures.stands h q.names ks
    (subst (λ l. Suffices c.args.places (length room.values.now) (length room.listed.now) room.roles.now l c.deref-2.result.now h q.names ks) (sym clocks)
    (subst (λ l. Suffices c.args.places (length room.values.now) (length room.listed.now) room.roles.now head.clocks.items l h q.names ks) (sym id) enough)) in
    rw c.finished.ensures (strobed c.args.job.now (limit_of c.args.feed.now) (chunk_len_of c.args.feed.now) i front h name c.strobe-end.new.strobe.edges
    (seen c.strobe-end.new.feed) (supply_of c.args.feed.now) (supply_of c.strobe-end.new.feed) (g.W.Sink.device c.args.out.now) (g.W.Sink.device c.strobe-end.new.out)
    c.strobe-end.result selected.clocked selected.matched (c.strobe-end.ensures.gives h q.names ks i front views (marks ∙ selected.marks) stands given)
    (c.strobe-end.ensures.needed h q.names ks i front views (marks ∙ selected.marks) stands given))

pub returns-clause-last : goal.returns-clause-last
returns-clause-last g c = rw c.finished.ensures (edges_last c.strobe-end.new.strobe.edges _ c.strobe-end.result c.strobe-end.ensures.last)

pub returns-clause-passed_on : goal.returns-clause-passed_on
returns-clause-passed_on g c = rw c.finished.ensures (edges_passed c.strobe-end.new.strobe.edges g.W.Sink.kept_back c.args.out.now c.strobe-end.new.out c.strobe-end.result c.strobe-end.ensures.passed_on)
