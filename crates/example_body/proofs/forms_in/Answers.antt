use Rattle.std.proofs.Common.{◌≡◌, ℕ, List, [], Option, sym, subst, ◌∙◌, arith}
use Rattle.std.specs.Prelude.{IfOk, IfSome}
use Rattle.vcd_head.specs.Model.Header.{header_of}
use Rattle.vcd_head.specs.Model.Reading.{phrases_of}
use Rattle.vcd_text.specs.Answer.{whole}
use Rattle.vcd_text.specs.Feed.{HasGiven, limit_of}
use Rattle.vcd_head.specs.ViewShown.{HeadShown}
use Rattle.vcd_head.specs.Views.{Views}
use Rattle.example_body.specs.Counts.{BodyCounts}
use Rattle.example_body.proofs.CountLemmas.{dump_counts}
use Rattle.example_body.proofs.forms_in.Goals as goal

pub returns : goal.returns
returns g c = record {
  reads = λ text h.
      let stands : HasGiven (whole text) [] c.new-feed.result = subst (λ (o : Option (List ℕ)). IfSome o (λ t. HasGiven (whole t) [] c.new-feed.result)) h c.new-feed.ensures.begins.stands in
      let head = c.in_ok-head.ensures.reads (whole text) stands in
      let limit : limit_of c.read_head.new.feed ≡ 65536 = c.in_ok-head.ensures.lengths.0 ∙ omega (arith, c.in_ok-token.ensures.len, c.deref_mut-2.ensures.len, c.new-feed.ensures.begins.limit) in
      let views = subst (λ (s : HeadShown). Views s (header_of (phrases_of head.placed))) (sym c.view.ensures) head.views in
      let counts = subst (λ (n : ℕ). IfOk c.count.result (BodyCounts (header_of (phrases_of head.placed)).codes (whole text) head.given n)) limit
      (c.count.ensures.reads (header_of (phrases_of head.placed)) (whole text) head.given views head.stands) in
      dump_counts text head.given head.placed c.count.result head.whole counts;
}
