use Rattle.vcd_head.proofs.Cited.{subst, rules, IsPermutation, always_returns_same}
use Rattle.vcd_head.proofs.Facts.{before, index_made}
use Rattle.vcd_head.proofs.IndexLemmas.{before_weak}
use Rattle.vcd_head.proofs.index.index_by_bytes.Goals as goal

pub returns : goal.returns
returns c = λ cs h.
    let text = c.args.text.now in
    let codes = c.args.codes.now in
    let new = c.sort_unstable_by.new.self.items in
    let sorted = c.sort_unstable_by.ensures.sorted (before text codes) (before_weak text codes) (always_returns_same _ _ _ (λ a r g h. (search rules, search rules))) in
    index_made text codes cs new h (subst (λ l. IsPermutation l new) c.in_ok-index.ensures c.sort_unstable_by.ensures.permutation) sorted
