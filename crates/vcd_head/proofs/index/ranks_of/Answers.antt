use Rattle.vcd_head.proofs.Cited.{below_more, ◌≤◌, ◌∷◌, [], ◌++◌, ◌∙◌, length, subst, ap, arith, code_bytes, rank_in, rank_of}
use Rattle.vcd_head.proofs.Facts.{ranks_more}
use Rattle.vcd_head.proofs.index.ranks_of.Goals as goal

pub loop-position-preserved : goal.loop-position-preserved
loop-position-preserved c =
    let text = c.args.text.now in
    let codes = c.args.codes.now in
    let position = c.loop-position.position in
    let rank = c.rank_of.result in
    let short : length (code_bytes text codes position) ≤ 4 = subst (λ bs. length bs ≤ 4) c.code_bytes-bytes.ensures (omega arith) in (
      c.in_ok-push.ensures.items ∙ ap (λ l. l ++ rank ∷ []) c.loop-position.invariant.0
          ∙ ranks_more (rank_in text codes) position rank (c.rank_of.ensures ∙ ap (λ bs. rank_of bs position) c.code_bytes-bytes.ensures),
      below_more (λ p. length (code_bytes text codes p) ≤ 4) position c.loop-position.invariant.1 short,
    )
