use Rattle.vcd_compare.proofs.Cited.{names_in}
use Rattle.vcd_compare.proofs.Facts.{err_then, ok_then}
use Rattle.vcd_compare.proofs.pairs.pairs_of.Goals as goal

pub returns-clause-pairs : goal.returns-clause-pairs
returns-clause-pairs c = ok_then c.pairs_of_numbered.result _ _ (λ ps are h q view except.
    are h q (names_in c.args.names.now) view (c.in_ok-all.ensures.numbered h q view except)) c.pairs_of_numbered.ensures.pairs

pub returns-clause-selected : goal.returns-clause-selected
returns-clause-selected c = ok_then c.pairs_of_numbered.result _ _ (λ ps none h q view except.
    none h q (names_in c.args.names.now) (c.in_ok-all.ensures.numbered h q view except)) c.pairs_of_numbered.ensures.selected

pub returns-clause-faults : goal.returns-clause-faults
returns-clause-faults c = err_then c.pairs_of_numbered.result _ _ (λ fault is h q view except.
    is h q (names_in c.args.names.now) (c.in_ok-all.ensures.numbered h q view except)) c.pairs_of_numbered.ensures.faults
