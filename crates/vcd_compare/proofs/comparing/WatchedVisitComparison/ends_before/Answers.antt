use Rattle.vcd_compare.proofs.comparing.WatchedVisitComparison.ends_before.Goals as goal

pub some_differ-requires : goal.some_differ-requires
some_differ-requires c = c.requires.2
