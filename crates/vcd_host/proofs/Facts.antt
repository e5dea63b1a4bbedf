-- The lemmas of this crate that its answers cite, under one path.
pub use Rattle.vcd_host.proofs.AskedLemmas.{given-files}
pub use Rattle.vcd_host.proofs.LentOutputLemmas.{front-copied, gained, none-gone}
pub use Rattle.vcd_host.proofs.OpensLemmas.{fresh-more, names-more, opened-more, stops-among}
pub use Rattle.vcd_host.proofs.PrefetchedLemmas.{front-more, reads-on}
