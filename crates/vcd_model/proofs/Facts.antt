-- The lemmas of this crate that its answers cite, under one path.
pub use Rattle.vcd_model.proofs.BodyGrammar.{body_reading_is_unique}
pub use Rattle.vcd_model.proofs.Growing.{merge_grows}
pub use Rattle.vcd_model.proofs.HeaderGrammar.{header_reading_is_unique}
