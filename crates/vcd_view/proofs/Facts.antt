-- The lemmas of this crate that its answers cite, under one path.
pub use Rattle.vcd_view.proofs.EntryLemmas.{all_written, at_finds, at_within, entry_at, entry_found}
pub use Rattle.vcd_view.proofs.HashLemmas.{word_alone, word_first}
pub use Rattle.vcd_view.proofs.KeyLemmas.{are_bytes, bytes_at_place, grown, key_below, same_key}
pub use Rattle.vcd_view.proofs.KeywordLemmas.{keyword_found}
pub use Rattle.vcd_view.proofs.LookUpLemmas.{IsBetween, between_above, between_all, between_below, bits_of_half, blank, codes_len, distinct, found_at, found_equal, index_len, none_between, place_below, text_at}
pub use Rattle.vcd_view.proofs.NewCodeLemmas.{SoFar, at_first, digit_last, digit_more}
pub use Rattle.vcd_view.proofs.ParentLemmas.{parent_before, says_none, says_some}
pub use Rattle.vcd_view.proofs.RoomLemmas.{fits, is_room, sum_fits}
pub use Rattle.vcd_view.proofs.RowLemmas.{bytes_are, code_of_shown, none_of_shown, read_there, row_name, row_of, row_reference, row_type, text_within, there}
