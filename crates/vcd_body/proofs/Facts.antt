-- The lemmas of this crate that its answers cite, under one path.
pub use Rattle.vcd_body.proofs.AheadLemmas.{both_taken, found_all, gave_last, gave_passed, has_bits, mark_taken, passes_same}
pub use Rattle.vcd_body.proofs.BinaryLemmas.{binary_at, binary_past, length_binary, proper, proper_count}
pub use Rattle.vcd_body.proofs.CallerLemmas.{gave_none_ahead}
pub use Rattle.vcd_body.proofs.ChangeLine.{all_line, bit_line, vector_line}
pub use Rattle.vcd_body.proofs.CodeLanes.{codes_of_lanes, four_lanes, four_long, places_of_lanes}
pub use Rattle.vcd_body.proofs.CommentLemmas.{OpensComment, comment_passes, passed_on, passes_both, same_place, word_passes, words_more, words_on}
pub use Rattle.vcd_body.proofs.CompareLemmas.{SameFrom, length_extended, differ_at_longest, differ_for, differ_where_as_many, fewer_differ, last_number, other_sizes, same_at_longest, last_of_state, last_packed}
pub use Rattle.vcd_body.proofs.CurrentLemmas.{bits_hold, short_gives, held_still, other_gives, text_holds}
pub use Rattle.vcd_body.proofs.EndLemmas.{end_digit, ends_same}
pub use Rattle.vcd_body.proofs.FindLemmas.{none_spelled, spelled_time, time_if_spelled, time_spelled, time_whole}
pub use Rattle.vcd_body.proofs.FollowLemmas.{bit_is, change_as, change_as_text, change_gives, change_twice, digit_there, keeps_twice, kept_flips, kept_stays, kept_steps, nothing_changes, number_alone, number_and_counted, number_as_text, one_text, other_bit, same_again, set_and_counted, sets_text, sets_value, step_put, way_flips}
pub use Rattle.vcd_body.proofs.HeldLemmas.{count_held, no_digits, shown_at}
pub use Rattle.vcd_body.proofs.HeldLines.{all_digits, full_is, line_is, some_digits}
pub use Rattle.vcd_body.proofs.LayoutLemmas.{laid, laid_more, new_kept, start_next, unset_more, whole_share}
pub use Rattle.vcd_body.proofs.LeftOut.{bit_within, end_is, front_there, if_some_more, shortest_line, text_within, without_none}
pub use Rattle.vcd_body.proofs.LineLemmas.{begins_after, bit_item, bit_line_there, both_line_there, both_places, both_there, flip, found_named, mark_there, of_found, of_sized, one_byte, real_item, rest_there, text_there, token_begun, token_there, vector_item}
pub use Rattle.vcd_body.proofs.LowerCase.{AreLowBy, low_more}
pub use Rattle.vcd_body.proofs.MarkLine.{mark_line_there}
pub use Rattle.vcd_body.proofs.NumberLemmas.{binary_get, bits_kept, bits_some}
pub use Rattle.vcd_body.proofs.OnesLemmas.{front_bit, front_fits, ones_bits, ones_few, written}
pub use Rattle.vcd_body.proofs.OtherBytes.{clear_is, differ_bit, lower_behind, others_bit, same_lead, set_is}
pub use Rattle.vcd_body.proofs.PackedLemmas.{digit_among, last_code, lower_digits, none_behind, packs_by, padded_is}
pub use Rattle.vcd_body.proofs.PhraseLemmas.{bad_digits, bad_time, begin_inside, begin_passes, comment_goes_on, comment_open, comment_whole, digits_ask, digits_begin, end_outside, end_passes, first_byte, mark_misplaced, mark_own, mark_refused, no_code, no_number, no_phrase, number_asks, number_begins, number_too_long, of_header, real_passes, scalar_passes, time_passes, too_wide, unknown_code, vector_passes}
pub use Rattle.vcd_body.proofs.Pieces.{front_part, piece-more, piece-some, repeated_part, same_part}
pub use Rattle.vcd_body.proofs.ReadLemmas.{comment_begun, fault_given, known_begin, known_end, known_so_far, none_given, own_given, refused_first}
pub use Rattle.vcd_body.proofs.RegsLemmas.{real_read, real_sound, same_room, vector_read, vector_sound}
pub use Rattle.vcd_body.proofs.RenamedLemmas.{three_digits, two_digits}
pub use Rattle.vcd_body.proofs.Results.{writes-none}
pub use Rattle.vcd_body.proofs.SameLemmas.{number_told, short_told}
pub use Rattle.vcd_body.proofs.ScalarLemmas.{scalar_takes}
pub use Rattle.vcd_body.proofs.SectionLemmas.{section_takes}
pub use Rattle.vcd_body.proofs.SetLemmas.{set_value}
pub use Rattle.vcd_body.proofs.Shortest.{extension_at, none_extended, one_less, short_behind_zeros, short_here, short_last}
pub use Rattle.vcd_body.proofs.StepLemmas.{ends_two, last_is}
pub use Rattle.vcd_body.proofs.StoreLemmas.{alone, blank, blank_share, both_laid, counted_laid, counts_kept, digit_kept, fits_in, form_kept, form_past, len_told, length-put_mid, more_kept, no_share_there, no_slot, no_slot_there, none_fits, not_outside, one_step, packed_as, share_alone_changes, share_changes, slot_changes, slot_laid, slot_leaves, some_in, steps_kept, text_stays, told_state, used_none}
pub use Rattle.vcd_body.proofs.TableLemmas.{held_here, is_real, keeps_laid, line_there, part_here, share_there, shows_digits, value_there}
pub use Rattle.vcd_body.proofs.TokenLemmas.{cut_short, halted_at, kept, opened_text, refused_at, refused_text, stopped_at_end, taken, taken_phrase}
pub use Rattle.vcd_body.proofs.WalkLemmas.{and_done, come_begins, come_on, come_past, one_taken, stands_there, walks_further}
pub use Rattle.vcd_body.proofs.WholeLemmas.{begins_as, first_of_item, kept_ahead, not_comment, still_first}
pub use Rattle.vcd_body.proofs.WordLemmas.{all_binary, all_by_place, behind, byte_there, empty, filled, filled_some, first_rest, in_block, known_binary, known_tell, low_clear, lower_alone, no_bits, none_of_two, others_bits, others_tell, scalar_begins, some_bytes, some_of, stands_for, two_of}
