-- What the proofs of this crate cite of std, of specs/ and of the crates below, under one path.
pub use Rattle.std.proofs.Common.{Bool, List, None, Option, Some, [], add-one, ap, arith, below_more, bit_xor, bytes_eq, codes, cond, drop, false, get_or, inl, inr, length, length-drop, map, max, min, nat_le, option_map, pow-suc, refl, replicate, rules, set, slice_get, slice_range, slice_set, subst, suc, sum_by, sym, take, true, unwrap_or, zero, zero-add, ℕ, ◌%◌, ◌&&◌, ◌*◌, ◌++◌, ◌+◌, ◌-◌, ◌/◌, ◌<◌, ◌==◌, ◌^◌, ◌||◌, ◌∙◌, ◌∷◌, ◌≡◌, ◌≢◌, ◌≤◌, ◌⊎◌}
pub use Rattle.std.proofs.Math.ListN.{length-set}
pub use Rattle.std.proofs.Math.Nat.{mul-le-mul_left, mul_assoc, pow-le-pow_right}
pub use Rattle.std.proofs.Math.Seq.{take-suc-set}
pub use Rattle.std.proofs.lemmas.Bool.{and_parts, cases_lt, eq-eqb, eqb-true, false≢true, le-leb, le-ltb, leb-true, lt-leb, lt-ltb, ne_eqb}
pub use Rattle.std.proofs.lemmas.Cmp.{nat_list_cmp_total}
pub use Rattle.std.proofs.lemmas.Grind.{get_or_default_zero}
pub use Rattle.std.proofs.lemmas.Int.Digits.{all_below_base_digits_of, length-digits_of-le, length-digits_of_step, number_digits_of, number_lt}
pub use Rattle.std.proofs.lemmas.List.{append-nil, append_assoc, drop_more, get_or-map, length-map, length-take, take_all}
pub use Rattle.std.proofs.lemmas.List.Elements.{All-drop, All-take}
pub use Rattle.std.proofs.lemmas.List.FromFn.{get_or-range_with_len, length-range_with_len}
pub use Rattle.std.proofs.lemmas.List.Sorted.{All-permutation, Contains-permutation, IsPermutation-map, IsPermutation-sym, length_permutation}
pub use Rattle.std.proofs.lemmas.List.Sums.{sum_by-cons, sum_by_more}
pub use Rattle.std.proofs.lemmas.Map.Keys.{IsDistinct-IsPermutation, IsDistinct-from_sorted}
pub use Rattle.std.proofs.lemmas.Map.Text.{is_eq-slice_cmp}
pub use Rattle.std.proofs.lemmas.Option.{IfSome_then, none-some, same_Some, slice_get-get_or, slice_get_within}
pub use Rattle.std.proofs.lemmas.Slice.Eq.{bytes_eq-Decides}
pub use Rattle.std.specs.Cmp.Lexicographic.{slice_cmp}
pub use Rattle.std.specs.Int.{div_ceil, from_le_bytes, w64}
pub use Rattle.std.specs.Int.Digits.{digits_of}
pub use Rattle.std.specs.List.{All, AllByRecursion, AllZip, cons_option, filter_map, list_all, list_any, position_or_len, range_with_len}
pub use Rattle.std.specs.Option.{IfSome}
pub use Rattle.std.specs.Ordering.{is_eq, nat_cmp, ordering_reverse}
pub use Rattle.std.specs.Prelude.{IsPermutation, find}
pub use Rattle.std.specs.declared.cmp.Ordering.{Ordering}
pub use Rattle.std.specs.declared.cmp.Ordering.TheVariants.{Equal, Greater, Less}
pub use Rattle.vcd_model.proofs.BoundLemmas.{room_fits}
pub use Rattle.vcd_model.proofs.CodeLemmas.{same_room}
pub use Rattle.vcd_model.proofs.HeaderGrammar.{keyword_of-text}
pub use Rattle.vcd_model.proofs.ScopeLemmas.{innermost}
pub use Rattle.vcd_model.specs.Backward.{each, each_after}
pub use Rattle.vcd_model.specs.Bound.{AreWindows, FitsInput, IsView, RoomSize, WindowSize, room_of, value_room}
pub use Rattle.vcd_model.specs.Declarations.{Declaration, IdCode, Variable, code_of, enclosing, has_text, name_of, parent, variable_of, variables_of}
pub use Rattle.vcd_model.specs.HeadText.{base94}
pub use Rattle.vcd_model.specs.Header.{Header}
pub use Rattle.vcd_model.specs.HeaderPhrases.{until_end}
pub use Rattle.vcd_model.specs.Keywords.{Keyword, is_end, keyword_of, keyword_text}
pub use Rattle.vcd_view.specs.CodeHash.{hashed, mixed}
pub use Rattle.vcd_view.specs.Entries.{HasEntry, IsAt, MayHaveKey, above, are_right, code_bytes, is_entry_of, is_right, number_in, size_or_zero_of, text_in}
pub use Rattle.vcd_view.specs.Finds.{Finds}
pub use Rattle.vcd_view.specs.Keys.{AreBytes, key_in, packed}
pub use Rattle.vcd_view.specs.Keywords.{NoEnds}
pub use Rattle.vcd_view.specs.Needs.{value_bytes, view_size}
pub use Rattle.vcd_view.specs.Shown.{HeadShown, parts}
pub use Rattle.vcd_view.specs.Views.{AreHeld, AreRows, HasTexts, IsCode, IsIndex, IsRow, IsSize, Views, code_text, counted_from_one, reference_of, type_of}
pub use Rattle.vcd_view.specs.declared.code_hash.CodeSeed.{CodeSeed}
pub use Rattle.vcd_view.specs.declared.view.Code.{Code}
pub use Rattle.vcd_view.specs.declared.view.Entry.{Entry}
pub use Rattle.vcd_view.specs.declared.view.Row.{Row}
