-- What the contracts of this crate cite, under one path: names of the crates below, and those that
-- several of its modules share.
pub use Rattle.std.specs.Cmp.{on_equiv, on_per, partial_equiv_from_equiv}
pub use Rattle.std.specs.Cmp.Lexicographic.{nat_list_eq_equiv}
pub use Rattle.std.specs.Int.{div_ceil}
pub use Rattle.std.specs.List.{concat, join_with_byte, list_all, list_any, range_with_len}
pub use Rattle.std.specs.Option.{SomeIff}
pub use Rattle.vcd_model.specs.Backward.{each}
pub use Rattle.vcd_model.specs.Bytes.{is_code_byte}
pub use Rattle.vcd_model.specs.Declarations.{Declaration, IdCode, Variable, code_of, enclosing, parent, path_of}
pub use Rattle.vcd_model.specs.HeadText.{first_number, head_for, head_text, input_head, least_exponent, merged_head, row_line, rows_text, scope_line, three_lines, three_lines_of, up_line, up_lines_at, var_line}
pub use Rattle.vcd_model.specs.Header.{Header, header_of}
pub use Rattle.vcd_model.specs.HeaderChecks.{begins_change}
pub use Rattle.vcd_model.specs.HeaderPhrases.{HeaderPhrase}
pub use Rattle.vcd_model.specs.Keywords.{Keyword, is_command, is_end, keyword_text}
pub use Rattle.vcd_model.specs.Scales.{exponent_of, scale_text}
pub use Rattle.vcd_model.specs.Selection.{first_unmatched, is_selected, is_variable, marked_places, selects_path}
pub use Rattle.vcd_model.specs.Ticks.{moment_ticks, ticks}
pub use Rattle.vcd_text.specs.Advances.{CallEnd}
pub use Rattle.vcd_text.specs.Device.{Counts, Puts, PutsTo, PutsWhere, TakenBy, Takes}
pub use Rattle.vcd_text.specs.Feed.{seen, source_of, token_of, value_of}
pub use Rattle.vcd_view.specs.Entries.{are_right}
pub use Rattle.vcd_view.specs.Finds.{Finds}
pub use Rattle.vcd_view.specs.Keys.{key_in}
pub use Rattle.vcd_view.specs.Over.{AnyDeclared, AnyHeader, AnyHeld, AnyRow, AnyVariable}
pub use Rattle.vcd_view.specs.Shown.{parts}
pub use Rattle.vcd_view.specs.Views.{AreHeld, IsIndex, IsSize, IsViewOf, Views, counted_from_one, reference_of, type_of}
pub use Rattle.vcd_view.specs.declared.view.Code.{Code}
pub use Rattle.vcd_view.specs.declared.view.Scale.{Scale}
pub use Rattle.vcd_head.specs.Calls.{MovesFurther, MovesOn, OrFails, ReadsAll, ReadsAny, ReadsEnd, ReadsNext, ReadsOther, ReadsPhrase, ReadsRest, ReadsText, ReadsToEnd, ReadsWord}
pub use Rattle.vcd_head.specs.Codes.{HasNone, Rises, is_declared_as, keys_of}
pub use Rattle.vcd_head.specs.Declares.{IsBarred, MayStart, Takes as TakesPhrase}
pub use Rattle.vcd_head.specs.Draft.{IsDraftOf, IsNew, goes_on}
pub use Rattle.vcd_head.specs.Entered.{Enters, EntersKey, IsNewCode, code_with}
pub use Rattle.vcd_head.specs.Fault.{IsFound, call_end, fault_number}
pub use Rattle.vcd_head.specs.Fronts.{AreRanks, prefix_in, position_in_rank, rank_of}
pub use Rattle.vcd_head.specs.Groups.{AreRising, FlagsSome, GoesOnWith, IsRun, IsRunOn, RunsOn, names_of}
pub use Rattle.vcd_head.specs.Inside.{AnyOpen, ComparesAt, Enters as EntersScope, FlagsSelected, GivesAround, IsOpen, KeepsOpen, SelectsAt, StaysOpen, front, row_path}
pub use Rattle.vcd_head.specs.Keys.{AreKeysOf, is_key, same_shape, same_writes, shape_in, shape_of, writes_of}
pub use Rattle.vcd_head.specs.Marks.{AreClosed, AreFlags, Marked, RefusesUnmatched, is_marked, marks_of, row_and_scopes}
pub use Rattle.vcd_head.specs.Matched.{IsFirstFalse, Matches}
pub use Rattle.vcd_head.specs.Merged.{FitNumbers, IsBehind as IsPast, ShowHeaders, closing, due, input_rows, openings}
pub use Rattle.vcd_head.specs.Moments.{asked, tick_fault_number, told, with_unit}
pub use Rattle.vcd_head.specs.NameOrder.{AreSame, IsOrder}
pub use Rattle.vcd_head.specs.Paths.{scopes_text}
pub use Rattle.vcd_head.specs.Reads.{ReadsHead}
pub use Rattle.vcd_head.specs.Rows.{IsNarrow, row_of}
pub use Rattle.vcd_head.specs.Runs.{Narrows}
pub use Rattle.vcd_head.specs.Scaled.{ReadsScale}
pub use Rattle.vcd_head.specs.ScopesLeft.{GivesNext, LeavesScopes, Walks, scopes_around}
pub use Rattle.vcd_head.specs.Selects.{IsBehind as GoesOnAfter, selects_after}
pub use Rattle.vcd_head.specs.Shown.{shown}
pub use Rattle.vcd_head.specs.Texts.{spaced}
pub use Rattle.vcd_head.specs.Variables.{ReadsCode, ReadsReference, ReadsSize}
pub use Rattle.vcd_head.specs.Words.{power_in, size_in, unit_in}
pub use Rattle.vcd_head.specs.Written.{TakesHeader, TakesRow}
pub use Rattle.vcd_head.specs.declared.fault.HeadFault.TheVariants.{OutOfMemory}
