-- What the contracts of this crate cite, under one path: names of the crates below, and those that
-- several of its modules share.
pub use Rattle.std.specs.List.{AllByRecursion, position_or_len}
pub use Rattle.std.specs.List.Sorted.{IsStrictlyIncreasing}
pub use Rattle.vcd_model.specs.BodyPhrases.{section_keyword}
pub use Rattle.vcd_model.specs.Bound.{AreWindows, FitsInput, no_room, RoomSize, WindowSize}
pub use Rattle.vcd_model.specs.Bytes.{as_line}
pub use Rattle.vcd_model.specs.CheckAndList.{check_close, count_line, list_line, list_text, number_or_dash}
pub use Rattle.vcd_model.specs.Cut.{cut_close}
pub use Rattle.vcd_model.specs.Declarations.{IdCode}
pub use Rattle.vcd_model.specs.Edges.{edges_close, edges_line}
pub use Rattle.vcd_model.specs.Header.{Header}
pub use Rattle.vcd_model.specs.History.{value_before}
pub use Rattle.vcd_model.specs.ItemText.{closing, item_line, last_mark, time_due, time_line}
pub use Rattle.vcd_model.specs.Items.{BodyItem, Change, Entry, leaves_open}
pub use Rattle.vcd_model.specs.Keywords.{keyword_text}
pub use Rattle.vcd_model.specs.Laws.{IsValid}
pub use Rattle.vcd_model.specs.Outcome.{close_text, Request}
pub use Rattle.vcd_model.specs.Pick.{pick_close}
pub use Rattle.vcd_model.specs.Sample.{is_settled, sample_lines}
pub use Rattle.vcd_model.specs.Selection.{first_unmatched, selected, selects_code}
pub use Rattle.vcd_text.specs.Advances.{Advances, CallEnd}
pub use Rattle.vcd_text.specs.Ahead.{bytes_of, passed_of}
pub use Rattle.vcd_text.specs.Device.{Counts, Device, Puts, PutsTo, PutsWhere, TakenBy, Takes}
pub use Rattle.vcd_body.specs.Answer.{EndsAtRead}
pub use Rattle.vcd_text.specs.Feed.{seen}
pub use Rattle.vcd_view.specs.Needs.{room, view_size}
pub use Rattle.vcd_view.specs.Over.{FitsEachInput}
pub use Rattle.vcd_view.specs.Shown.{parts}
pub use Rattle.vcd_view.specs.Views.{IsViewOf}
pub use Rattle.vcd_view.specs.declared.view.Code.{Code}
pub use Rattle.vcd_view.specs.declared.view.HeadView.{HeadView}
pub use Rattle.vcd_head.specs.Marks.{is_marked, marks_of}
pub use Rattle.vcd_head.specs.Written.{TakesHeader}
pub use Rattle.vcd_body.specs.Ahead.{HasBits}
pub use Rattle.vcd_body.specs.Contents.{KeepsTable}
pub use Rattle.vcd_body.specs.Given.{HasGoodText, IsGoodText, IsItem, IsText, item_text}
pub use Rattle.vcd_body.specs.Items.{AreRegsAfter, model_section}
pub use Rattle.vcd_body.specs.Spelled.{bytes_without, line_without, HasTimestamp}
pub use Rattle.vcd_body.specs.declared.answer.Done.TheVariants.{Early, Whole}
pub use Rattle.vcd_body.specs.declared.answer.More.TheVariants.{Again}
pub use Rattle.vcd_body.specs.declared.answer.Stop.TheVariants.{Write}
pub use Rattle.vcd_body.specs.declared.item.Item.TheVariants.{Finish}
pub use Rattle.vcd_run.specs.Run.{CountsStop}
pub use Rattle.vcd_engine.specs.Ahead.{RunsOver}
pub use Rattle.vcd_engine.specs.Check.{AreCounted}
pub use Rattle.vcd_engine.specs.Cut.{AreCut, BeginsBy, IsNoTimestamp, lent_to, PutsStart, SameSpan, span_in}
pub use Rattle.vcd_engine.specs.Edges.{AreEdges, AreTallied, change_to, names_counted, room_in_edges, SameEdges}
pub use Rattle.vcd_engine.specs.Engine.{AtClose, AtItem, CanRun, ClosesOver, Holds, is_going, Keeps, last_time_of, may_end_early, request_in, request_of, request_of_engine, Starts, StartsOver, StopsUnread, TakesEach, TakesTime}
pub use Rattle.vcd_engine.specs.ItemText.{HasWritten, LastTells, may_be_kept, PutsEntry, times_with}
pub use Rattle.vcd_engine.specs.Leads.{AnySampled, HaveNoLine, IsSelectedAt, LeadOn, rows_on}
pub use Rattle.vcd_engine.specs.Pick.{ArePicked, flags_in, is_kept, names_in}
pub use Rattle.vcd_engine.specs.PendingCopy.{pending_in, IsLine, IsNextItem, IsPart, PutsBehind, PutsOn, PutsCopy}
pub use Rattle.vcd_engine.specs.Report.{declares_variable, named_line, opens_scope}
pub use Rattle.vcd_engine.specs.Room.{AnyRoom, AreWithinBound, BeginsAs, HasRoomFor, IsWithin, IsWithinEachBound, KeepsBound, marks_for, room_in, room_of, room_size, SameHold, SameTask, slots_for, values_for, view_in}
pub use Rattle.vcd_engine.specs.Rows.{AtRow}
pub use Rattle.vcd_engine.specs.TaskRun.{EndsAsAsked, MayRun, RunsTask, RunsWhole}
pub use Rattle.vcd_engine.specs.Sample.{AreSampled, asked_in, is_due, lent_to as lent_to_sample, SameSample}
pub use Rattle.vcd_engine.specs.Selection.{AreSelected, IsFirstUnmatched, IsUnmatched}
pub use Rattle.vcd_engine.specs.Step.{MayStep, Steps, StepsOver}
pub use Rattle.vcd_body.specs.Current.{AreHeld, HasValues}
