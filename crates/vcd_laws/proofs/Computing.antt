-- One name to unfold where a proof computes with a text that is written out.
use Rattle.std.specs.Fmt.{digits}
use Rattle.vcd_model.specs.BodyChecks.{body_fault}
use Rattle.vcd_model.specs.BodyPhrases.{is_value_digit, start_of, body_phrase}
use Rattle.vcd_model.specs.Bound.{bound}
use Rattle.vcd_model.specs.CheckAndList.{check_close, list_text}
use Rattle.vcd_model.specs.Cut.{start_section, cut_open, cut_close}
use Rattle.vcd_model.specs.Declarations.{codes_of, enclosing, path_of}
use Rattle.vcd_model.specs.Edges.{edges_close}
use Rattle.vcd_model.specs.HeadText.{rows_text, head_text, head_for, new_code, least_exponent, merged_head}
use Rattle.vcd_model.specs.Header.{header_of}
use Rattle.vcd_model.specs.HeaderChecks.{header_fault}
use Rattle.vcd_model.specs.HeaderPhrases.{header_phrase}
use Rattle.vcd_model.specs.Keywords.{keyword_of, is_unknown_command}
use Rattle.vcd_model.specs.Merge.{factor, dump_of, merged_items, first_fault, merge_open, merge_close}
use Rattle.vcd_model.specs.Outcome.{fault_text, open_from, body_of, over_body, over_dump, dumps_of, merge_outcome}
use Rattle.vcd_model.specs.Compare.{pairs, unlike, alone, times, value_lines, head_lines, end_lines, over_both, compared}
use Rattle.vcd_model.specs.Within.{comparison, from_dump, outermost, within, within_dump, within_open, within_close, within_head}
use Rattle.vcd_model.specs.Strobe.{edge_text, edges_in, sampled, strobe, strobe_dump, strobe_head, strobe_open}
use Rattle.vcd_model.specs.Ticks.{ticks, moment_ticks}
use Rattle.vcd_model.specs.Job.{moment_of, request_of, outcome}
use Rattle.vcd_model.specs.Settled.{is_header_over, is_settled}
use Rattle.vcd_model.specs.SettledMerge.{is_settled_merge}
use Rattle.vcd_model.specs.Words.{job_of, command_outcome}
use Rattle.vcd_model.specs.Pick.{pick_open, pick_close}
use Rattle.vcd_model.specs.Reading.{reading_of}
use Rattle.vcd_model.specs.HeaderReading.{read_header}
use Rattle.vcd_model.specs.BodyReading.{read_body}
use Rattle.vcd_model.specs.Sample.{sample_open, sample_close}
use Rattle.vcd_model.specs.Scales.{exponent_of, scale_text, is_scale_number, is_scale_unit}
use Rattle.vcd_model.specs.Selection.{selected, marked_places}
use Rattle.vcd_model.specs.Tokens.{tokens_of, end_of_tokens, first_halt, given_places, stream_of}
use Rattle.vcd_model.specs.Values.{short}

-- `unfolding model` lets `refl` compute every definition of this crate
unfoldable pub model : Unit {0}
unfolding digits body_fault is_value_digit start_of body_phrase bound check_close list_text start_section cut_open cut_close codes_of enclosing path_of edges_close rows_text head_text head_for new_code least_exponent merged_head header_of header_fault header_phrase keyword_of is_unknown_command factor dump_of merged_items first_fault merge_open merge_close fault_text open_from body_of over_body over_dump dumps_of merge_outcome ticks moment_ticks moment_of request_of is_header_over is_settled is_settled_merge outcome job_of command_outcome pick_open pick_close reading_of read_header read_body sample_open sample_close exponent_of scale_text is_scale_number is_scale_unit selected marked_places tokens_of end_of_tokens first_halt given_places stream_of short pairs unlike alone times value_lines head_lines end_lines over_both compared comparison from_dump outermost within within_dump within_open within_close within_head edge_text edges_in sampled strobe strobe_dump strobe_head strobe_open
model = tt
