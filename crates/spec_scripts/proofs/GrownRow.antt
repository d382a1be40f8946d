-- A call whose results are more than there is room for.
use Rattle.std.proofs.Common.{◌≡◌, [], Ok, refl}
use Rattle.std.specs.Prelude.{codes}
use Rattle.std.specs.Fmt.{digits}
use Rattle.line_reader.specs.Words.{attach_line, await_line, call_line, create_line, end_line, open_line, return_line, serve_line}
use Rattle.line_forms.specs.Words.{keyword_create_to_info, keyword_getn_to_end, keyword_getparam_to_detach, keyword_open_to_get}
use Rattle.script_lang.specs.Words.{ScriptValue, line_read, line_spelling, parse_result, procedure_item, process_item, tables_of_lines, thread_item}
use Rattle.spec_kernel.specs.Words.{step}
use Rattle.spec_requests.specs.Words.{end_line_of, greatest_data, line_of, trace_text}
use Rattle.spec_scripts.specs.WorkedRuns.{grown_script, grown_trace, text_of_play, PlaysAs}
use Rattle.spec_scripts.specs.ScriptRuns.{run, turns_of_play, refusal}
use Rattle.spec_scripts.proofs.EchoScripts.{echo_with}

abbrev grown_value : ScriptValue
grown_value = echo_with 100000 (codes "echo") 1 []

grown_reading : parse_result grown_script ≡ Ok grown_value
unfolding parse_result line_read line_spelling tables_of_lines process_item thread_item procedure_item keyword_create_to_info keyword_getparam_to_detach keyword_open_to_get keyword_getn_to_end create_line attach_line serve_line return_line await_line open_line call_line end_line digits
grown_reading = refl

grown_play : text_of_play grown_value ≡ grown_trace
unfolding turns_of_play refusal run step trace_text line_of end_line_of digits greatest_data
grown_play = refl

pub grown_row : PlaysAs grown_script grown_trace
grown_row = record { script = grown_value; spelled = grown_reading; trace = grown_play }
