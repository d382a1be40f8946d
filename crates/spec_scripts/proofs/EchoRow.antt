-- The definitions' own run of the echo script is the row that is known for it: the checker computes it.
use Rattle.std.proofs.Common.{◌≡◌, [], Ok, refl}
use Rattle.std.specs.Prelude.{codes}
use Rattle.std.specs.Fmt.{digits}
use Rattle.line_reader.specs.Words.{attach_line, await_line, call_line, create_line, end_line, open_line, return_line, serve_line}
use Rattle.line_forms.specs.Words.{keyword_create_to_info, keyword_getn_to_end, keyword_getparam_to_detach, keyword_open_to_get}
use Rattle.script_lang.specs.Words.{ScriptValue, line_read, line_spelling, parse_result, procedure_item, process_item, tables_of_lines, thread_item}
use Rattle.spec_kernel.specs.Words.{step}
use Rattle.spec_requests.specs.Words.{end_line_of, greatest_data, line_of, trace_text}
use Rattle.spec_scripts.specs.WorkedRuns.{echo_script, echo_trace, text_of_play, PlaysAs}
use Rattle.spec_scripts.specs.ScriptRuns.{run, turns_of_play, refusal}
use Rattle.spec_scripts.proofs.EchoScripts.{echo_with}

abbrev echo_value : ScriptValue
echo_value = echo_with 100000 (codes "path") 4096 []

echo_reading : parse_result echo_script ≡ Ok echo_value
unfolding parse_result line_read line_spelling tables_of_lines process_item thread_item procedure_item keyword_create_to_info keyword_getparam_to_detach keyword_open_to_get keyword_getn_to_end create_line attach_line serve_line return_line await_line open_line call_line end_line digits
echo_reading = refl

echo_play : text_of_play echo_value ≡ echo_trace
unfolding turns_of_play refusal run step trace_text line_of end_line_of digits greatest_data
echo_play = refl

pub echo_row : PlaysAs echo_script echo_trace
echo_row = record { script = echo_value; spelled = echo_reading; trace = echo_play }
