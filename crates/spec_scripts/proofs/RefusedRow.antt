-- A run that ends before a refused turn.
use Rattle.std.proofs.Common.{◌≡◌, [], ◌∷◌, Ok, refl}
use Rattle.std.specs.Prelude.{codes}
use Rattle.std.specs.Fmt.{digits}
use Rattle.line_reader.specs.Words.{attach_line, await_line, call_line, create_line, end_line, open_line, return_line, serve_line}
use Rattle.line_forms.specs.Words.{keyword_create_to_info, keyword_getn_to_end, keyword_getparam_to_detach, keyword_open_to_get}
use Rattle.script_lang.specs.Words.{ScriptValue, line_read, line_spelling, parse_result, procedure_item, process_item, schedule_item, tables_of_lines, thread_item}
use Rattle.spec_kernel.specs.Words.{step}
use Rattle.spec_requests.specs.Words.{greatest_data, line_of, refused_line_of, refused_text}
use Rattle.spec_scripts.specs.WorkedRuns.{refused_script, refused_trace, text_of_play, PlaysAs}
use Rattle.spec_scripts.specs.ScriptRuns.{run, refusal}
use Rattle.spec_scripts.proofs.EchoScripts.{echo_with}

abbrev refused_value : ScriptValue
refused_value = echo_with 100000 (codes "echo") 4096 (record { 0 = 1 } ∷ record { 0 = 2 } ∷ record { 0 = 2 } ∷ [])

refused_reading : parse_result refused_script ≡ Ok refused_value
unfolding parse_result line_read line_spelling tables_of_lines process_item thread_item procedure_item schedule_item keyword_create_to_info keyword_getparam_to_detach keyword_open_to_get keyword_getn_to_end create_line attach_line serve_line return_line await_line open_line call_line end_line digits
refused_reading = refl

refused_play : text_of_play refused_value ≡ refused_trace
unfolding refusal run step refused_text line_of refused_line_of digits greatest_data
refused_play = refl

pub refused_row : PlaysAs refused_script refused_trace
refused_row = record { script = refused_value; spelled = refused_reading; trace = refused_play }
