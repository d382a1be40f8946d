-- Texts by the definitions.
use Rattle.std.proofs.Common.{◌≡◌, [], ◌∷◌, Some, refl, codes}
use Rattle.std.specs.Fmt.{digits}
use Rattle.line_text.specs.Words.{text_of_lines}
use Rattle.line_forms.specs.declared.reason.Reason.TheVariants.{Header, Word, Form, Range, Twice, Body, Open, Unknown}
use Rattle.script_lang.specs.Parsing.{parse_result, first_bad_line, bad_line, line_read, line_spelling, canonical_of_text}
use Rattle.script_lang.specs.Canonical.{canonical_text}
use Rattle.script_lang.specs.TextTables.{tables_of_lines}
use Rattle.script_lang.specs.Items.{budget_item, child_item, process_item, spare_item, thread_item}
use Rattle.line_forms.specs.Words.{keyword_create_to_info, keyword_getn_to_end, keyword_getparam_to_detach, keyword_open_to_get, keyword_since_2}
use Rattle.line_reader.specs.Words.{advance_line, create_line, end_line, fork_line, ncd_line, repeat_line, return_line, send_line, tcreate_line, tdelete_line, tset_line}

pub empty_input : first_bad_line [] ≡ Some (bad_line 1 Header)
unfolding first_bad_line parse_result
empty_input = refl

pub bad_range : first_bad_line (text_of_lines (codes "doors script 1" ∷ codes "budget 0" ∷ [])) ≡ Some (bad_line 2 Range)
unfolding first_bad_line parse_result line_read line_spelling budget_item digits
bad_range = refl

pub bad_twice : first_bad_line (text_of_lines (codes "doors script 1" ∷ codes "process a" ∷ codes "process a" ∷ [])) ≡ Some (bad_line 3 Twice)
unfolding first_bad_line parse_result line_read line_spelling process_item digits
bad_twice = refl

pub bad_open : first_bad_line (text_of_lines (codes "doors script 1" ∷ codes "process a" ∷ codes "thread t" ∷ [])) ≡ Some (bad_line 4 Open)
unfolding first_bad_line parse_result line_read line_spelling process_item thread_item digits
bad_open = refl

pub bad_body : first_bad_line (text_of_lines (codes "doors script 1" ∷ codes "process a" ∷ codes "thread t" ∷ codes "repeat 2" ∷ codes "end" ∷ codes "end" ∷ [])) ≡ Some (bad_line 5 Body)
unfolding first_bad_line parse_result line_read line_spelling process_item thread_item keyword_create_to_info keyword_getparam_to_detach keyword_open_to_get keyword_getn_to_end repeat_line end_line digits
bad_body = refl

pub bad_unknown : first_bad_line (text_of_lines (codes "doors script 1" ∷ codes "process a" ∷ codes "thread t" ∷ codes "create d nope 0" ∷ codes "end" ∷ [])) ≡ Some (bad_line 4 Unknown)
unfolding first_bad_line parse_result line_read line_spelling tables_of_lines process_item thread_item keyword_create_to_info keyword_getparam_to_detach keyword_open_to_get keyword_getn_to_end create_line end_line digits
bad_unknown = refl

pub show_row : canonical_of_text (text_of_lines (codes "doors script 1" ∷ [] ∷ codes "process  a" ∷ codes "thread t" ∷ codes " send 3 1 2" ∷ codes " return \"\\x41\\x0a\" + $v desc $d.0!" ∷ codes "end" ∷ []))
    ≡ Some (text_of_lines (codes "doors script 1" ∷ codes "budget 100000" ∷ codes "process a limit 256" ∷ codes "thread t" ∷ codes "send 3 1 2" ∷ codes "return \"A\\x0a\" + $v desc $d!" ∷ codes "end" ∷ []))
unfolding canonical_of_text parse_result canonical_text line_read line_spelling tables_of_lines process_item thread_item keyword_create_to_info keyword_getparam_to_detach keyword_open_to_get keyword_getn_to_end send_line return_line end_line digits
show_row = refl

-- children

pub child_in_version_1 : first_bad_line (text_of_lines (codes "doors script 1" ∷ codes "process a" ∷ codes "child k of a" ∷ [])) ≡ Some (bad_line 3 Word)
unfolding first_bad_line parse_result line_read line_spelling digits process_item
child_in_version_1 = refl

pub fork_in_version_1 : first_bad_line (text_of_lines (codes "doors script 1" ∷ codes "process a" ∷ codes "thread t" ∷ codes "fork k" ∷ codes "end" ∷ [])) ≡ Some (bad_line 4 Word)
unfolding first_bad_line parse_result line_read line_spelling digits process_item thread_item keyword_create_to_info keyword_getparam_to_detach keyword_open_to_get keyword_getn_to_end keyword_since_2
fork_in_version_1 = refl

pub version_5 : first_bad_line (text_of_lines (codes "doors script 5" ∷ [])) ≡ Some (bad_line 1 Header)
unfolding first_bad_line parse_result line_read line_spelling digits
version_5 = refl

pub child_of_none : first_bad_line (text_of_lines (codes "doors script 2" ∷ codes "process a" ∷ codes "child k" ∷ [])) ≡ Some (bad_line 3 Form)
unfolding first_bad_line parse_result line_read line_spelling tables_of_lines digits process_item child_item
child_of_none = refl

pub limited_child : first_bad_line (text_of_lines (codes "doors script 2" ∷ codes "process a" ∷ codes "child k of a limit 3" ∷ [])) ≡ Some (bad_line 3 Form)
unfolding first_bad_line parse_result line_read line_spelling tables_of_lines digits process_item child_item
limited_child = refl

pub declared_before : first_bad_line (text_of_lines (codes "doors script 2" ∷ codes "process a" ∷ codes "child a of a" ∷ [])) ≡ Some (bad_line 3 Twice)
unfolding first_bad_line parse_result line_read line_spelling tables_of_lines digits process_item child_item
declared_before = refl

pub child_of_itself : first_bad_line (text_of_lines (codes "doors script 2" ∷ codes "process a" ∷ codes "child k of k" ∷ [])) ≡ Some (bad_line 3 Unknown)
unfolding first_bad_line parse_result line_read line_spelling tables_of_lines digits process_item child_item
child_of_itself = refl

pub child_of_a_later_one : first_bad_line (text_of_lines (codes "doors script 2" ∷ codes "child k of a" ∷ codes "process a" ∷ [])) ≡ Some (bad_line 2 Unknown)
unfolding first_bad_line parse_result line_read line_spelling tables_of_lines digits process_item child_item
child_of_a_later_one = refl

pub fork_of_no_child : first_bad_line (text_of_lines (codes "doors script 2" ∷ codes "process a" ∷ codes "thread t" ∷ codes "fork a" ∷ codes "end" ∷ [])) ≡ Some (bad_line 4 Unknown)
unfolding first_bad_line parse_result line_read line_spelling tables_of_lines digits process_item thread_item child_item keyword_create_to_info keyword_getparam_to_detach keyword_open_to_get keyword_getn_to_end keyword_since_2 fork_line end_line
fork_of_no_child = refl

pub fork_of_anothers_child : first_bad_line (text_of_lines (codes "doors script 2" ∷ codes "process a" ∷ codes "process b" ∷ codes "thread t" ∷ codes "fork k" ∷ codes "end" ∷ codes "child k of a" ∷ [])) ≡ Some (bad_line 5 Unknown)
unfolding first_bad_line parse_result line_read line_spelling tables_of_lines digits process_item thread_item child_item keyword_create_to_info keyword_getparam_to_detach keyword_open_to_get keyword_getn_to_end keyword_since_2 fork_line end_line
fork_of_anothers_child = refl

pub show_children : canonical_of_text (text_of_lines (codes "doors script 2" ∷ codes "process a limit 9" ∷ codes "thread t" ∷ codes "  fork   k" ∷ codes "end" ∷ codes "child k  of a" ∷ codes "child g of k" ∷ codes "spare s" ∷ []))
    ≡ Some (text_of_lines (codes "doors script 2" ∷ codes "budget 100000" ∷ codes "process a limit 9" ∷ codes "thread t" ∷ codes "fork k" ∷ codes "end" ∷ codes "child k of a" ∷ codes "child g of k" ∷ codes "spare s" ∷ []))
unfolding canonical_of_text parse_result canonical_text line_read line_spelling tables_of_lines digits process_item thread_item child_item keyword_create_to_info keyword_getparam_to_detach keyword_open_to_get keyword_getn_to_end keyword_since_2 fork_line end_line spare_item
show_children = refl

-- timers and the cache

pub timer_in_version_2 : first_bad_line (text_of_lines (codes "doors script 2" ∷ codes "process a" ∷ codes "thread t" ∷ codes "tcreate 0 1" ∷ codes "end" ∷ [])) ≡ Some (bad_line 4 Word)
unfolding first_bad_line parse_result line_read line_spelling tables_of_lines digits process_item thread_item keyword_create_to_info keyword_getparam_to_detach keyword_open_to_get keyword_getn_to_end keyword_since_2 end_line
timer_in_version_2 = refl

pub arming_in_version_2 : first_bad_line (text_of_lines (codes "doors script 2" ∷ codes "process a" ∷ codes "thread t" ∷ codes "tset 0 1 0" ∷ codes "end" ∷ [])) ≡ Some (bad_line 4 Word)
unfolding first_bad_line parse_result line_read line_spelling tables_of_lines digits process_item thread_item keyword_create_to_info keyword_getparam_to_detach keyword_open_to_get keyword_getn_to_end keyword_since_2 end_line
arming_in_version_2 = refl

pub deletion_in_version_1 : first_bad_line (text_of_lines (codes "doors script 1" ∷ codes "process a" ∷ codes "thread t" ∷ codes "tdelete 0" ∷ codes "end" ∷ [])) ≡ Some (bad_line 4 Word)
unfolding first_bad_line parse_result line_read line_spelling tables_of_lines digits process_item thread_item keyword_create_to_info keyword_getparam_to_detach keyword_open_to_get keyword_getn_to_end keyword_since_2 end_line
deletion_in_version_1 = refl

pub advance_in_version_1 : first_bad_line (text_of_lines (codes "doors script 1" ∷ codes "process a" ∷ codes "thread t" ∷ codes "advance 1" ∷ codes "end" ∷ [])) ≡ Some (bad_line 4 Word)
unfolding first_bad_line parse_result line_read line_spelling tables_of_lines digits process_item thread_item keyword_create_to_info keyword_getparam_to_detach keyword_open_to_get keyword_getn_to_end keyword_since_2 end_line
advance_in_version_1 = refl

pub cache_in_version_3 : first_bad_line (text_of_lines (codes "doors script 3" ∷ codes "process a" ∷ codes "thread t" ∷ codes "ncd v \"stat\"" ∷ codes "end" ∷ [])) ≡ Some (bad_line 4 Word)
unfolding first_bad_line parse_result line_read line_spelling tables_of_lines digits process_item thread_item keyword_create_to_info keyword_getparam_to_detach keyword_open_to_get keyword_getn_to_end keyword_since_2 end_line
cache_in_version_3 = refl

pub timer_above_31 : first_bad_line (text_of_lines (codes "doors script 3" ∷ codes "process a" ∷ codes "thread t" ∷ codes "tset 32 1 0" ∷ codes "end" ∷ [])) ≡ Some (bad_line 4 Range)
unfolding first_bad_line parse_result line_read line_spelling tables_of_lines digits process_item thread_item keyword_create_to_info keyword_getparam_to_detach keyword_open_to_get keyword_getn_to_end keyword_since_2 tset_line end_line
timer_above_31 = refl

pub delay_above_the_greatest : first_bad_line (text_of_lines (codes "doors script 3" ∷ codes "process a" ∷ codes "thread t" ∷ codes "tset 0 1000000001 0" ∷ codes "end" ∷ [])) ≡ Some (bad_line 4 Range)
unfolding first_bad_line parse_result line_read line_spelling tables_of_lines digits process_item thread_item keyword_create_to_info keyword_getparam_to_detach keyword_open_to_get keyword_getn_to_end keyword_since_2 tset_line end_line
delay_above_the_greatest = refl

pub interval_above_the_greatest : first_bad_line (text_of_lines (codes "doors script 3" ∷ codes "process a" ∷ codes "thread t" ∷ codes "tset 0 0 1000000001" ∷ codes "end" ∷ [])) ≡ Some (bad_line 4 Range)
unfolding first_bad_line parse_result line_read line_spelling tables_of_lines digits process_item thread_item keyword_create_to_info keyword_getparam_to_detach keyword_open_to_get keyword_getn_to_end keyword_since_2 tset_line end_line
interval_above_the_greatest = refl

pub advance_by_nothing : first_bad_line (text_of_lines (codes "doors script 3" ∷ codes "process a" ∷ codes "thread t" ∷ codes "advance 0" ∷ codes "end" ∷ [])) ≡ Some (bad_line 4 Range)
unfolding first_bad_line parse_result line_read line_spelling tables_of_lines digits process_item thread_item keyword_create_to_info keyword_getparam_to_detach keyword_open_to_get keyword_getn_to_end keyword_since_2 advance_line end_line
advance_by_nothing = refl

pub advance_by_too_much : first_bad_line (text_of_lines (codes "doors script 3" ∷ codes "process a" ∷ codes "thread t" ∷ codes "advance 10001" ∷ codes "end" ∷ [])) ≡ Some (bad_line 4 Range)
unfolding first_bad_line parse_result line_read line_spelling tables_of_lines digits process_item thread_item keyword_create_to_info keyword_getparam_to_detach keyword_open_to_get keyword_getn_to_end keyword_since_2 advance_line end_line
advance_by_too_much = refl

pub arming_without_interval : first_bad_line (text_of_lines (codes "doors script 3" ∷ codes "process a" ∷ codes "thread t" ∷ codes "tset 0 1" ∷ codes "end" ∷ [])) ≡ Some (bad_line 4 Form)
unfolding first_bad_line parse_result line_read line_spelling tables_of_lines digits process_item thread_item keyword_create_to_info keyword_getparam_to_detach keyword_open_to_get keyword_getn_to_end keyword_since_2 tset_line end_line
arming_without_interval = refl

pub cache_without_line : first_bad_line (text_of_lines (codes "doors script 4" ∷ codes "process a" ∷ codes "thread t" ∷ codes "ncd v" ∷ codes "end" ∷ [])) ≡ Some (bad_line 4 Form)
unfolding first_bad_line parse_result line_read line_spelling tables_of_lines digits process_item thread_item keyword_create_to_info keyword_getparam_to_detach keyword_open_to_get keyword_getn_to_end keyword_since_2 ncd_line end_line
cache_without_line = refl

pub show_timers : canonical_of_text (text_of_lines (codes "doors script 4" ∷ codes "process a" ∷ codes "thread t" ∷ codes " tcreate  $p.0 7" ∷ codes "tset 31 1000000000 0" ∷ codes "tdelete   31" ∷ codes "advance 10000 " ∷ codes "ncd v \"get \" + $k" ∷ codes "end" ∷ []))
    ≡ Some (text_of_lines (codes "doors script 4" ∷ codes "budget 100000" ∷ codes "process a limit 256" ∷ codes "thread t" ∷ codes "tcreate $p 7" ∷ codes "tset 31 1000000000 0" ∷ codes "tdelete 31" ∷ codes "advance 10000" ∷ codes "ncd v \"get \" + $k" ∷ codes "end" ∷ []))
unfolding canonical_of_text parse_result canonical_text line_read line_spelling tables_of_lines digits process_item thread_item keyword_create_to_info keyword_getparam_to_detach keyword_open_to_get keyword_getn_to_end keyword_since_2 tcreate_line tset_line tdelete_line advance_line ncd_line end_line
show_timers = refl
