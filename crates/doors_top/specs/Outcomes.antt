-- What each command answers and writes, as a function of its words and of what was read.
use Rattle.std.specs.Prelude.{ℕ, ◌≡◌, ◌≤◌, List, [], ◌∷◌, ◌++◌, ◌||◌, Option, Some, None, Result, Ok, Err, Bool, false, bytes_eq, codes, decimal, map}
use Rattle.std.specs.Borrow.{Bor}
use Rattle.spec_kernel.specs.Types.{Tid}
use Rattle.doors_top.specs.declared.status.Status.{Status}
use Rattle.doors_top.specs.declared.status.Status.TheVariants as status
use Rattle.dk_base.specs.declared.reading.ReadText.{ReadText}
use Rattle.dk_base.specs.declared.reading.ReadText.TheVariants.{Whole, TooLong}
use Rattle.doors_top.specs.declared.script_in.TheConstants.{SCRIPT_LIMIT}
use Rattle.dk_base.specs.Input.{text_within_limit}
use Rattle.doors_top.specs.Status.{status_of_ending, status_of_verdict}
use Rattle.line_forms.specs.declared.reason.Reason.TheVariants.{Size, Trace}
use Rattle.spec_requests.specs.Types.{Bad}
use Rattle.script_lang.specs.Words.{ScriptValue, bad_line, bad_text, canonical_text, parse_result}
use Rattle.spec_requests.specs.Words.{refused_text, tail_text}
use Rattle.load_gen.specs.declared.load_script.TheConstants.{CALLS_MAX}
use Rattle.load_gen.specs.Words.{load_script, summary_of}
use Rattle.spec_scripts.specs.Words.{History, Refusal, ending_of, refusal, run, text_of_history, turns_before, turns_of_play}
use Rattle.spec_traces.specs.declared.verdict.Verdict.{Verdict}
use Rattle.spec_traces.specs.Words.{line_after_last, script_part, trace_part, verdict, verdict_text}

-- the words of the command line

abbrev pub text_of_word : Bor (List ℕ) → List ℕ
text_of_word word = word.now

abbrev pub texts : List (Bor (List ℕ)) → List (List ℕ)
texts words = map text_of_word words

-- the words are exactly this one
abbrev pub is_only : List ℕ → List (List ℕ) → Bool
is_only word [] = false
is_only word (first ∷ []) = bytes_eq first word
is_only word (first ∷ second ∷ others) = false

abbrev pub is_play : List (List ℕ) → Bool
is_play words = is_only (codes "play") words

abbrev pub is_show : List (List ℕ) → Bool
is_show words = is_only (codes "show") words

abbrev pub is_check : List (List ℕ) → Bool
is_check words = is_only (codes "check") words

abbrev pub is_run : List (List ℕ) → Bool
is_run words = is_only (codes "run") words

-- the words are a command that reads an input
abbrev pub is_reader : List (List ℕ) → Bool
is_reader words = is_play words || is_run words || is_show words || is_check words

-- the words are `load` and a number of calls from 1 to CALLS_MAX, in decimal
pub record IsLoad (words : List (List ℕ)) (n : ℕ) : Type 0 where
  pub are : words ≡ codes "load" ∷ decimal n ∷ []
  pub least : 1 ≤ n
  pub most : n ≤ CALLS_MAX

-- the words are no command
pub record IsNoCommand (words : List (List ℕ)) : Type 0 where
  pub no_reader : is_reader words ≡ false
  pub no_load : (n : ℕ) → IsLoad words n → ⊥

-- an answer with the text that was written
pub record Outcome : Type 0 where
  pub status : Status
  pub text : List ℕ

abbrev pub outcome_with : Status → List ℕ → Outcome
outcome_with status text = record { status = status; text = text }

abbrev pub usage : Outcome
usage = record { status = status.Usage; text = codes "usage: doors play|run|show|check|load N\n" }

-- the script that was read, or what is bad: more bytes than a script may have are bad as a whole
abbrev pub script_of_input : ReadText → Result ScriptValue Bad
script_of_input (Whole bytes) = parse_result bytes
script_of_input TooLong = Err (bad_line 0 Size)

abbrev pub outcome_of_bad : Bad → Outcome
outcome_of_bad bad = record { status = status.Script; text = bad_text bad }

-- the run that `play` makes of a script whose schedule is not refused
abbrev pub run_of_play : ScriptValue → History
run_of_play script = run script (turns_of_play script)

-- the run of the turns before a refused one
abbrev pub run_before : ScriptValue → Refusal → History
run_before script refused = run script (turns_before script refused)

abbrev pub refused_thread : Refusal → Tid
refused_thread refused = record { 0 = refused.thread }

-- the schedule is refused at a turn, or its turns are taken and then the least runnable thread's
abbrev pub outcome_of_turns : ScriptValue → Option Refusal → Outcome
outcome_of_turns script None =
    record {
      status = status_of_ending (ending_of (run_of_play script).state);
      text = text_of_history script (run_of_play script);
    }
outcome_of_turns script (Some refused) =
    record {
      status = status.Turn;
      text = refused_text script (run_before script refused).events refused.turn (refused_thread refused);
    }

abbrev pub outcome_of_played : Result ScriptValue Bad → Outcome
outcome_of_played (Ok script) = outcome_of_turns script (refusal script)
outcome_of_played (Err bad) = outcome_of_bad bad

-- what `play` makes of what was read: the text of the run of the script, or its first bad line
abbrev pub outcome_of_play : ReadText → Outcome
outcome_of_play read = outcome_of_played (script_of_input read)

-- what `load` makes of its number of calls: the line that tells of the run that `play` makes of the script of that load
abbrev pub outcome_of_load : ℕ → Outcome
outcome_of_load n =
    record {
      status = status_of_ending (ending_of (run_of_play (load_script n)).state);
      text = summary_of n (run_of_play (load_script n)) ++ codes "\n";
    }

-- what is answered and written of the run of these turns, with this number in the line `tail N`
abbrev pub outcome_of_run : ScriptValue → List ℕ → ℕ → Outcome
outcome_of_run script turns tail =
    record {
      status = status_of_ending (ending_of (run script turns).state);
      text = text_of_history script (run script turns) ++ tail_text (Some tail);
    }

abbrev pub outcome_of_shown : Result ScriptValue Bad → Outcome
outcome_of_shown (Ok script) = record { status = status.Complete; text = canonical_text script }
outcome_of_shown (Err bad) = outcome_of_bad bad

-- what `show` makes of what was read: the canonical text of the script, or its first bad line
abbrev pub outcome_of_show : ReadText → Outcome
outcome_of_show read = outcome_of_shown (script_of_input read)

-- the script that a part of an input spells, which may have as many bytes as a script
abbrev pub script_of_part : List ℕ → Result ScriptValue Bad
script_of_part text = script_of_input (text_within_limit text SCRIPT_LIMIT)

abbrev pub outcome_of_verdict : Verdict → Outcome
outcome_of_verdict found = record { status = status_of_verdict found; text = verdict_text found }

-- no line `trace` follows the script: the line is one past the last
abbrev pub outcome_of_trace : ScriptValue → List ℕ → Option (List ℕ) → Outcome
outcome_of_trace script text None = outcome_of_bad (bad_line (line_after_last text) Trace)
outcome_of_trace script text (Some trace) = outcome_of_verdict (verdict script trace)

abbrev pub outcome_of_parsed : Result ScriptValue Bad → List ℕ → Option (List ℕ) → Outcome
outcome_of_parsed (Ok script) text trace = outcome_of_trace script text trace
outcome_of_parsed (Err bad) text trace = outcome_of_bad bad

-- of the script part of an input, and of the trace after it, if there is one
abbrev pub outcome_of_parts : List ℕ → Option (List ℕ) → Outcome
outcome_of_parts text trace = outcome_of_parsed (script_of_part text) text trace

-- what `check` makes of what was read: the verdict on the trace that follows the script, or what is bad of the script part
abbrev pub outcome_of_check : ReadText → Outcome
outcome_of_check (Whole input) = outcome_of_parts (script_part input) (trace_part input)
outcome_of_check TooLong = outcome_of_bad (bad_line 0 Size)
