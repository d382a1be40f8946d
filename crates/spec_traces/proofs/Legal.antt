-- Traces of legal runs, by their lines.
use Rattle.std.proofs.Common.{◌≡◌, inl, ℕ, ◌+◌, ◌<◌, ◌≤◌, ◌^◌, List, ◌∷◌, ◌++◌, length, Option, None, Some, sym, ap, ◌∙◌, subst, arith, append-nil, zero-add}
use Rattle.std.specs.Prelude.{IfSome, filter_map, map}
use Rattle.std.proofs.lemmas.List.Elements.{All-weaker}
use Rattle.line_text.specs.Words.{lines_of, text_of_lines}
use Rattle.script_lang.specs.Words.{ScriptValue, spells}
use Rattle.spec_requests.specs.DeclaredNames.{IsDeclaredEvent}
use Rattle.spec_requests.specs.Words.{second_word, tail_text, thread_named}
use Rattle.spec_requests.proofs.SoundScripts.{sound-spelled}
use Rattle.spec_scripts.specs.Words.{IsAllowed, IsWholePlay, first_history, refusal, run, text_of_history, threads_of_events, turns_of_play}
use Rattle.spec_scripts.proofs.RunTurns.{run-declared}
use Rattle.spec_scripts.proofs.Plays.{whole-play}
use Rattle.spec_traces.specs.declared.verdict.Verdict.TheVariants.{Legal}
use Rattle.spec_traces.specs.LegalTraces.{IsLegal, IsTextOf, IsTrace}
use Rattle.spec_traces.specs.Turns.{HasReadableLine, turn_words, turns_in}
use Rattle.spec_traces.specs.Verdicts.{end_line_after, verdict, verdict_from}
use Rattle.spec_traces.proofs.EventLines.{is_event_line}
use Rattle.spec_traces.proofs.TextOfLines.{text_of_its_lines}
use Rattle.spec_traces.proofs.TraceLines.{AreReadable, event_lines_of_trace, events-run, events_from, lines_of_events, lines_of_trace, lines_of_trace_text, tail_lines, text_of_trace, threads-events_from, threads_of_words, words_of_lines}
use Rattle.spec_traces.proofs.Walks.{IsWalked, walked, walked_again}

-- the lines of a run of a spelled script can be read
pub readable_run : (source : List ℕ) (script : ScriptValue) (ts : List ℕ) → spells source script → IsAllowed script ts → AreReadable script (run script ts).events
readable_run source script ts s allowed =
    All-weaker (IsDeclaredEvent script) (HasReadableLine script) (is_event_line source script s) (run script ts).events
    (run-declared script ts (sound-spelled source script s) allowed).events

pub threads_of_run : (script : ScriptValue) (ts : List ℕ) → threads_of_events (run script ts).events ≡ ts
threads_of_run script ts = ap threads_of_events (events-run script ts) ∙ threads-events_from script ts (first_history script)

-- the words of a text that is the trace of a run
pub words_of_trace : (source : List ℕ) (script : ScriptValue) (ts : List ℕ) (tail : Option ℕ) (text : List ℕ) → spells source script → IsAllowed script ts
    → IsTextOf (text_of_history script (run script ts) ++ tail_text tail) text → map (thread_named script) (turn_words text) ≡ map Some ts
words_of_trace source script ts tail text s allowed is =
    let all : AreReadable script (run script ts).events = readable_run source script ts s allowed in
    let lines : lines_of text ≡ lines_of_trace script (run script ts) tail = lines_of_trace_text source script (run script ts) tail text s all is in
    ap (λ lines. map (thread_named script) (filter_map second_word lines)) (event_lines_of_trace script (run script ts) tail text all lines)
    ∙ words_of_lines script (run script ts).events all
    ∙ ap (map Some) (threads_of_run script ts)

pub turns_of_trace : (source : List ℕ) (script : ScriptValue) (ts : List ℕ) (tail : Option ℕ) (text : List ℕ) → spells source script → IsAllowed script ts
    → IsTextOf (text_of_history script (run script ts) ++ tail_text tail) text → turns_in script text ≡ ts
unfolding turns_in
turns_of_trace source script ts tail text s allowed is = threads_of_words script (turn_words text) ts (words_of_trace source script ts tail text s allowed is)

-- the text of a run itself
pub turns_of_run : (source : List ℕ) (script : ScriptValue) (ts : List ℕ) → spells source script → IsAllowed script ts → turns_in script (text_of_history script (run script ts)) ≡ ts
turns_of_run source script ts s allowed =
    turns_of_trace source script ts None (text_of_history script (run script ts)) s allowed (inl (sym (append-nil (text_of_history script (run script ts)))))

pub one_run : (source : List ℕ) (script : ScriptValue) (trace ts us : List ℕ) → spells source script → IsTrace script trace ts → IsTrace script trace us → ts ≡ us
one_run source script trace ts us s first second =
    sym (turns_of_trace source script ts first.tail trace s first.allowed first.written)
    ∙ turns_of_trace source script us second.tail trace s second.allowed second.written

-- the verdict

pub small_budget : (source : List ℕ) (script : ScriptValue) → spells source script → script.budget < 2 ^ 64
small_budget source script s = let small : script.budget ≤ 100000 = (sound-spelled source script s).small_budget in omega arith

legal_of : (script : ScriptValue) (trace : List ℕ) (n : ℕ) → IsWalked script (first_history script) (lines_of trace) n → IsLegal script trace n
unfolding run
legal_of script trace n is =
    let zero_first : 0 + length is.turns ≡ length is.turns = zero-add (length is.turns) in
    let count : length is.turns ≡ n = sym zero_first ∙ is.count in
    let lines : lines_of trace ≡ lines_of_trace script (run script is.turns) is.tail =
    is.all ∙ ap (λ events. lines_of_events script events ++ end_line_after script (run script is.turns) ∷ tail_lines is.tail) (sym (events-run script is.turns)) in
    let text : text_of_lines (lines_of trace) ≡ text_of_history script (run script is.turns) ++ tail_text is.tail =
    ap text_of_lines lines ∙ sym (text_of_trace script (run script is.turns) is.tail) in
    record {
      turns = is.turns;
      is_trace = record {
        allowed = record { runnable = is.runnable; within = rw count is.within };
        over = is.over;
        tail = is.tail;
        small = subst (λ (m : ℕ). IfSome is.tail (λ k. k ≤ m)) (sym count) is.small;
        written = subst (λ whole. IsTextOf whole trace) text (text_of_its_lines trace);
      };
      count = count;
    }

-- where the verdict is legal, the text is the trace of a legal run
pub legal_found : (source : List ℕ) (script : ScriptValue) (trace : List ℕ) (n : ℕ) → spells source script → verdict script trace ≡ Legal n → IsLegal script trace n
unfolding verdict
legal_found source script trace n s e =
    legal_of script trace n (walked script (lines_of trace) (first_history script) n (small_budget source script s) (omega arith) e)

-- the verdict on the trace of a legal run
pub legal_again : (source : List ℕ) (script : ScriptValue) (trace turns : List ℕ) → spells source script → IsTrace script trace turns → verdict script trace ≡ Legal (length turns)
unfolding verdict run
legal_again source script trace turns s is =
    let all : AreReadable script (run script turns).events = readable_run source script turns s is.allowed in
    let from : AreReadable script (events_from script (first_history script) turns) = subst (AreReadable script) (events-run script turns) all in
    let lines : lines_of trace ≡ lines_of_events script (events_from script (first_history script) turns) ++ end_line_after script (run script turns) ∷ tail_lines is.tail =
    lines_of_trace_text source script (run script turns) is.tail trace s all is.written
    ∙ ap (λ events. lines_of_events script events ++ end_line_after script (run script turns) ∷ tail_lines is.tail) (events-run script turns) in
    let count : 0 + length turns ≡ length turns = zero-add (length turns) in
    ap (verdict_from script (first_history script)) lines
    ∙ walked_again script turns (first_history script) is.tail (small_budget source script s) from is.allowed.runnable (rw count is.allowed.within) is.over
    (subst (λ (m : ℕ). IfSome is.tail (λ k. k ≤ m)) (sym count) is.small)
    ∙ ap Legal count

-- what `play` makes
pub played_trace : (script : ScriptValue) → refusal script ≡ None → IsTrace script (text_of_history script (run script (turns_of_play script))) (turns_of_play script)
played_trace script none =
    let whole : IsWholePlay script (turns_of_play script) = whole-play script none in
    record {
      allowed = whole.allowed;
      over = whole.over;
      tail = None;
      small = tt;
      written = inl (sym (append-nil (text_of_history script (run script (turns_of_play script)))));
    }
