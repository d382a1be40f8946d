-- The lines of the text of a run, and the events that turns make.
use Rattle.std.proofs.Common.{◌≡◌, ℕ, true, List, [], ◌∷◌, ◌++◌, length, Option, Some, None, refl, sym, ap, ◌∙◌, subst, append-nil, append_assoc}
use Rattle.std.specs.Prelude.{All, codes, decimal, map, option_and_then, filter, filter_map}
use Rattle.std.specs.List.{list_all}
use Rattle.std.proofs.lemmas.Bool.{and_from}
use Rattle.std.proofs.lemmas.List.Elements.{All-head, All-tail}
use Rattle.std.proofs.lemmas.List.Folds.{list_all-append}
use Rattle.line_text.specs.Words.{is_one_line, lines_of, text_of_lines}
use Rattle.line_text.proofs.TextLines.{text_of_lines-append}
use Rattle.script_lang.specs.Words.{ScriptValue, spells}
use Rattle.spec_requests.specs.Types.{Event}
use Rattle.spec_requests.specs.Words.{end_line_of, line_of, lines_text, second_word, tail_text, thread_named, trace_text}
use Rattle.spec_kernel.specs.Words.{waiting_threads}
use Rattle.spec_scripts.specs.Words.{History, ending_of, event_at_turn, first_history, history_after, run, run_from, text_of_history, threads_of_events}
use Rattle.spec_traces.specs.LegalTraces.{IsTextOf}
use Rattle.spec_traces.specs.Turns.{HasReadableLine, begins_with_digit, event_lines}
use Rattle.spec_traces.specs.Verdicts.{end_line_after}
use Rattle.spec_traces.proofs.EventLines.{end_line_no_digit}
use Rattle.spec_traces.proofs.LineFeeds.{end_line_is_one, tail_line_is_one}
use Rattle.spec_traces.proofs.TextOfLines.{lines_of_text}

-- the events that these turns make after a history
abbrev pub events_from : ScriptValue → History → List ℕ → List Event
events_from script h [] = []
events_from script h (t ∷ ts) = event_at_turn script h t ∷ events_from script (history_after script h t) ts

pub events-run_from : (script : ScriptValue) (ts : List ℕ) (h : History) → (run_from script h ts).events ≡ h.events ++ events_from script h ts
events-run_from script [] h = sym (append-nil h.events)
events-run_from script (t ∷ ts) h =
    events-run_from script ts (history_after script h t)
    ∙ append_assoc h.events (event_at_turn script h t ∷ []) (events_from script (history_after script h t) ts)

pub events-run : (script : ScriptValue) (ts : List ℕ) → (run script ts).events ≡ events_from script (first_history script) ts
unfolding run
events-run script ts = events-run_from script ts (first_history script)

-- of turns in two parts
pub events_from-append : (script : ScriptValue) (ts us : List ℕ) (h : History) → events_from script h (ts ++ us) ≡ events_from script h ts ++ events_from script (run_from script h ts) us
events_from-append script [] us h = refl
events_from-append script (t ∷ ts) us h =
    ap (λ events. event_at_turn script h t ∷ events) (events_from-append script ts us (history_after script h t))

pub threads-events_from : (script : ScriptValue) (ts : List ℕ) (h : History) → threads_of_events (events_from script h ts) ≡ ts
threads-events_from script [] h = refl
threads-events_from script (t ∷ ts) h = ap (λ us. t ∷ us) (threads-events_from script ts (history_after script h t))

-- the lines of these events
abbrev pub lines_of_events : ScriptValue → List Event → List (List ℕ)
lines_of_events script events = map (line_of script) events

pub text_of_lines-events : (script : ScriptValue) (events : List Event) → lines_text script events ≡ text_of_lines (lines_of_events script events)
text_of_lines-events script [] = refl
text_of_lines-events script (e ∷ events) =
    append_assoc (line_of script e) (10 ∷ []) (lines_text script events) ∙ ap (λ rest. line_of script e ++ 10 ∷ rest) (text_of_lines-events script events)

-- the line `tail N`, or none
abbrev pub tail_lines : Option ℕ → List (List ℕ)
tail_lines None = []
tail_lines (Some n) = (codes "tail " ++ decimal n) ∷ []

pub tail_text-lines : (tail : Option ℕ) → tail_text tail ≡ text_of_lines (tail_lines tail)
tail_text-lines None = refl
tail_text-lines (Some n) = sym (append_assoc (codes "tail ") (decimal n) (10 ∷ []))

-- the lines of the trace of a run
abbrev pub lines_of_trace : ScriptValue → History → Option ℕ → List (List ℕ)
lines_of_trace script h tail = lines_of_events script h.events ++ end_line_after script h ∷ tail_lines tail

pub arranged : (front end rest : List ℕ) → ((front ++ end) ++ 10 ∷ []) ++ rest ≡ front ++ (end ++ 10 ∷ rest)
arranged front end rest = append_assoc (front ++ end) (10 ∷ []) rest ∙ append_assoc front end (10 ∷ rest)

pub text_of_trace : (script : ScriptValue) (h : History) (tail : Option ℕ) → text_of_history script h ++ tail_text tail ≡ text_of_lines (lines_of_trace script h tail)
unfolding trace_text
text_of_trace script h tail =
    let events = lines_of_events script h.events in
    let end = end_line_after script h in
    let rest = text_of_lines (tail_lines tail) in
    ap (λ more. text_of_history script h ++ more) (tail_text-lines tail)
    ∙ arranged (lines_text script h.events) end rest
    ∙ ap (λ front. front ++ (end ++ 10 ∷ rest)) (text_of_lines-events script h.events)
    ∙ sym (text_of_lines-append events (end ∷ tail_lines tail))

-- every event's line can be read
abbrev pub AreReadable : ScriptValue → List Event → Type 0
AreReadable script events = All (HasReadableLine script) events

pub one_lines : (script : ScriptValue) (events : List Event) → AreReadable script events → list_all is_one_line (lines_of_events script events) ≡ true
one_lines script [] all = refl
one_lines script (e ∷ events) all =
    and_from _ _ (All-head (HasReadableLine script) e events all).one (one_lines script events (All-tail (HasReadableLine script) e events all))

-- the lines of a text that is the trace of a run

ended_text : (source : List ℕ) (script : ScriptValue) (h : History) (tail : Option ℕ) (text : List ℕ) → spells source script → AreReadable script h.events
    → IsTextOf (text_of_lines (lines_of_trace script h tail)) text → lines_of text ≡ lines_of_trace script h tail
unfolding end_line_of
ended_text source script h None text s all is =
    lines_of_text (lines_of_events script h.events) _ _ text (one_lines script h.events all) (end_line_is_one source script s (ending_of h.state) (length h.events) (waiting_threads h.state)) is
ended_text source script h (Some n) text s all is =
    let events = lines_of_events script h.events in
    let end = end_line_after script h in
    let both : list_all is_one_line (events ++ end ∷ []) ≡ true =
    list_all-append is_one_line events (end ∷ [])
    ∙ and_from _ _ (one_lines script h.events all) (and_from _ _ (end_line_is_one source script s (ending_of h.state) (length h.events) (waiting_threads h.state)) refl) in
    let apart : events ++ end ∷ ((codes "tail " ++ decimal n) ∷ []) ≡ (events ++ end ∷ []) ++ (codes "tail " ++ decimal n) ∷ [] = sym (append_assoc events (end ∷ []) ((codes "tail " ++ decimal n) ∷ [])) in
    lines_of_text (events ++ end ∷ []) _ _ text both (tail_line_is_one n) (subst (λ lines. IsTextOf (text_of_lines lines) text) apart is)
    ∙ sym apart

pub lines_of_trace_text : (source : List ℕ) (script : ScriptValue) (h : History) (tail : Option ℕ) (text : List ℕ) → spells source script → AreReadable script h.events
    → IsTextOf (text_of_history script h ++ tail_text tail) text → lines_of text ≡ lines_of_trace script h tail
lines_of_trace_text source script h tail text s all is =
    ended_text source script h tail text s all (subst (λ whole. IsTextOf whole text) (text_of_trace script h tail) is)

-- the turns that these lines tell

pub digit_lines : (script : ScriptValue) (events : List Event) (rest : List (List ℕ)) → AreReadable script events
    → filter begins_with_digit (lines_of_events script events ++ rest) ≡ lines_of_events script events ++ filter begins_with_digit rest
digit_lines script [] rest all = refl
digit_lines script (e ∷ events) rest all =
    rw (All-head (HasReadableLine script) e events all).digit
    (ap (λ lines. line_of script e ∷ lines) (digit_lines script events rest (All-tail (HasReadableLine script) e events all)))

tail_no_digit : (tail : Option ℕ) → filter begins_with_digit (tail_lines tail) ≡ []
tail_no_digit None = refl
tail_no_digit (Some n) = refl

no_digit_after : (script : ScriptValue) (h : History) (tail : Option ℕ) → filter begins_with_digit (end_line_after script h ∷ tail_lines tail) ≡ []
no_digit_after script h tail = rw (end_line_no_digit script (ending_of h.state) (length h.events) (waiting_threads h.state)) (tail_no_digit tail)

pub event_lines_of_trace : (script : ScriptValue) (h : History) (tail : Option ℕ) (text : List ℕ) → AreReadable script h.events
    → lines_of text ≡ lines_of_trace script h tail → event_lines text ≡ lines_of_events script h.events
event_lines_of_trace script h tail text all e =
    ap (filter begins_with_digit) e
    ∙ digit_lines script h.events (end_line_after script h ∷ tail_lines tail) all
    ∙ ap (λ rest. lines_of_events script h.events ++ rest) (no_digit_after script h tail)
    ∙ append-nil (lines_of_events script h.events)

-- the words of these lines, and the threads that they name

words_with : (script : ScriptValue) (line : List ℕ) (t : ℕ) (o : Option (List ℕ)) (lines : List (List ℕ)) (ts : List ℕ) → second_word line ≡ o → option_and_then (thread_named script) o ≡ Some t
    → map (thread_named script) (filter_map second_word lines) ≡ map Some ts → map (thread_named script) (filter_map second_word (line ∷ lines)) ≡ map Some (t ∷ ts)
words_with script line t None lines ts e named rest = cc
words_with script line t (Some word) lines ts e named rest = rw e (rw named (ap (λ os. Some t ∷ os) rest))

pub words_of_lines : (script : ScriptValue) (events : List Event) → AreReadable script events
    → map (thread_named script) (filter_map second_word (lines_of_events script events)) ≡ map Some (threads_of_events events)
words_of_lines script [] all = refl
words_of_lines script (e ∷ events) all =
    words_with script (line_of script e) e.thread.0 (second_word (line_of script e)) (lines_of_events script events) (threads_of_events events)
    refl
    (All-head (HasReadableLine script) e events all).thread
    (words_of_lines script events (All-tail (HasReadableLine script) e events all))

threads_with : (script : ScriptValue) (word : List ℕ) (t : ℕ) (words : List (List ℕ)) (ts : List ℕ) → thread_named script word ≡ Some t → filter_map (thread_named script) words ≡ ts
    → filter_map (thread_named script) (word ∷ words) ≡ t ∷ ts
threads_with script word t words ts e rest = rw e (ap (λ us. t ∷ us) rest)

-- where each word names a thread, the threads are these
pub threads_of_words : (script : ScriptValue) (words : List (List ℕ)) (ts : List ℕ) → map (thread_named script) words ≡ map Some ts → filter_map (thread_named script) words ≡ ts
threads_of_words script [] [] e = refl
threads_of_words script [] (t ∷ ts) e = cc
threads_of_words script (word ∷ words) [] e = cc
threads_of_words script (word ∷ words) (t ∷ ts) e =
    let first : thread_named script word ≡ Some t = cc in
    let others : map (thread_named script) words ≡ map Some ts = cc in
    threads_with script word t words ts first (threads_of_words script words ts others)
