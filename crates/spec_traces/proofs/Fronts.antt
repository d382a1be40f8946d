-- A prefix of the text of a run has the whole lines of its first turns, and a part of the next line.
use Rattle.std.proofs.Common.{◌≡◌, ℕ, ◌≤◌, ◌<◌, ◌+◌, ◌⊎◌, inl, inr, not, true, false, List, [], ◌∷◌, ◌++◌, length, Option, Some, None, refl, sym, ap, ◌∙◌, subst, arith, append-nil, append_assoc, length-append}
use Rattle.std.specs.Prelude.{IfSome, codes, decimal, filter, filter_map, map}
use Rattle.std.specs.List.{list_all}
use Rattle.std.proofs.lemmas.Bool.{and_from, not_from_false}
use Rattle.line_text.specs.Words.{is_one_line, lines_of, text_of_lines}
use Rattle.line_text.proofs.TextLines.{lines_of-text_of_lines}
use Rattle.script_lang.specs.Words.{ScriptValue, spells}
use Rattle.spec_requests.specs.Types.{Event}
use Rattle.spec_requests.specs.Words.{line_of, lines_text, second_word, tail_text, thread_named, trace_text}
use Rattle.spec_kernel.specs.Words.{is_runnable, waiting_threads}
use Rattle.spec_scripts.specs.ScriptRuns.{AreRunnableFrom}
use Rattle.spec_scripts.specs.Words.{History, IsAllowed, ending_of, event_at_turn, first_history, history_after, is_over, run, run_from, text_of_history}
use Rattle.spec_scripts.proofs.Histories.{AreRunnableFrom-append, run-append}
use Rattle.spec_scripts.proofs.Plays.{events-of-turns}
use Rattle.spec_traces.specs.Fronts.{IsFrontOf, IsFrontOfRun, turns_in_whole_lines, whole_lines}
use Rattle.spec_traces.specs.LegalTraces.{IsTrace}
use Rattle.spec_traces.specs.Turns.{begins_with_digit, event_lines, turn_words, turns_in}
use Rattle.spec_traces.specs.Verdicts.{end_line_after, line_of_turn}
use Rattle.spec_traces.proofs.CutTexts.{HasOtherLines, IsCut, cut_line, front_of_line, front_of_longer, front_of_text, is_other_line, no_other_lines, other_lines, others_are_lines, others_no_digit, whole_lines_first}
use Rattle.spec_traces.proofs.EventLines.{end_line_no_digit}
use Rattle.spec_traces.proofs.Legal.{readable_run, threads_of_run}
use Rattle.spec_traces.proofs.LineFeeds.{end_line_is_one, event_line_is_one, tail_line_is_one}
use Rattle.spec_traces.proofs.TextOfLines.{lines_then}
use Rattle.spec_traces.proofs.TraceLines.{AreReadable, arranged, digit_lines, events-run, events_from, lines_of_events, one_lines, tail_lines, tail_text-lines, text_of_lines-events, threads_of_words, words_of_lines}
use Rattle.spec_traces.proofs.Walks.{not_over}

-- a prefix of the lines of turns and of what stands after them

-- the line of a turn is cut: of the one that comes next
record IsCutTurn (script : ScriptValue) (h : History) (ts before rest : List ℕ) : Type 0 where
  pub thread : ℕ
  pub can : is_runnable (run_from script h before).state thread ≡ true
  pub left : length before < length ts
  pub front : IsFrontOf rest (line_of_turn script (run_from script h before) thread)

record IsFrontFrom (script : ScriptValue) (h : History) (ts last bytes : List ℕ) : Type 0 where
  pub turns : List ℕ
  pub rest : List ℕ
  pub lines : bytes ≡ lines_text script (events_from script h turns) ++ rest
  pub runnable : AreRunnableFrom script h turns
  pub few : length turns ≤ length ts
  pub after : ((turns ≡ ts) × IsFrontOf rest last) ⊎ IsCutTurn script h ts turns rest

-- a line with its line feed, before others
pub line_first : (line xs ys : List ℕ) → ((line ++ 10 ∷ []) ++ xs) ++ ys ≡ line ++ 10 ∷ (xs ++ ys)
line_first line xs ys = append_assoc (line ++ 10 ∷ []) xs ys ∙ append_assoc line (10 ∷ []) (xs ++ ys)

one_more : (script : ScriptValue) (h : History) (t : ℕ) (ts last bytes rest : List ℕ) → is_runnable h.state t ≡ true → bytes ≡ line_of_turn script h t ++ 10 ∷ rest
    → IsFrontFrom script (history_after script h t) ts last rest → IsFrontFrom script h (t ∷ ts) last bytes
one_more script h t ts last bytes rest can same is =
    record {
      turns = t ∷ is.turns;
      rest = is.rest;
      lines =
          same
          ∙ ap (λ xs. line_of_turn script h t ++ 10 ∷ xs) is.lines
          ∙ sym (line_first (line_of_turn script h t) (lines_text script (events_from script (history_after script h t) is.turns)) is.rest);
      runnable = (can, is.runnable);
      few = omega (arith, is.few);
      after = later is.turns is.rest is.after;
    }
  where
    cut_later : (us more : List ℕ) → IsCutTurn script (history_after script h t) ts us more → IsCutTurn script h (t ∷ ts) (t ∷ us) more
    cut_later us more cut = record { thread = cut.thread; can = cut.can; left = omega (arith, cut.left); front = cut.front }

    later : (us more : List ℕ) → ((us ≡ ts) × IsFrontOf more last) ⊎ IsCutTurn script (history_after script h t) ts us more
        → ((t ∷ us ≡ t ∷ ts) × IsFrontOf more last) ⊎ IsCutTurn script h (t ∷ ts) (t ∷ us) more
    later us more (inl (all, front)) = inl (ap (λ xs. t ∷ xs) all, front)
    later us more (inr cut) = inr (cut_later us more cut)

cut_first : (script : ScriptValue) (h : History) (t : ℕ) (ts last bytes : List ℕ) → is_runnable h.state t ≡ true → IsFrontOf bytes (line_of_turn script h t)
    → IsFrontFrom script h (t ∷ ts) last bytes
cut_first script h t ts last bytes can front =
    record {
      turns = [];
      rest = bytes;
      lines = refl;
      runnable = tt;
      few = omega arith;
      after = inr (record { thread = t; can = can; left = omega arith; front = front });
    }

by_cut : (script : ScriptValue) (h : History) (t : ℕ) (ts last more bytes : List ℕ) → is_runnable h.state t ≡ true → IsCut bytes (line_of_turn script h t) more
    → ((rest : List ℕ) → IsFrontOf rest more → IsFrontFrom script (history_after script h t) ts last rest) → IsFrontFrom script h (t ∷ ts) last bytes
by_cut script h t ts last more bytes can (inl front) later = cut_first script h t ts last bytes can front
by_cut script h t ts last more bytes can (inr (rest, same, front)) later = one_more script h t ts last bytes rest can same (later rest front)

cut_turns : (script : ScriptValue) (ts : List ℕ) (h : History) (last bytes : List ℕ) → AreRunnableFrom script h ts
    → IsFrontOf bytes (lines_text script (events_from script h ts) ++ last) → IsFrontFrom script h ts last bytes
cut_turns script [] h last bytes runnable front = record { turns = []; rest = bytes; lines = refl; runnable = tt; few = omega arith; after = inl (refl, front) }
cut_turns script (t ∷ ts) h last bytes runnable front =
    let others = lines_text script (events_from script (history_after script h t) ts) in
    let line = line_of_turn script h t in
    by_cut script h t ts last (others ++ last) bytes runnable.0
    (cut_line line (others ++ last) bytes (subst (IsFrontOf bytes) (line_first line others last) front))
    (λ rest rest_front. cut_turns script ts (history_after script h t) last rest runnable.1 rest_front)

-- the turns that are read in whole lines

lines_of_both : (lines others : List (List ℕ)) → list_all is_one_line lines ≡ true → list_all is_one_line others ≡ true
    → lines_of (text_of_lines lines ++ text_of_lines others) ≡ lines ++ others
lines_of_both lines others one other = lines_then lines (text_of_lines others) one ∙ ap (λ more. lines ++ more) (lines_of-text_of_lines others other)

whole_text : (script : ScriptValue) (events : List Event) (rest written : List ℕ) (others : List (List ℕ)) → written ≡ lines_text script events ++ rest
    → whole_lines rest ≡ text_of_lines others → whole_lines written ≡ text_of_lines (lines_of_events script events) ++ text_of_lines others
whole_text script events rest written others lines whole =
    ap whole_lines (lines ∙ ap (λ first. first ++ rest) (text_of_lines-events script events))
    ∙ whole_lines_first (lines_of_events script events) rest
    ∙ ap (λ more. text_of_lines (lines_of_events script events) ++ more) whole

event_lines_of_whole : (script : ScriptValue) (events : List Event) (others : List (List ℕ)) → AreReadable script events → list_all is_other_line others ≡ true
    → event_lines (text_of_lines (lines_of_events script events) ++ text_of_lines others) ≡ lines_of_events script events
event_lines_of_whole script events others all are =
    ap (filter begins_with_digit) (lines_of_both (lines_of_events script events) others (one_lines script events all) (others_are_lines others are))
    ∙ digit_lines script events others all
    ∙ ap (λ more. lines_of_events script events ++ more) (others_no_digit others are)
    ∙ append-nil (lines_of_events script events)

-- the lines of a run's events, and lines of no events
turns_of_whole : (source : List ℕ) (script : ScriptValue) (ts rest written : List ℕ) → spells source script → IsAllowed script ts
    → written ≡ lines_text script (run script ts).events ++ rest → HasOtherLines rest → turns_in_whole_lines script written ≡ ts
unfolding turns_in
turns_of_whole source script ts rest written s allowed lines has =
    let all : AreReadable script (run script ts).events = readable_run source script ts s allowed in
    let own : event_lines (whole_lines written) ≡ lines_of_events script (run script ts).events =
    ap event_lines (whole_text script (run script ts).events rest written has.others lines has.whole)
    ∙ event_lines_of_whole script (run script ts).events has.others all has.are in
    threads_of_words script (turn_words (whole_lines written)) ts
    (ap (λ found. map (thread_named script) (filter_map second_word found)) own
    ∙ words_of_lines script (run script ts).events all
    ∙ ap (map Some) (threads_of_run script ts))

-- the end of the text of a run

abbrev last_lines : ScriptValue → History → ℕ → List (List ℕ)
last_lines script h tail = end_line_after script h ∷ tail_lines (Some tail)

abbrev pub last_text : ScriptValue → History → ℕ → List ℕ
last_text script h tail = end_line_after script h ++ 10 ∷ tail_text (Some tail)

is_other : (line : List ℕ) → is_one_line line ≡ true → begins_with_digit line ≡ false → is_other_line line ≡ true
is_other line one digit = and_from (is_one_line line) (not (begins_with_digit line)) one (not_from_false (begins_with_digit line) digit)

last_are_others : (source : List ℕ) (script : ScriptValue) (h : History) (tail : ℕ) → spells source script → list_all is_other_line (last_lines script h tail) ≡ true
last_are_others source script h tail s =
    and_from (is_other_line (end_line_after script h)) (list_all is_other_line (tail_lines (Some tail)))
    (is_other (end_line_after script h) (end_line_is_one source script s (ending_of h.state) (length h.events) (waiting_threads h.state))
    (end_line_no_digit script (ending_of h.state) (length h.events) (waiting_threads h.state)))
    (and_from (is_other_line (codes "tail " ++ decimal tail)) true (is_other (codes "tail " ++ decimal tail) (tail_line_is_one tail) refl) refl)

last_others : (source : List ℕ) (script : ScriptValue) (h : History) (tail : ℕ) (bytes : List ℕ) → spells source script → IsFrontOf bytes (last_text script h tail) → HasOtherLines bytes
last_others source script h tail bytes s front =
    other_lines (last_lines script h tail) bytes (last_are_others source script h tail s)
    (subst (IsFrontOf bytes) (ap (λ more. end_line_after script h ++ 10 ∷ more) (tail_text-lines (Some tail))) front)

pub text_of_end : (script : ScriptValue) (h : History) (rest : List ℕ) → text_of_history script h ++ rest ≡ lines_text script h.events ++ (end_line_after script h ++ 10 ∷ rest)
unfolding trace_text
text_of_end script h rest = arranged (lines_text script h.events) (end_line_after script h) rest

-- a prefix of a text with a line `tail N`, or without it
record HasTail (bytes text : List ℕ) (n : ℕ) : Type 0 where
  pub tail : ℕ
  pub small : tail ≤ n
  pub front : IsFrontOf bytes (text ++ tail_text (Some tail))

with_tail : (bytes text : List ℕ) (n : ℕ) (tail : Option ℕ) → IfSome tail (λ k. k ≤ n) → IsFrontOf bytes (text ++ tail_text tail) → HasTail bytes text n
with_tail bytes text n None small front =
    record { tail = 0; small = omega arith; front = front_of_longer bytes text (tail_text (Some 0)) (subst (IsFrontOf bytes) (append-nil text) front) }
with_tail bytes text n (Some k) small front = record { tail = k; small = small; front = front }

-- what was written is a prefix of the trace of a run

front_at_end : (source : List ℕ) (script : ScriptValue) (ts rest written : List ℕ) (tail : ℕ) → spells source script → IsAllowed script ts → is_over script (run script ts) ≡ true
    → tail ≤ length ts → written ≡ lines_text script (run script ts).events ++ rest → IsFrontOf rest (last_text script (run script ts) tail) → IsFrontOfRun script written
front_at_end source script ts rest written tail s allowed over small lines front =
    let count : length (run script ts).events ≡ length ts = events-of-turns script ts in
    record {
      turns = ts;
      whole = turns_of_whole source script ts rest written s allowed lines (last_others source script (run script ts) tail rest s front);
      allowed = allowed;
      rest = rest;
      lines = lines;
      after = inl (record { over = over; tail = tail; small = omega (arith, small, count); front = front });
    }

front_at_turn : (source : List ℕ) (script : ScriptValue) (ts rest written : List ℕ) (t : ℕ) → spells source script → IsAllowed script ts → is_runnable (run script ts).state t ≡ true
    → length ts < script.budget → written ≡ lines_text script (run script ts).events ++ rest → IsFrontOf rest (line_of_turn script (run script ts) t) → IsFrontOfRun script written
unfolding run
front_at_turn source script ts rest written t s allowed can left lines front =
    let count : length (run script ts).events ≡ length ts = events-of-turns script ts in
    let one : length (ts ++ t ∷ []) ≡ length ts + 1 = length-append ts (t ∷ []) in
    let event = event_at_turn script (run script ts) t in
    record {
      turns = ts;
      whole =
          turns_of_whole source script ts rest written s allowed lines
          (no_other_lines rest (front_of_line rest (line_of script event) (event_line_is_one source script s event) front));
      allowed = allowed;
      rest = rest;
      lines = lines;
      after =
          inr (record {
            going = not_over script (run script ts) t can (omega (arith, count, left));
            thread = t;
            allowed = record { runnable = AreRunnableFrom-append script ts (first_history script) t allowed.runnable can; within = omega (arith, one, left) };
            event = event;
            next = ap (λ (h : History). h.events) (run-append script ts t);
            front = front;
          });
    }

by_after : (source : List ℕ) (script : ScriptValue) (ts us rest written : List ℕ) (tail : ℕ) → spells source script → IsAllowed script ts → is_over script (run script ts) ≡ true
    → tail ≤ length ts → AreRunnableFrom script (first_history script) us → length us ≤ length ts → written ≡ lines_text script (events_from script (first_history script) us) ++ rest
    → ((us ≡ ts) × IsFrontOf rest (last_text script (run script ts) tail)) ⊎ IsCutTurn script (first_history script) ts us rest → IsFrontOfRun script written
unfolding run
by_after source script ts us rest written tail s allowed over small runnable few lines (inl (all, front)) =
    front_at_end source script ts rest written tail s allowed over small
    (lines
    ∙ ap (λ (vs : List ℕ). lines_text script (events_from script (first_history script) vs) ++ rest) all
    ∙ ap (λ (events : List Event). lines_text script events ++ rest) (sym (events-run script ts)))
    front
by_after source script ts us rest written tail s allowed over small runnable few lines (inr cut) =
    let within : length ts ≤ script.budget = allowed.within in
    front_at_turn source script us rest written cut.thread s (record { runnable = runnable; within = omega (arith, few, within) }) cut.can (omega (arith, cut.left, within))
    (lines ∙ ap (λ (events : List Event). lines_text script events ++ rest) (sym (events-run script us)))
    cut.front

front_with_tail : (source : List ℕ) (script : ScriptValue) (ts written : List ℕ) → spells source script → IsAllowed script ts → is_over script (run script ts) ≡ true
    → HasTail written (text_of_history script (run script ts)) (length ts) → IsFrontOfRun script written
front_with_tail source script ts written s allowed over has =
    let last = last_text script (run script ts) has.tail in
    let text : text_of_history script (run script ts) ++ tail_text (Some has.tail) ≡ lines_text script (events_from script (first_history script) ts) ++ last =
    text_of_end script (run script ts) (tail_text (Some has.tail))
    ∙ ap (λ (events : List Event). lines_text script events ++ last) (events-run script ts) in
    let is : IsFrontFrom script (first_history script) ts last written =
    cut_turns script ts (first_history script) last written allowed.runnable (subst (IsFrontOf written) text has.front) in
    by_after source script ts is.turns is.rest written has.tail s allowed over has.small is.runnable is.few is.lines is.after

pub front_found : (source : List ℕ) (script : ScriptValue) (trace turns written : List ℕ) → spells source script → IsTrace script trace turns → IsFrontOf written trace
    → IsFrontOfRun script written
front_found source script trace turns written s is front =
    let text = text_of_history script (run script turns) in
    front_with_tail source script turns written s is.allowed is.over
    (with_tail written text (length turns) is.tail is.small (front_of_text written (text ++ tail_text is.tail) trace is.written front))
