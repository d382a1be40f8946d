-- What is told by the turns of its whole lines is a prefix of the trace of a run that is over.
use Rattle.std.proofs.Common.{◌≡◌, inl, inr, ℕ, ◌⊎◌, true, List, [], ◌∷◌, ◌++◌, length, Some, None, refl, sym, ap, ◌∙◌, subst, arith, append-nil, append_assoc}
use Rattle.std.proofs.lemmas.List.Concat.{flat_map-append}
use Rattle.script_lang.specs.Words.{ScriptValue}
use Rattle.spec_requests.specs.Types.{Event}
use Rattle.spec_requests.specs.TraceText.{whole_line}
use Rattle.spec_requests.specs.Words.{line_of, lines_text, tail_text}
use Rattle.spec_scripts.specs.Words.{IsAllowed, first_history, is_over, run, run_from, text_of_history}
use Rattle.spec_scripts.proofs.Plays.{events-of-turns}
use Rattle.spec_traces.specs.Fronts.{IsFrontOf, IsFrontOfEnd, IsFrontOfNextLine, IsFrontOfRun, IsFrontOfTrace}
use Rattle.spec_traces.specs.Verdicts.{end_line_after}
use Rattle.spec_traces.proofs.CutTexts.{front_after, front_of_longer}
use Rattle.spec_traces.proofs.Fronts.{last_text, line_first, text_of_end}
use Rattle.spec_traces.proofs.PlayedOn.{CanEnd, IsToEnd, can_end, turns_before}
use Rattle.spec_traces.proofs.TraceLines.{events-run, events_from, events_from-append}

-- the run is over

at_end : (script : ScriptValue) (ts rest written : List ℕ) → IsAllowed script ts → written ≡ lines_text script (run script ts).events ++ rest → IsFrontOfEnd script (run script ts) rest
    → IsFrontOfTrace script written
at_end script ts rest written allowed lines is =
    let h = run script ts in
    let first = lines_text script h.events in
    let last = last_text script h is.tail in
    let count : length h.events ≡ length ts = events-of-turns script ts in
    record {
      trace = text_of_history script h ++ tail_text (Some is.tail);
      turns = ts;
      is_trace = record { allowed = allowed; over = is.over; tail = Some is.tail; small = omega (arith, count, is.small); written = inl refl };
      front =
          subst (λ bytes. IsFrontOf bytes (text_of_history script h ++ tail_text (Some is.tail))) (sym lines)
          (subst (IsFrontOf (first ++ rest)) (sym (text_of_end script h (tail_text (Some is.tail)))) (front_after first rest last is.front));
    }

-- the run goes on

-- turns that take a run from its first turns to its end
record IsWholeRun (script : ScriptValue) (ts : List ℕ) : Type 0 where
  pub more : List ℕ
  pub allowed : IsAllowed script (ts ++ more)
  pub over : is_over script (run script (ts ++ more)) ≡ true

allowed_to_end : (script : ScriptValue) (ts more : List ℕ) → IsToEnd script (first_history script) (ts ++ more) → IsWholeRun script ts
unfolding run
allowed_to_end script ts more is =
    record { more = more; allowed = record { runnable = is.runnable; within = omega (arith, is.within) }; over = is.over }

whole_run : (script : ScriptValue) (ts : List ℕ) → IsAllowed script ts → IsWholeRun script ts
unfolding run
whole_run script ts allowed =
    let count : length (run script ts).events ≡ length ts = events-of-turns script ts in
    let on : CanEnd script (run_from script (first_history script) ts) = can_end script (run script ts) (omega (arith, count, allowed.within)) in
    allowed_to_end script ts on.turns (turns_before script ts on.turns (first_history script) allowed.runnable on.to_end)

events_then : (script : ScriptValue) (ts us : List ℕ) → (run script (ts ++ us)).events ≡ (run script ts).events ++ events_from script (run script ts) us
unfolding run
events_then script ts us =
    events-run script (ts ++ us)
    ∙ events_from-append script ts us (first_history script)
    ∙ ap (λ events. events ++ events_from script (run script ts) us) (sym (events-run script ts))

-- the text of a run that has an event after these
text_with : (script : ScriptValue) (es fs : List Event) (e : Event) (rest : List ℕ) →
    lines_text script ((es ++ e ∷ []) ++ fs) ++ rest ≡ lines_text script es ++ (line_of script e ++ 10 ∷ (lines_text script fs ++ rest))
text_with script es fs e rest =
    ap (λ events. lines_text script events ++ rest) (append_assoc es (e ∷ []) fs)
    ∙ ap (λ text. text ++ rest) (flat_map-append (whole_line script) es (e ∷ fs))
    ∙ append_assoc (lines_text script es) (lines_text script (e ∷ fs)) rest
    ∙ ap (λ text. lines_text script es ++ text) (line_first (line_of script e) (lines_text script fs) rest)

text_after : (script : ScriptValue) (ts us : List ℕ) (t : ℕ) (e : Event) → (run script (ts ++ t ∷ [])).events ≡ (run script ts).events ++ e ∷ [] →
    (more : List ℕ) × (text_of_history script (run script ((ts ++ t ∷ []) ++ us)) ≡ lines_text script (run script ts).events ++ (line_of script e ++ more))
text_after script ts us t e next =
    let h = run script ((ts ++ t ∷ []) ++ us) in
    let es = (run script ts).events in
    let fs = events_from script (run script (ts ++ t ∷ [])) us in
    let end = end_line_after script h ++ 10 ∷ [] in
    let events : h.events ≡ (es ++ e ∷ []) ++ fs = events_then script (ts ++ t ∷ []) us ∙ ap (λ first. first ++ fs) next in (
      10 ∷ (lines_text script fs ++ end),
      sym (append-nil (text_of_history script h))
          ∙ text_of_end script h []
          ∙ ap (λ all. lines_text script all ++ end) events
          ∙ text_with script es fs e end,
    )

at_turn : (script : ScriptValue) (ts rest written : List ℕ) → written ≡ lines_text script (run script ts).events ++ rest → (is : IsFrontOfNextLine script ts rest)
    → (whole : IsWholeRun script (ts ++ is.thread ∷ []))
    → (more : List ℕ) × (text_of_history script (run script ((ts ++ is.thread ∷ []) ++ whole.more)) ≡ lines_text script (run script ts).events ++ (line_of script is.event ++ more))
    → IsFrontOfTrace script written
at_turn script ts rest written lines is whole (more, text) =
    let all = (ts ++ is.thread ∷ []) ++ whole.more in
    let trace = text_of_history script (run script all) in
    let first = lines_text script (run script ts).events in
    record {
      trace = trace;
      turns = all;
      is_trace = record { allowed = whole.allowed; over = whole.over; tail = None; small = tt; written = inl (sym (append-nil trace)) };
      front =
          subst (λ bytes. IsFrontOf bytes trace) (sym lines)
          (subst (IsFrontOf (first ++ rest)) (sym text)
          (front_after first rest (line_of script is.event ++ more) (front_of_longer rest (line_of script is.event) more is.front)));
    }

by_after : (script : ScriptValue) (ts rest written : List ℕ) → IsAllowed script ts → written ≡ lines_text script (run script ts).events ++ rest
    → IsFrontOfEnd script (run script ts) rest ⊎ IsFrontOfNextLine script ts rest → IsFrontOfTrace script written
by_after script ts rest written allowed lines (inl is) = at_end script ts rest written allowed lines is
by_after script ts rest written allowed lines (inr is) =
    let whole : IsWholeRun script (ts ++ is.thread ∷ []) = whole_run script (ts ++ is.thread ∷ []) is.allowed in
    at_turn script ts rest written lines is whole (text_after script ts whole.more is.thread is.event is.next)

pub front_again : (script : ScriptValue) (written : List ℕ) → IsFrontOfRun script written → IsFrontOfTrace script written
front_again script written is = by_after script is.turns is.rest written is.allowed is.lines is.after
