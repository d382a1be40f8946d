-- The first line at which a text leaves the traces of legal runs.
use Rattle.std.proofs.Common.{◌≡◌, inl, inr, ℕ, suc, ◌+◌, ◌-◌, ◌≤◌, List, [], ◌∷◌, ◌++◌, length, take, Option, Some, unwrap_or, refl, sym, ap, ◌∙◌, subst, arith, zero-add}
use Rattle.std.specs.Prelude.{IfSome, slice_get}
use Rattle.line_text.specs.Words.{lines_of}
use Rattle.spec_requests.specs.Words.{tail_text}
use Rattle.script_lang.specs.Words.{ScriptValue, spells}
use Rattle.spec_scripts.specs.Words.{IsAllowed, first_history, run, text_of_history}
use Rattle.spec_traces.specs.declared.verdict.Verdict.TheVariants.{Legal, Differs}
use Rattle.spec_traces.specs.FirstDifferences.{IsFirstDifference, IsNamedTurn, IsOtherTurn, IsWanted, OfEachTrace, lines_through}
use Rattle.spec_traces.specs.FirstDifferences.IsWanted.{named_turn, only_line, nothing, other_turn}
use Rattle.spec_traces.specs.LegalTraces.{IsLegal, IsTextOf, IsTrace}
use Rattle.spec_traces.specs.Verdicts.{end_line_after, verdict, verdict_from}
use Rattle.spec_traces.proofs.Leaving.{IsLeft, IsWantedAfter, OfEachFrom, ReadableFrom, left, trace_from}
use Rattle.spec_traces.proofs.Legal.{legal_again, readable_run, small_budget}
use Rattle.spec_traces.proofs.PlayedOn.{IsToEnd}
use Rattle.spec_traces.proofs.TraceLines.{AreReadable, events-run, lines_of_events, lines_of_trace_text, tail_lines}

-- the lines of a text that is the trace of a run
lines_of_written : (source : List ℕ) (script : ScriptValue) (text turns : List ℕ) (tail : Option ℕ) → spells source script → IsAllowed script turns
    → IsTextOf (text_of_history script (run script turns) ++ tail_text tail) text → lines_of text ≡ trace_from script (first_history script) turns tail
unfolding run
lines_of_written source script text turns tail s allowed written =
    lines_of_trace_text source script (run script turns) tail text s (readable_run source script turns s allowed) written
    ∙ ap (λ events. lines_of_events script events ++ end_line_after script (run script turns) ∷ tail_lines tail) (events-run script turns)

pub lines_of_legal : (source : List ℕ) (script : ScriptValue) (text turns : List ℕ) → spells source script → (is : IsTrace script text turns)
    → lines_of text ≡ trace_from script (first_history script) turns is.tail
lines_of_legal source script text turns s is = lines_of_written source script text turns is.tail s is.allowed is.written

pub readable_first : (source : List ℕ) (script : ScriptValue) → spells source script → ReadableFrom script (first_history script)
readable_first source script s ts runnable within =
    subst (AreReadable script) (events-run script ts) (readable_run source script ts s (record { runnable = runnable; within = omega (arith, within) }))

-- the turns of a trace take a run to its end
pub turns_of_legal : (script : ScriptValue) (text turns : List ℕ) → IsTrace script text turns → IsToEnd script (first_history script) turns
unfolding run
turns_of_legal script text turns is =
    let count : 0 + length turns ≡ length turns = zero-add (length turns) in
    record { runnable = is.allowed.runnable; within = rw count is.allowed.within; over = is.over }

-- these turns, and this line `tail N` or none, make a trace
trace_of : (script : ScriptValue) (turns : List ℕ) (tail : Option ℕ) → IsToEnd script (first_history script) turns → IfSome tail (λ n. n ≤ 0 + length turns)
    → IsTrace script (text_of_history script (run script turns) ++ tail_text tail) turns
unfolding run
trace_of script turns tail to_end small =
    let count : 0 + length turns ≡ length turns = zero-add (length turns) in
    let within : 0 + length turns ≤ script.budget = to_end.within in
    record {
      allowed = record { runnable = to_end.runnable; within = omega (arith, within) };
      over = to_end.over;
      tail = tail;
      small = subst (λ (m : ℕ). IfSome tail (λ n. n ≤ m)) count small;
      written = inl refl;
    }

each_in_text : (source : List ℕ) (script : ScriptValue) (text : List ℕ) (line k : ℕ) (IsSo : Option (List ℕ) → Type 0) → spells source script → line - 1 ≡ k
    → OfEachFrom script (first_history script) (lines_of text) k IsSo → OfEachTrace script text line IsSo
each_in_text source script text line k IsSo s at rest other n is same =
    let lines : lines_of other ≡ trace_from script (first_history script) is.turns is.is_trace.tail =
    lines_of_legal source script other is.turns s is.is_trace in
    subst (λ (m : ℕ). IsSo (slice_get (lines_of other) m)) (sym at)
    (subst (λ (xs : List (List ℕ)). IsSo (slice_get xs k)) (sym lines)
    (rest is.turns is.is_trace.tail (turns_of_legal script other is.turns is.is_trace)
    (ap (take k) (sym lines) ∙ subst (λ (m : ℕ). take m (lines_of other) ≡ take m (lines_of text)) at same)))

wanted_in_text : (source : List ℕ) (script : ScriptValue) (text : List ℕ) (line k : ℕ) (want have trace : List ℕ) → spells source script → line ≡ suc k
    → line - 1 ≡ k
    → IsWantedAfter script (first_history script) (lines_of text) k want have (lines_of trace) → IsWanted script text line want have trace
wanted_in_text source script text line k want have trace s place at (inl named) =
    named_turn (subst (λ (m : ℕ). IsNamedTurn script want have (slice_get (lines_of trace) m)) (sym at) named)
wanted_in_text source script text line k want have trace s place at (inr (inl (no_digit, rest))) =
    only_line no_digit (each_in_text source script text line k (λ there. there ≡ Some want) s at rest)
wanted_in_text source script text line k want have trace s place at (inr (inr (inl (e, all)))) = nothing e (omega (arith, place, all))
wanted_in_text source script text line k want have trace s place at (inr (inr (inr (e, rest)))) =
    other_turn e (each_in_text source script text line k (IsOtherTurn script have) s at rest)

legal_not_differs : (n l : ℕ) (want have : List ℕ) → Legal n ≡ Differs l want have → ⊥
legal_not_differs n l want have e = cc

none_so : (source : List ℕ) (script : ScriptValue) (text : List ℕ) (line k : ℕ) (want have : List ℕ) → spells source script → line ≡ suc k
    → ((others : List (List ℕ)) → take (suc k) others ≡ take (suc k) (lines_of text)
    → verdict_from script (first_history script) others ≡ Differs line want have)
    → (other : List ℕ) (n : ℕ) → IsLegal script other n → lines_through other line ≡ lines_through text line → ⊥
unfolding verdict
none_so source script text line k want have s place again other n is same =
    legal_not_differs (length is.turns) line want have
    (sym (legal_again source script other is.turns s is.is_trace)
    ∙ again (lines_of other) (subst (λ (m : ℕ). take m (lines_of other) ≡ take m (lines_of text)) place same))

first_of_left : (source : List ℕ) (script : ScriptValue) (text : List ℕ) (line : ℕ) (want have : List ℕ) → spells source script
    → IsLeft script (first_history script) (lines_of text) line want have
    → IsFirstDifference script text line want have
first_of_left source script text line want have s is =
    let from_none : line ≡ 0 + suc is.k = is.place in
    let place : line ≡ suc is.k = omega (arith, from_none) in
    let at : line - 1 ≡ is.k = omega (arith, place) in
    let trace : List ℕ = text_of_history script (run script is.turns) ++ tail_text is.tail in
    let made : IsTrace script trace is.turns = trace_of script is.turns is.tail is.to_end is.small in
    let lines : lines_of trace ≡ trace_from script (first_history script) is.turns is.tail =
    lines_of_written source script trace is.turns is.tail s made.allowed (inl refl) in
    record {
      counted = omega (arith, place);
      reached = omega (arith, place, is.reached);
      trace = trace;
      events = length is.turns;
      is_legal = record { turns = is.turns; is_trace = made; count = refl };
      before = ap (λ (m : ℕ). take m (lines_of trace)) at ∙ ap (take is.k) lines ∙ is.before ∙ ap (λ (m : ℕ). take m (lines_of text)) (sym at);
      stands = ap (λ (m : ℕ). unwrap_or (slice_get (lines_of text) m) []) at ∙ is.stands;
      wanted =
          wanted_in_text source script text line is.k want have trace s place at
          (subst (IsWantedAfter script (first_history script) (lines_of text) is.k want have) (sym lines) is.wanted);
      none = none_so source script text line is.k want have s place is.again;
    }

-- where the verdict is that a line differs, it is the first difference
pub first_difference : (source : List ℕ) (script : ScriptValue) (trace : List ℕ) (line : ℕ) (want have : List ℕ) → spells source script
    → verdict script trace ≡ Differs line want have
    → IsFirstDifference script trace line want have
unfolding verdict
first_difference source script trace line want have s e =
    first_of_left source script trace line want have s
    (left script (lines_of trace) (first_history script) line want have (small_budget source script s) (omega arith) (readable_first source script s) e)
