-- Where lines leave the traces of legal runs.
use Rattle.std.proofs.Common.{◌≡◌, ◌⊎◌, inl, inr, ℕ, suc, ◌+◌, ◌≤◌, ◌<◌, ◌^◌, Bool, true, false, cond, List, [], ◌∷◌, ◌++◌, length, take, drop, Option, Some, None, unwrap_or, refl, sym, ap, ◌∙◌, subst, arith, take-append-drop}
use Rattle.std.specs.Prelude.{IfSome, bytes_eq, codes, slice_get}
use Rattle.std.proofs.lemmas.Bool.{false≢true}
use Rattle.std.proofs.lemmas.List.Elements.{All-head, All-tail}
use Rattle.script_lang.specs.Words.{ScriptValue}
use Rattle.spec_requests.specs.Words.{thread_in_line}
use Rattle.spec_kernel.specs.Words.{State, is_runnable, waiting_threads}
use Rattle.spec_scripts.specs.Words.{History, ending_of, event_at_turn, history_after, is_over, run_from}
use Rattle.spec_scripts.specs.ScriptRuns.{AreRunnableFrom}
use Rattle.spec_traces.specs.declared.verdict.Verdict.{Verdict}
use Rattle.spec_traces.specs.declared.verdict.Verdict.TheVariants.{Differs}
use Rattle.spec_traces.specs.FirstDifferences.{IsNamedTurn, IsOtherTurn}
use Rattle.spec_traces.specs.Turns.{HasReadableLine, begins_with_digit}
use Rattle.spec_traces.specs.Verdicts.{end_line_after, if_runnable, is_tail_line, line_of_turn, turn_in_line, verdict_after_end, verdict_after_tail, verdict_at_end, verdict_from, verdict_of_turn}
use Rattle.spec_traces.proofs.EventLines.{end_line_no_digit}
use Rattle.spec_traces.proofs.PlayedOn.{CanEnd, IsToEnd, can_end, no_turns, turn_first, turns_rest}
use Rattle.spec_traces.proofs.TraceLines.{AreReadable, events_from, lines_of_events, tail_lines}
use Rattle.spec_traces.proofs.Walks.{IsTailLine, can_take, left_if, length-history_after, named_turn, not_over, own_bytes, same_bytes, tail_line_found}

-- the lines of the trace of a run from a history on
abbrev pub trace_from : ScriptValue → History → List ℕ → Option ℕ → List (List ℕ)
trace_from script h ts tail = lines_of_events script (events_from script h ts) ++ end_line_after script (run_from script h ts) ∷ tail_lines tail

-- the lines of each run from a history on can be read
abbrev pub ReadableFrom : ScriptValue → History → Type 0
ReadableFrom script h = (ts : List ℕ) → AreRunnableFrom script h ts → length h.events + length ts ≤ script.budget → AreReadable script (events_from script h ts)

-- this is so of the line that stands after so many of the lines, in each trace from a history on that has them
abbrev pub OfEachFrom : ScriptValue → History → List (List ℕ) → ℕ → (Option (List ℕ) → Type 0) → Type 0
OfEachFrom script h lines k IsSo =
    (ts : List ℕ) (tail : Option ℕ) → IsToEnd script h ts → take k (trace_from script h ts tail) ≡ take k lines
    → IsSo (slice_get (trace_from script h ts tail) k)

-- what is wanted after so many of the lines
abbrev pub IsWantedAfter : ScriptValue → History → List (List ℕ) → ℕ → List ℕ → List ℕ → List (List ℕ) → Type 0
IsWantedAfter script h lines k want have trace =
    IsNamedTurn script want have (slice_get trace k)
    ⊎ (((begins_with_digit want ≡ false) × OfEachFrom script h lines k (λ there. there ≡ Some want))
    ⊎ (((want ≡ []) × (length trace ≡ k))
    ⊎ ((want ≡ codes "turn") × OfEachFrom script h lines k (IsOtherTurn script have))))

-- how these lines, after a line for each event of a history, leave the traces of legal runs
pub record IsLeft (script : ScriptValue) (h : History) (lines : List (List ℕ)) (line : ℕ) (want have : List ℕ) : Type 0 where
  -- so many of them are as in some trace
  pub k : ℕ
  pub place : line ≡ length h.events + suc k
  pub reached : k ≤ length lines
  pub stands : unwrap_or (slice_get lines k) [] ≡ have
  -- which is this
  pub turns : List ℕ
  pub to_end : IsToEnd script h turns
  pub tail : Option ℕ
  pub small : IfSome tail (λ n. n ≤ length h.events + length turns)
  pub before : take k (trace_from script h turns tail) ≡ take k lines
  pub wanted : IsWantedAfter script h lines k want have (trace_from script h turns tail)
  -- the verdict is the same on all lines that begin so
  pub again : (others : List (List ℕ)) → take (suc k) others ≡ take (suc k) lines → verdict_from script h others ≡ Differs line want have

left_same : (script : ScriptValue) (h : History) (lines : List (List ℕ)) (l m : ℕ) (a b c d : List ℕ) → IsLeft script h lines l a b
    → Differs l a b ≡ Differs m c d → IsLeft script h lines m c d
left_same script h lines l m a b c d is e =
    let first : l ≡ m = cc in
    let second : a ≡ c = cc in
    let third : b ≡ d = cc in
    subst (λ (n : ℕ). IsLeft script h lines n c d) first
    (subst (λ (x : List ℕ). IsLeft script h lines l x d) second (subst (λ (x : List ℕ). IsLeft script h lines l a x) third is))

-- a verdict on all lines that begin so
by_front : (script : ScriptValue) (h : History) (n : ℕ) (front : List (List ℕ)) (v : Verdict)
    → ((rest : List (List ℕ)) → verdict_from script h (front ++ rest) ≡ v)
    → (others : List (List ℕ)) → take n others ≡ front → verdict_from script h others ≡ v
by_front script h n front v all others same =
    ap (verdict_from script h) (sym (take-append-drop n others) ∙ ap (λ xs. xs ++ drop n others) same) ∙ all (drop n others)

none_more : (others : List (List ℕ)) → take 1 others ≡ [] → others ≡ []
none_more [] e = refl
none_more (other ∷ others) e = cc

-- the verdict where there are no more lines
by_none : (script : ScriptValue) (h : History) (v : Verdict) → verdict_from script h [] ≡ v → (others : List (List ℕ)) → take 1 others ≡ []
    → verdict_from script h others ≡ v
by_none script h v none others same = ap (verdict_from script h) (none_more others same) ∙ none

-- the run is not over, and the line names no thread that can take a turn

pub read_first : (script : ScriptValue) (h : History) (t : ℕ) (ts : List ℕ) → ReadableFrom script h → IsToEnd script h (t ∷ ts)
    → HasReadableLine script (event_at_turn script h t)
read_first script h t ts readable to_end =
    let all : AreReadable script (events_from script h (t ∷ ts)) = readable (t ∷ ts) to_end.runnable to_end.within in
    All-head (HasReadableLine script) (event_at_turn script h t) (events_from script (history_after script h t) ts) all

other_turn : (script : ScriptValue) (h : History) (have : List ℕ) (ts : List ℕ) (tail : Option ℕ) → is_over script h ≡ false → ReadableFrom script h
    → turn_in_line script h.state have ≡ None → IsToEnd script h ts → IsOtherTurn script have (slice_get (trace_from script h ts tail) 0)
other_turn script h have [] tail going readable none to_end = absurd (false≢true (sym going ∙ to_end.over))
other_turn script h have (t ∷ ts) tail going readable none to_end =
    let read : HasReadableLine script (event_at_turn script h t) = read_first script h t ts readable to_end in
    record {
      turn = line_of_turn script h t;
      stands = refl;
      digit = read.digit;
      other =
          λ named.
          some_turn (turn_in_line script h.state have) t none (named_turn script h.state have t (sym named ∙ read.thread) to_end.runnable.0);
    }
  where
    some_turn : (o : Option ℕ) (t : ℕ) → o ≡ None → o ≡ Some t → ⊥
    some_turn None t e f = cc
    some_turn (Some u) t e f = cc

no_turn : (script : ScriptValue) (h : History) (lines : List (List ℕ)) (have : List ℕ) → is_over script h ≡ false → length h.events ≤ script.budget
    → ReadableFrom script h
    → turn_in_line script h.state have ≡ None → unwrap_or (slice_get lines 0) [] ≡ have
    → ((others : List (List ℕ)) → take 1 others ≡ take 1 lines → verdict_from script h others ≡ Differs (length h.events + 1) (codes "turn") have)
    → IsLeft script h lines (length h.events + 1) (codes "turn") have
no_turn script h lines have going few readable none stands again =
    let on : CanEnd script h = can_end script h few in
    record {
      k = 0;
      place = refl;
      reached = omega arith;
      stands = stands;
      turns = on.turns;
      to_end = on.to_end;
      tail = None;
      small = tt;
      before = refl;
      wanted = inr (inr (inr (refl, λ ts tail to_end same. other_turn script h have ts tail going readable none to_end)));
      again = again;
    }

named_thread : (m : State) (o : Option ℕ) (t : ℕ) → if_runnable m o ≡ Some t → o ≡ Some t
named_thread m None t e = cc
named_thread m (Some u) t e = by_test (is_runnable m u) e
  where
    by_test : (b : Bool) → cond b (Some u) None ≡ Some t → Some u ≡ Some t
    by_test true e = e
    by_test false e = cc

-- the run is not over, and the line is not that of the thread's turn
other_line : (script : ScriptValue) (h : History) (t : ℕ) (line : List ℕ) (lines : List (List ℕ)) → is_over script h ≡ false
    → length h.events ≤ script.budget → ReadableFrom script h
    → turn_in_line script h.state line ≡ Some t → bytes_eq line (line_of_turn script h t) ≡ false
    → IsLeft script h (line ∷ lines) (length h.events + 1) (line_of_turn script h t) line
other_line script h t line lines going few readable turn other =
    let one : length (history_after script h t).events ≡ length h.events + 1 = length-history_after script h t in
    let left : length h.events < script.budget = left_if script h going in
    let on : CanEnd script (history_after script h t) = can_end script (history_after script h t) (omega (arith, one, left)) in
    let to_end : IsToEnd script h (t ∷ on.turns) = turn_first script h t on.turns (can_take h.state (thread_in_line script line) t turn) on.to_end in
    let read : HasReadableLine script (event_at_turn script h t) = read_first script h t on.turns readable to_end in
    record {
      k = 0;
      place = refl;
      reached = omega arith;
      stands = refl;
      turns = t ∷ on.turns;
      to_end = to_end;
      tail = None;
      small = tt;
      before = refl;
      wanted = inl (record { stands = refl; digit = read.digit; same = read.thread ∙ sym (named_thread h.state (thread_in_line script line) t turn) });
      again = by_front script h 1 (line ∷ []) (Differs (length h.events + 1) (line_of_turn script h t) line) (λ rest. rw (going, turn, other) refl);
    }

-- the run is over

end_first : (script : ScriptValue) (h : History) (ts : List ℕ) (tail : Option ℕ) → is_over script h ≡ true → IsToEnd script h ts
    → slice_get (trace_from script h ts tail) 0 ≡ Some (end_line_after script h)
end_first script h [] tail over to_end = refl
end_first script h (t ∷ ts) tail over to_end = absurd (false≢true (sym (not_over script h t to_end.runnable.0 (omega (arith, to_end.within))) ∙ over))

-- the end line does not stand where it must
no_end : (script : ScriptValue) (h : History) (lines : List (List ℕ)) (have : List ℕ) → is_over script h ≡ true → length h.events ≤ script.budget
    → unwrap_or (slice_get lines 0) [] ≡ have
    → ((others : List (List ℕ)) → take 1 others ≡ take 1 lines → verdict_from script h others ≡ Differs (length h.events + 1) (end_line_after script h) have)
    → IsLeft script h lines (length h.events + 1) (end_line_after script h) have
no_end script h lines have over few stands again =
    record {
      k = 0;
      place = refl;
      reached = omega arith;
      stands = stands;
      turns = [];
      to_end = no_turns script h over few;
      tail = None;
      small = tt;
      before = refl;
      wanted =
          inr (inl (end_line_no_digit script (ending_of h.state) (length h.events) (waiting_threads h.state), λ ts tail to_end same. end_first script h ts tail over to_end));
      again = again;
    }

-- after the end line stands one that is no line `tail N`
no_tail : (script : ScriptValue) (h : History) (line : List ℕ) (lines : List (List ℕ)) → is_over script h ≡ true → length h.events ≤ script.budget
    → is_tail_line (length h.events) line ≡ false
    → IsLeft script h (end_line_after script h ∷ line ∷ lines) (length h.events + 2) [] line
no_tail script h line lines over few other =
    record {
      k = 1;
      place = refl;
      reached = omega arith;
      stands = refl;
      turns = [];
      to_end = no_turns script h over few;
      tail = None;
      small = tt;
      before = refl;
      wanted = inr (inr (inl (refl, refl)));
      again =
          by_front script h 2 (end_line_after script h ∷ line ∷ []) (Differs (length h.events + 2) [] line)
          (λ rest. rw (over, own_bytes (end_line_after script h), other) refl);
    }

-- a line stands after the line `tail N`
more_lines : (script : ScriptValue) (h : History) (tail line : List ℕ) (lines : List (List ℕ)) → is_over script h ≡ true → length h.events ≤ script.budget
    → is_tail_line (length h.events) tail ≡ true
    → IsTailLine (length h.events) tail → IsLeft script h (end_line_after script h ∷ tail ∷ line ∷ lines) (length h.events + 3) [] line
more_lines script h tail line lines over few found is =
    record {
      k = 2;
      place = refl;
      reached = omega arith;
      stands = refl;
      turns = [];
      to_end = no_turns script h over few;
      tail = Some is.number;
      small = omega (arith, is.small);
      before = ap (λ x. end_line_after script h ∷ x ∷ []) (sym is.spelled);
      wanted = inr (inr (inl (refl, refl)));
      again =
          by_front script h 3 (end_line_after script h ∷ tail ∷ line ∷ []) (Differs (length h.events + 3) [] line)
          (λ rest. rw (over, own_bytes (end_line_after script h), found) refl);
    }

after_tail : (script : ScriptValue) (h : History) (tail : List ℕ) (lines : List (List ℕ)) (l : ℕ) (want have : List ℕ) → is_over script h ≡ true
    → length h.events ≤ script.budget → length h.events < 2 ^ 64
    → is_tail_line (length h.events) tail ≡ true → verdict_after_tail (length h.events) lines ≡ Differs l want have
    → IsLeft script h (end_line_after script h ∷ tail ∷ lines) l want have
after_tail script h tail [] l want have over few below found e = cc
after_tail script h tail (line ∷ lines) l want have over few below found e =
    left_same script h _ _ l _ _ want have (more_lines script h tail line lines over few found (tail_line_found (length h.events) tail below found)) e

by_tail : (script : ScriptValue) (h : History) (line : List ℕ) (lines : List (List ℕ)) (l : ℕ) (want have : List ℕ) (b : Bool) → is_over script h ≡ true
    → length h.events ≤ script.budget
    → length h.events < 2 ^ 64 → is_tail_line (length h.events) line ≡ b
    → cond b (verdict_after_tail (length h.events) lines) (Differs (length h.events + 2) [] line) ≡ Differs l want have
    → IsLeft script h (end_line_after script h ∷ line ∷ lines) l want have
by_tail script h line lines l want have true over few below is e = after_tail script h line lines l want have over few below is e
by_tail script h line lines l want have false over few below is e = left_same script h _ _ l _ _ want have (no_tail script h line lines over few is) e

after_end : (script : ScriptValue) (h : History) (lines : List (List ℕ)) (l : ℕ) (want have : List ℕ) → is_over script h ≡ true
    → length h.events ≤ script.budget → length h.events < 2 ^ 64
    → verdict_after_end (length h.events) lines ≡ Differs l want have → IsLeft script h (end_line_after script h ∷ lines) l want have
after_end script h [] l want have over few below e = cc
after_end script h (line ∷ lines) l want have over few below e =
    by_tail script h line lines l want have (is_tail_line (length h.events) line) over few below refl e

by_end_line : (script : ScriptValue) (h : History) (line : List ℕ) (lines : List (List ℕ)) (l : ℕ) (want have : List ℕ) (b : Bool) → is_over script h ≡ true
    → length h.events ≤ script.budget
    → length h.events < 2 ^ 64 → bytes_eq line (end_line_after script h) ≡ b
    → cond b (verdict_after_end (length h.events) lines) (Differs (length h.events + 1) (end_line_after script h) line) ≡ Differs l want have
    → IsLeft script h (line ∷ lines) l want have
by_end_line script h line lines l want have true over few below same e =
    subst (λ first. IsLeft script h (first ∷ lines) l want have) (sym (same_bytes line (end_line_after script h) same))
    (after_end script h lines l want have over few below e)
by_end_line script h line lines l want have false over few below same e =
    left_same script h _ _ l _ _ want have
    (no_end script h (line ∷ lines) line over few refl
    (by_front script h 1 (line ∷ []) (Differs (length h.events + 1) (end_line_after script h) line) (λ rest. rw (over, same) refl)))
    e

-- a turn is taken, and the lines are left later

each_first : (script : ScriptValue) (h : History) (t : ℕ) (line : List ℕ) (lines : List (List ℕ)) (k : ℕ) (IsSo : Option (List ℕ) → Type 0)
    → is_over script h ≡ false
    → ReadableFrom script h → turn_in_line script h.state line ≡ Some t → OfEachFrom script (history_after script h t) lines k IsSo
    → OfEachFrom script h (line ∷ lines) (suc k) IsSo
each_first script h t line lines k IsSo going readable turn rest [] tail to_end same = absurd (false≢true (sym going ∙ to_end.over))
each_first script h t line lines k IsSo going readable turn rest (u ∷ us) tail to_end same =
    let first : line_of_turn script h u ≡ line = cc in
    let others : take k (trace_from script (history_after script h u) us tail) ≡ take k lines = cc in
    let read : HasReadableLine script (event_at_turn script h u) = read_first script h u us readable to_end in
    let named_again : thread_in_line script line ≡ Some u = ap (thread_in_line script) (sym first) ∙ read.thread in
    let again : turn_in_line script h.state line ≡ Some u = named_turn script h.state line u named_again to_end.runnable.0 in
    let one_turn : t ≡ u = same_turn (turn_in_line script h.state line) t u turn again in
    subst (λ v. IsSo (slice_get (trace_from script (history_after script h v) us tail) k)) one_turn
    (rest us tail
    (subst (λ v. IsToEnd script (history_after script h v) us) (sym one_turn) (turns_rest script h u us to_end))
    (subst (λ v. take k (trace_from script (history_after script h v) us tail) ≡ take k lines) (sym one_turn) others))
  where
    same_turn : (o : Option ℕ) (u t : ℕ) → o ≡ Some u → o ≡ Some t → u ≡ t
    same_turn None u t e f = cc
    same_turn (Some v) u t e f = cc

wanted_first : (script : ScriptValue) (h : History) (t : ℕ) (line : List ℕ) (lines : List (List ℕ)) (k : ℕ) (want have first : List ℕ)
    (trace : List (List ℕ)) → is_over script h ≡ false → ReadableFrom script h → turn_in_line script h.state line ≡ Some t
    → IsWantedAfter script (history_after script h t) lines k want have trace → IsWantedAfter script h (line ∷ lines) (suc k) want have (first ∷ trace)
wanted_first script h t line lines k want have first trace going readable turn (inl named) = inl named
wanted_first script h t line lines k want have first trace going readable turn (inr (inl (no_digit, rest))) =
    inr (inl (no_digit, each_first script h t line lines k (λ there. there ≡ Some want) going readable turn rest))
wanted_first script h t line lines k want have first trace going readable turn (inr (inr (inl (e, all)))) = inr (inr (inl (e, ap suc all)))
wanted_first script h t line lines k want have first trace going readable turn (inr (inr (inr (e, rest)))) =
    inr (inr (inr (e, each_first script h t line lines k (IsOtherTurn script have) going readable turn rest)))

again_first : (script : ScriptValue) (h : History) (t : ℕ) (line : List ℕ) (lines : List (List ℕ)) (k : ℕ) (v : Verdict) → is_over script h ≡ false
    → turn_in_line script h.state line ≡ Some t
    → bytes_eq line (line_of_turn script h t) ≡ true
    → ((others : List (List ℕ)) → take (suc k) others ≡ take (suc k) lines → verdict_from script (history_after script h t) others ≡ v)
    → (others : List (List ℕ)) → take (suc (suc k)) others ≡ take (suc (suc k)) (line ∷ lines) → verdict_from script h others ≡ v
again_first script h t line lines k v going turn same rest [] e = cc
again_first script h t line lines k v going turn same rest (other ∷ others) e =
    let first : other ≡ line = cc in
    let then : take (suc k) others ≡ take (suc k) lines = cc in
    ap (λ x. verdict_from script h (x ∷ others)) first ∙ rw (going, turn, same) (rest others then)

taken : (script : ScriptValue) (h : History) (t : ℕ) (line : List ℕ) (lines : List (List ℕ)) (l : ℕ) (want have : List ℕ) → is_over script h ≡ false
    → ReadableFrom script h
    → turn_in_line script h.state line ≡ Some t → bytes_eq line (line_of_turn script h t) ≡ true → IsLeft script (history_after script h t) lines l want have
    → IsLeft script h (line ∷ lines) l want have
taken script h t line lines l want have going readable turn same rest =
    let one : length (history_after script h t).events ≡ length h.events + 1 = length-history_after script h t in
    let spelled : line_of_turn script h t ≡ line = sym (same_bytes line (line_of_turn script h t) same) in
    let count : length (history_after script h t).events + length rest.turns ≡ length h.events + length (t ∷ rest.turns) = omega (arith, one) in
    record {
      k = suc rest.k;
      place = omega (arith, one, rest.place);
      reached = omega (arith, rest.reached);
      stands = rest.stands;
      turns = t ∷ rest.turns;
      to_end = turn_first script h t rest.turns (can_take h.state (thread_in_line script line) t turn) rest.to_end;
      tail = rest.tail;
      small = subst (λ (m : ℕ). IfSome rest.tail (λ n. n ≤ m)) count rest.small;
      before =
          ap (λ x. x ∷ take rest.k (trace_from script (history_after script h t) rest.turns rest.tail)) spelled
          ∙ ap (λ xs. line ∷ xs) rest.before;
      wanted =
          wanted_first script h t line lines rest.k want have (line_of_turn script h t) (trace_from script (history_after script h t) rest.turns rest.tail)
          going readable turn rest.wanted;
      again = again_first script h t line lines rest.k (Differs l want have) going turn same rest.again;
    }

pub readable_after : (script : ScriptValue) (h : History) (t : ℕ) → is_runnable h.state t ≡ true → ReadableFrom script h
    → ReadableFrom script (history_after script h t)
readable_after script h t can readable ts runnable within =
    let one : length (history_after script h t).events ≡ length h.events + 1 = length-history_after script h t in
    All-tail (HasReadableLine script) (event_at_turn script h t) (events_from script (history_after script h t) ts)
    (readable (t ∷ ts) (can, runnable) (omega (arith, one, within)))

-- what is said of the lines after a turn
abbrev Leaves : ScriptValue → History → List (List ℕ) → ℕ → List ℕ → List ℕ → Type 0
Leaves script h lines l want have =
    length h.events ≤ script.budget → ReadableFrom script h → verdict_from script h lines ≡ Differs l want have → IsLeft script h lines l want have

by_line : (script : ScriptValue) (h : History) (t : ℕ) (line : List ℕ) (lines : List (List ℕ)) (l : ℕ) (want have : List ℕ) (b : Bool)
    → is_over script h ≡ false → length h.events ≤ script.budget
    → ReadableFrom script h → turn_in_line script h.state line ≡ Some t → Leaves script (history_after script h t) lines l want have
    → bytes_eq line (line_of_turn script h t) ≡ b
    → cond b (verdict_from script (history_after script h t) lines) (Differs (length h.events + 1) (line_of_turn script h t) line) ≡ Differs l want have
    → IsLeft script h (line ∷ lines) l want have
by_line script h t line lines l want have true going few readable turn rest same e =
    let one : length (history_after script h t).events ≡ length h.events + 1 = length-history_after script h t in
    let left : length h.events < script.budget = left_if script h going in
    taken script h t line lines l want have going readable turn same
    (rest (omega (arith, one, left)) (readable_after script h t (can_take h.state (thread_in_line script line) t turn) readable) e)
by_line script h t line lines l want have false going few readable turn rest same e =
    left_same script h _ _ l _ _ want have (other_line script h t line lines going few readable turn same) e

by_turn : (script : ScriptValue) (h : History) (line : List ℕ) (lines : List (List ℕ)) (l : ℕ) (want have : List ℕ) (o : Option ℕ) → is_over script h ≡ false
    → length h.events ≤ script.budget
    → ReadableFrom script h → turn_in_line script h.state line ≡ o → ((t : ℕ) → Leaves script (history_after script h t) lines l want have)
    → verdict_of_turn script h line (λ t. verdict_from script (history_after script h t) lines) o ≡ Differs l want have
    → IsLeft script h (line ∷ lines) l want have
by_turn script h line lines l want have None going few readable turn rest e =
    left_same script h _ _ l _ _ want have
    (no_turn script h (line ∷ lines) line going few readable turn refl
    (by_front script h 1 (line ∷ []) (Differs (length h.events + 1) (codes "turn") line) (λ others. rw (going, turn) refl)))
    e
by_turn script h line lines l want have (Some t) going few readable turn rest e =
    by_line script h t line lines l want have (bytes_eq line (line_of_turn script h t)) going few readable turn (rest t) refl e

by_over : (script : ScriptValue) (h : History) (line : List ℕ) (lines : List (List ℕ)) (l : ℕ) (want have : List ℕ) (b : Bool) → script.budget < 2 ^ 64
    → is_over script h ≡ b
    → length h.events ≤ script.budget → ReadableFrom script h → ((t : ℕ) → Leaves script (history_after script h t) lines l want have)
    → cond b (verdict_at_end script h (line ∷ lines))
    (verdict_of_turn script h line (λ t. verdict_from script (history_after script h t) lines) (turn_in_line script h.state line)) ≡ Differs l want have
    → IsLeft script h (line ∷ lines) l want have
by_over script h line lines l want have true small over few readable rest e =
    by_end_line script h line lines l want have (bytes_eq line (end_line_after script h)) over few (omega (arith, small, few)) refl e
by_over script h line lines l want have false small over few readable rest e =
    by_turn script h line lines l want have (turn_in_line script h.state line) over few readable refl rest e

without_line : (script : ScriptValue) (h : History) (l : ℕ) (want have : List ℕ) (b : Bool) → is_over script h ≡ b → length h.events ≤ script.budget
    → ReadableFrom script h
    → cond b (Differs (length h.events + 1) (end_line_after script h) []) (Differs (length h.events + 1) (codes "turn") []) ≡ Differs l want have
    → IsLeft script h [] l want have
without_line script h l want have true over few readable e =
    left_same script h _ _ l _ _ want have
    (no_end script h [] [] over few refl (by_none script h (Differs (length h.events + 1) (end_line_after script h) []) (rw over refl)))
    e
without_line script h l want have false over few readable e =
    left_same script h _ _ l _ _ want have
    (no_turn script h [] [] over few readable refl refl (by_none script h (Differs (length h.events + 1) (codes "turn") []) (rw over refl)))
    e

-- where the verdict is that a line differs, the lines leave the traces of legal runs there
pub left : (script : ScriptValue) (lines : List (List ℕ)) (h : History) (l : ℕ) (want have : List ℕ) → script.budget < 2 ^ 64
    → length h.events ≤ script.budget → ReadableFrom script h
    → verdict_from script h lines ≡ Differs l want have → IsLeft script h lines l want have
left script [] h l want have small few readable e = without_line script h l want have (is_over script h) refl few readable e
left script (line ∷ lines) h l want have small few readable e =
    by_over script h line lines l want have (is_over script h) small refl few readable
    (λ t rest_few rest_readable rest. left script lines (history_after script h t) l want have small rest_few rest_readable rest)
    e
