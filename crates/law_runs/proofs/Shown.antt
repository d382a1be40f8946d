-- The events that are shown, place by place.
use Rattle.std.proofs.Common.{◌≡◌, Bool, ℕ, zero, suc, ◌+◌, ◌==◌, List, [], ◌∷◌, ◌++◌, Option, Some, None, true, false, if◌then◌else◌, length, take, slice_get, refl, sym, ap, subst, ◌∙◌, append-nil, append_assoc, arith}
use Rattle.std.specs.Prelude.{filter, map}
use Rattle.std.proofs.lemmas.List.{map-append}
use Rattle.std.proofs.lemmas.List.Elements.{filter-append}
use Rattle.dk_base.specs.declared.answer.Answer.TheVariants as answer
use Rattle.dk_base.specs.declared.request.Request.TheVariants as request
use Rattle.spec_records.specs.declared.record.ThreadState.TheVariants as is
use Rattle.ncd_app.specs.Words.{reply}
use Rattle.spec_kernel.specs.Types.{Answer, Event, Request, ThreadState}
use Rattle.spec_kernel.specs.Words.{State, Turn, process_of, state_after_turn, state_at, state_of, what_of}
use Rattle.spec_events.specs.Words.{AskedLine, asked_with, cache_reply, event_of, events_with_replies, is_asked_by, line_asked, line_in, lines_of_process, output_at, reply_after, with_output, with_reply}
use Rattle.spec_kernel.proofs.Runs.{process_of-state_after}
use Rattle.spec_events.proofs.Events.{number-event_of}
use Rattle.spec_kernel.proofs.Steps.{process_of-step}
use Rattle.law_places.specs.Places.{answer_at}
use Rattle.law_runs.specs.EventsShown.{EventsShown, ShowsTurn, answer_shown, line_asked_by, lines_asked, reply_shown, what_done, with_line}

-- the lines that were asked after these turns
abbrev asked_after : State → List AskedLine → List Turn → List AskedLine
asked_after m asked [] = asked
asked_after m asked (x ∷ xs) = asked_after (state_after_turn m x) (asked_with asked (process_of m x.thread) (line_in x.request)) xs

length-events : (m : State) (asked : List AskedLine) (xs : List Turn) → length (events_with_replies m asked xs) ≡ length xs
length-events m asked [] = refl
length-events m asked (x ∷ xs) =
    ap suc (length-events (state_after_turn m x) (asked_with asked (process_of m x.thread) (line_in x.request)) xs)

event_at :
    (m : State) (asked : List AskedLine) (xs : List Turn) (i : ℕ) (x : Turn) → slice_get xs i ≡ Some x →
    slice_get (events_with_replies m asked xs) i
    ≡ Some
    (with_reply (reply_after (asked_after m asked (take i xs)) (process_of (state_at m xs i) x.thread) (line_in x.request))
    (event_of (state_at m xs i) x.thread x.request))
event_at m asked [] i x e = cc
event_at m asked (y ∷ ys) zero x e =
    let k : y ≡ x = cc
    in ap (λ (z : Turn). Some (with_reply (reply_after asked (process_of m z.thread) (line_in z.request)) (event_of m z.thread z.request))) k
event_at m asked (y ∷ ys) (suc i) x e =
    event_at (state_after_turn m y) (asked_with asked (process_of m y.thread) (line_in y.request)) ys i x e

-- the lines of a process among those that were asked

with_line-append : (o : Option (List ℕ)) (lines : List (List ℕ)) → with_line o [] ++ lines ≡ with_line o lines
with_line-append None lines = refl
with_line-append (Some line) lines = refl

none-else : (b : Bool) (o : Option (List ℕ)) → o ≡ None → (if b then o else None) ≡ o
none-else true o e = refl
none-else false o e = sym e

same-line : (q : Option Request) → line_asked_by q ≡ line_in q
same-line None = refl
same-line (Some (request.Ncd line)) = refl
same-line (Some r) = refl

lines-with :
    (asked : List AskedLine) (q p : ℕ) (o : Option (List ℕ)) →
    lines_of_process p (asked_with asked q o) ≡ lines_of_process p asked ++ with_line (if q == p then o else None) []
lines-with asked q p None =
    sym (append-nil (lines_of_process p asked)) ∙ ap (λ (o : Option (List ℕ)). lines_of_process p asked ++ with_line o []) (sym (none-else (q == p) None refl))
lines-with asked q p (Some line) = by_owner (q == p) refl
  where
    one : AskedLine
    one = record { process = q; line = line }

    by_owner :
        (b : Bool) → (q == p) ≡ b →
        lines_of_process p (asked ++ one ∷ []) ≡ lines_of_process p asked ++ with_line (if b then Some line else None) []
    by_owner true e =
        ap (map line_asked) (filter-append (is_asked_by p) asked (one ∷ []) ∙ rw e refl)
        ∙ map-append line_asked (filter (is_asked_by p) asked) (one ∷ [])
    by_owner false e =
        ap (map line_asked) (filter-append (is_asked_by p) asked (one ∷ []) ∙ rw e (append-nil (filter (is_asked_by p) asked)))
        ∙ sym (append-nil (lines_of_process p asked))

-- a thread stays in its process
lines-same : (m : State) (y : Turn) (p : ℕ) (xs : List Turn) → lines_asked (state_after_turn m y) p xs ≡ lines_asked m p xs
lines-same m y p [] = refl
lines-same m y p (x ∷ xs) =
    ap (λ (q : ℕ). with_line (if q == p then line_asked_by x.request else None) (lines_asked (state_after_turn m y) p xs))
    (process_of-step m y.thread x.thread y.request)
    ∙ ap (with_line (if process_of m x.thread == p then line_asked_by x.request else None)) (lines-same m y p xs)

lines_after :
    (m : State) (asked : List AskedLine) (xs : List Turn) (p : ℕ) →
    lines_of_process p (asked_after m asked xs) ≡ lines_of_process p asked ++ lines_asked m p xs
lines_after m asked [] p = sym (append-nil (lines_of_process p asked))
lines_after m asked (x ∷ xs) p =
    let own = process_of m x.thread
    in let more = asked_with asked own (line_in x.request)
    in lines_after (state_after_turn m x) more xs p
    ∙ ap (λ (ls : List (List ℕ)). lines_of_process p more ++ ls) (lines-same m x p xs)
    ∙ ap (λ (ls : List (List ℕ)). ls ++ lines_asked m p xs) (lines-with asked own p (line_in x.request))
    ∙ append_assoc (lines_of_process p asked) (with_line (if own == p then line_in x.request else None) []) (lines_asked m p xs)
    ∙ ap (λ (ls : List (List ℕ)). lines_of_process p asked ++ ls)
    (with_line-append (if own == p then line_in x.request else None) (lines_asked m p xs)
    ∙ ap (λ (o : Option (List ℕ)). with_line (if own == p then o else None) (lines_asked m p xs)) (sym (same-line x.request)))

replied : (asked : List AskedLine) (p : ℕ) (line : List ℕ) → cache_reply asked p line ≡ reply (lines_of_process p asked) line
unfolding cache_reply
replied asked p line = refl

-- what an event shows

what_is : (m : State) (t : ℕ) (q : Option Request) → what_of m t q ≡ what_done q (state_of m t)
what_is m t (Some r) = refl
what_is m t None = refl

answer_is : (s : ThreadState) (a : Answer) → with_output (output_at s) a ≡ answer_shown s a
answer_is is.Dormant a = refl
answer_is is.Running a = refl
answer_is (is.Idle since) a = refl
answer_is (is.Given item) a = refl
answer_is (is.Calling c) a = refl
answer_is (is.Getting port max nget one interrupted) a = refl
answer_is (is.Awaiting path) a = refl
answer_is (is.Working op input) a = refl
answer_is is.FailedReturn a = refl
answer_is is.Done a = refl

-- with the bytes of a reply
reply_is :
    (asked : List AskedLine) (p : ℕ) (before : List (List ℕ)) (q : Option Request) (a b : Answer) → lines_of_process p asked ≡ before → a ≡ b →
    with_output (reply_after asked p (line_in q)) a ≡ reply_shown before q b
reply_is asked p before None a b lines same = same
reply_is asked p before (Some (request.Ncd line)) a b lines same =
    ap answer.Data (replied asked p line ∙ ap (λ (ls : List (List ℕ)). reply ls line) lines)
reply_is asked p before (Some r) a b lines same = same

-- the process of a thread at a place, and the lines that it asked before
lines_before :
    (m : State) (xs : List Turn) (i t : ℕ) →
    lines_of_process (process_of (state_at m xs i) t) (asked_after m [] (take i xs)) ≡ lines_asked m (process_of m t) (take i xs)
lines_before m xs i t =
    lines_after m [] (take i xs) (process_of (state_at m xs i) t)
    ∙ ap (λ (p : ℕ). lines_asked m p (take i xs)) (process_of-state_after m (take i xs) t)

shows_turn : (m : State) (xs : List Turn) (i : ℕ) (x : Turn) → m.events ≡ 0 → slice_get xs i ≡ Some x →
    ShowsTurn m xs i x
    (with_reply (reply_after (asked_after m [] (take i xs)) (process_of (state_at m xs i) x.thread) (line_in x.request))
    (event_of (state_at m xs i) x.thread x.request))
shows_turn m xs i x none there =
    record {
      number = number-event_of m xs i x there ∙ omega (arith, none);
      thread = refl;
      root = refl;
      what = what_is (state_at m xs i) x.thread x.request;
      answer =
          reply_is (asked_after m [] (take i xs)) (process_of (state_at m xs i) x.thread) _ x.request _ _ (lines_before m xs i x.thread)
          (answer_is (state_of (state_at m xs i) x.thread) (answer_at m xs i x));
    }

same_event : (a b : Event) → Some a ≡ Some b → a ≡ b
same_event a b e = cc

pub events_shown : (m : State) (xs : List Turn) → m.events ≡ 0 → EventsShown m xs
events_shown m xs none =
    record {
      one_each = length-events m [] xs;
      each = λ i x e there shown.
          subst (ShowsTurn m xs i x) (same_event _ e (sym (event_at m [] xs i x there) ∙ shown)) (shows_turn m xs i x none there);
    }
