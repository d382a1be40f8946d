-- A text has one first difference at most, and the verdict tells it.
use Rattle.std.proofs.Common.{◌≡◌, ◌⊎◌, inl, inr, ℕ, zero, suc, ◌+◌, ◌-◌, ◌<◌, true, false, List, [], ◌∷◌, length, take, Option, Some, None, refl, sym, ap, ◌∙◌, subst, arith}
use Rattle.std.specs.Prelude.{slice_get}
use Rattle.std.proofs.lemmas.Bool.{false≢true}
use Rattle.std.proofs.lemmas.List.{take-take}
use Rattle.std.proofs.lemmas.Option.{slice_get_past}
use Rattle.line_text.specs.Words.{lines_of}
use Rattle.script_lang.specs.Words.{ScriptValue, spells}
use Rattle.spec_requests.specs.Words.{thread_in_line}
use Rattle.spec_kernel.specs.Words.{waiting_threads}
use Rattle.spec_scripts.specs.Words.{History, ending_of, first_history, history_after}
use Rattle.spec_traces.specs.declared.verdict.Verdict.{Verdict}
use Rattle.spec_traces.specs.declared.verdict.Verdict.TheVariants.{Legal, Differs}
use Rattle.spec_traces.specs.FirstDifferences.{IsFirstDifference, IsNamedTurn, IsOtherTurn, IsWanted, line_at, lines_before}
use Rattle.spec_traces.specs.FirstDifferences.IsWanted.{named_turn, only_line, nothing, other_turn}
use Rattle.spec_traces.specs.LegalTraces.{IsLegal}
use Rattle.spec_traces.specs.Turns.{begins_with_digit}
use Rattle.spec_traces.specs.Verdicts.{end_line_after, line_of_turn, verdict}
use Rattle.spec_traces.proofs.Differences.{first_difference, lines_of_legal, readable_first, turns_of_legal}
use Rattle.spec_traces.proofs.EventLines.{end_line_no_digit}
use Rattle.spec_traces.proofs.Leaving.{ReadableFrom, read_first, readable_after, trace_from}
use Rattle.spec_traces.proofs.Legal.{legal_found}
use Rattle.spec_traces.proofs.PlayedOn.{IsToEnd, turns_rest}
use Rattle.spec_traces.proofs.TraceLines.{tail_lines}

-- two traces with so many lines in common

no_digit_twice : (a b : List ℕ) → a ≡ b → begins_with_digit a ≡ true → begins_with_digit b ≡ false → ⊥
no_digit_twice a b same digit none = false≢true (sym none ∙ ap begins_with_digit (sym same) ∙ digit)

end_no_digit : (script : ScriptValue) (h : History) → begins_with_digit (end_line_after script h) ≡ false
end_no_digit script h = end_line_no_digit script (ending_of h.state) (length h.events) (waiting_threads h.state)

-- the line of an event does not stand at the end
no_event_line : (script : ScriptValue) (h : History) (tail : Option ℕ) (k : ℕ) (a : List ℕ)
    → slice_get (end_line_after script h ∷ tail_lines tail) k ≡ Some a → begins_with_digit a ≡ true → ⊥
no_event_line script h tail zero a e digit =
    let same : a ≡ end_line_after script h = cc in
    no_digit_twice a (end_line_after script h) same digit (end_no_digit script h)
no_event_line script h None (suc k) a e digit = cc
no_event_line script h (Some n) (suc zero) a e digit = let same : a ≡ _ = sym (some_same _ a e) in no_digit_twice a _ same digit refl
  where
    some_same : (x y : List ℕ) → Some x ≡ Some y → x ≡ y
    some_same x y e = cc
no_event_line script h (Some n) (suc (suc k)) a e digit = cc

same_threads : (o : Option ℕ) (t u : ℕ) → o ≡ Some t → o ≡ Some u → u ≡ t
same_threads None t u e f = cc
same_threads (Some v) t u e f = cc

-- both take the same turn first, where their lines name the same thread
same_first : (script : ScriptValue) (h : History) (t u : ℕ) (ts us : List ℕ) → ReadableFrom script h → IsToEnd script h (t ∷ ts) → IsToEnd script h (u ∷ us)
    → thread_in_line script (line_of_turn script h t) ≡ thread_in_line script (line_of_turn script h u) → u ≡ t
same_first script h t u ts us readable first second same =
    same_threads (thread_in_line script (line_of_turn script h t)) t u (read_first script h t ts readable first).thread
    (same ∙ (read_first script h u us readable second).thread)

some_is : (x y : List ℕ) → Some x ≡ Some y → x ≡ y
some_is x y e = cc

-- then their next lines are the same, where both are of events and name the same thread
one_line :
    (script : ScriptValue) (k : ℕ) (h : History) (ts us : List ℕ) (tail last : Option ℕ) (a b : List ℕ) → ReadableFrom script h → IsToEnd script h ts →
    IsToEnd script h us →
    take k (trace_from script h ts tail) ≡ take k (trace_from script h us last) → slice_get (trace_from script h ts tail) k ≡ Some a →
    begins_with_digit a ≡ true →
    slice_get (trace_from script h us last) k ≡ Some b → begins_with_digit b ≡ true → thread_in_line script a ≡ thread_in_line script b → a ≡ b
one_line script k h [] us tail last a b readable first second same at digit at_other other named = absurd (no_event_line script h tail k a at digit)
one_line script k h (t ∷ ts) [] tail last a b readable first second same at digit at_other other named = absurd (no_event_line script h last k b at_other other)
one_line script zero h (t ∷ ts) (u ∷ us) tail last a b readable first second same at digit at_other other named =
    let is : line_of_turn script h t ≡ a = some_is _ a at in
    let is_other : line_of_turn script h u ≡ b = some_is _ b at_other in
    let turn : u ≡ t = same_first script h t u ts us readable first second
    (ap (thread_in_line script) is ∙ named ∙ ap (thread_in_line script) (sym is_other)) in
    sym is ∙ ap (line_of_turn script h) (sym turn) ∙ is_other
one_line script (suc k) h (t ∷ ts) (u ∷ us) tail last a b readable first second same at digit at_other other named =
    let heads : line_of_turn script h t ≡ line_of_turn script h u = cc in
    let tails : take k (trace_from script (history_after script h t) ts tail) ≡ take k (trace_from script (history_after script h u) us last) = cc in
    let turn : u ≡ t = same_first script h t u ts us readable first second (ap (thread_in_line script) heads) in
    one_line script k (history_after script h t) ts us tail last a b
    (readable_after script h t first.runnable.0 readable)
    (turns_rest script h t ts first)
    (subst (λ v. IsToEnd script (history_after script h v) us) turn (turns_rest script h u us second))
    (subst (λ v. take k (trace_from script (history_after script h t) ts tail) ≡ take k (trace_from script (history_after script h v) us last)) turn tails)
    at
    digit
    (subst (λ v. slice_get (trace_from script (history_after script h v) us last) k ≡ Some b) turn at_other)
    other
    named

-- then the one does not end where the other has a line of an event
goes_on :
    (script : ScriptValue) (k : ℕ) (h : History) (ts us : List ℕ) (tail last : Option ℕ) (a : List ℕ) → ReadableFrom script h → IsToEnd script h ts →
    IsToEnd script h us →
    take k (trace_from script h ts tail) ≡ take k (trace_from script h us last) → slice_get (trace_from script h ts tail) k ≡ Some a →
    begins_with_digit a ≡ true →
    length (trace_from script h us last) ≡ k → ⊥
goes_on script k h [] us tail last a readable first second same at digit all = no_event_line script h tail k a at digit
goes_on script zero h (t ∷ ts) [] tail last a readable first second same at digit all = omega (arith, all)
goes_on script zero h (t ∷ ts) (u ∷ us) tail last a readable first second same at digit all = omega (arith, all)
goes_on script (suc k) h (t ∷ ts) [] tail last a readable first second same at digit all =
    let heads : line_of_turn script h t ≡ end_line_after script h = cc in
    no_digit_twice (line_of_turn script h t) (end_line_after script h) heads (read_first script h t ts readable first).digit (end_no_digit script h)
goes_on script (suc k) h (t ∷ ts) (u ∷ us) tail last a readable first second same at digit all =
    let heads : line_of_turn script h t ≡ line_of_turn script h u = cc in
    let tails : take k (trace_from script (history_after script h t) ts tail) ≡ take k (trace_from script (history_after script h u) us last) = cc in
    let turn : u ≡ t = same_first script h t u ts us readable first second (ap (thread_in_line script) heads) in
    goes_on script k (history_after script h t) ts us tail last a
    (readable_after script h t first.runnable.0 readable)
    (turns_rest script h t ts first)
    (subst (λ v. IsToEnd script (history_after script h v) us) turn (turns_rest script h u us second))
    (subst (λ v. take k (trace_from script (history_after script h t) ts tail) ≡ take k (trace_from script (history_after script h v) us last)) turn tails)
    at
    digit
    (subst (λ v. length (trace_from script (history_after script h v) us last) ≡ k) turn (omega (arith, all)))

-- the same of texts

legal_one_line :
    (source : List ℕ) (script : ScriptValue) (text other : List ℕ) (n m k : ℕ) (a b : List ℕ) → spells source script → IsLegal script text n →
    IsLegal script other m →
    take k (lines_of text) ≡ take k (lines_of other) → slice_get (lines_of text) k ≡ Some a → begins_with_digit a ≡ true →
    slice_get (lines_of other) k ≡ Some b → begins_with_digit b ≡ true →
    thread_in_line script a ≡ thread_in_line script b → a ≡ b
legal_one_line source script text other n m k a b s is is_other same at digit at_other other_digit named =
    let lines = lines_of_legal source script text is.turns s is.is_trace in
    let others = lines_of_legal source script other is_other.turns s is_other.is_trace in
    one_line script k (first_history script) is.turns is_other.turns is.is_trace.tail is_other.is_trace.tail a b (readable_first source script s)
    (turns_of_legal script text is.turns is.is_trace)
    (turns_of_legal script other is_other.turns is_other.is_trace)
    (ap (take k) (sym lines) ∙ same ∙ ap (take k) others)
    (ap (λ (xs : List (List ℕ)). slice_get xs k) (sym lines) ∙ at)
    digit
    (ap (λ (xs : List (List ℕ)). slice_get xs k) (sym others) ∙ at_other)
    other_digit
    named

legal_goes_on :
    (source : List ℕ) (script : ScriptValue) (text other : List ℕ) (n m k : ℕ) (a : List ℕ) → spells source script → IsLegal script text n →
    IsLegal script other m →
    take k (lines_of text) ≡ take k (lines_of other) → slice_get (lines_of text) k ≡ Some a → begins_with_digit a ≡ true → length (lines_of other) ≡ k → ⊥
legal_goes_on source script text other n m k a s is is_other same at digit all =
    let lines = lines_of_legal source script text is.turns s is.is_trace in
    let others = lines_of_legal source script other is_other.turns s is_other.is_trace in
    goes_on script k (first_history script) is.turns is_other.turns is.is_trace.tail is_other.is_trace.tail a (readable_first source script s)
    (turns_of_legal script text is.turns is.is_trace)
    (turns_of_legal script other is_other.turns is_other.is_trace)
    (ap (take k) (sym lines) ∙ same ∙ ap (take k) others)
    (ap (λ (xs : List (List ℕ)). slice_get xs k) (sym lines) ∙ at)
    digit
    (ap length (sym others) ∙ all)

-- a trace of a legal run with the text's lines before one
record IsNear (script : ScriptValue) (text : List ℕ) (line : ℕ) (trace : List ℕ) : Type 0 where
  pub events : ℕ
  pub is_legal : IsLegal script trace events
  pub before : lines_before trace line ≡ lines_before text line

two_lines : (o : Option (List ℕ)) (a b : List ℕ) → o ≡ Some a → o ≡ Some b → a ≡ b
two_lines None a b e f = cc
two_lines (Some x) a b e f = cc

-- nothing stands after the last line
none_after : (trace : List ℕ) (line : ℕ) (a : List ℕ) → length (lines_of trace) + 1 ≡ line → line_at trace line ≡ Some a → ⊥
none_after trace line a all at = no_line (line_at trace line) a (slice_get_past (lines_of trace) (line - 1) (omega (arith, all))) at
  where
    no_line : (o : Option (List ℕ)) (a : List ℕ) → o ≡ None → o ≡ Some a → ⊥
    no_line None a e f = cc
    no_line (Some x) a e f = cc

-- what is wanted is one

module _ (source : List ℕ) (script : ScriptValue) (text : List ℕ) (line : ℕ) (have : List ℕ) (s : spells source script) where
  turn_or_nothing : (w first second : List ℕ) → IsNear script text line first → IsNear script text line second
      → IsNamedTurn script w have (line_at first line) → length (lines_of second) + 1 ≡ line → ⊥
  turn_or_nothing w first second is is_second named all =
      legal_goes_on source script first second is.events is_second.events (line - 1) w s is.is_legal is_second.is_legal (is.before ∙ sym is_second.before)
      named.stands named.digit (omega (arith, all))

  turn_or_other : (w there : List ℕ) (o : Option (List ℕ)) → IsNamedTurn script w have o → IsOtherTurn script have o → ⊥
  turn_or_other w there o named is = is.other (ap (thread_in_line script) (two_lines o is.turn w is.stands named.stands) ∙ named.same)

  line_or_other : (w : List ℕ) (o : Option (List ℕ)) → begins_with_digit w ≡ false → o ≡ Some w → IsOtherTurn script have o → ⊥
  line_or_other w o no_digit at is = no_digit_twice is.turn w (two_lines o is.turn w is.stands at) is.digit no_digit

  one_wanted : (v w first second : List ℕ) → IsNear script text line first → IsNear script text line second → IsWanted script text line v have first
      → IsWanted script text line w have second → v ≡ w
  one_wanted v w first second is is_second (named_turn a) (named_turn b) =
      legal_one_line source script first second is.events is_second.events (line - 1) v w s is.is_legal is_second.is_legal (is.before ∙ sym is_second.before)
      a.stands a.digit b.stands b.digit
      (a.same ∙ sym b.same)
  one_wanted v w first second is is_second (named_turn a) (only_line no_digit each) =
      two_lines (line_at first line) v w a.stands (each first is.events is.is_legal is.before)
  one_wanted v w first second is is_second (named_turn a) (nothing e all) = absurd (turn_or_nothing v first second is is_second a all)
  one_wanted v w first second is is_second (named_turn a) (other_turn e each) =
      absurd (turn_or_other v v (line_at first line) a (each first is.events is.is_legal is.before))
  one_wanted v w first second is is_second (only_line no_digit each) (named_turn b) =
      two_lines (line_at second line) v w (each second is_second.events is_second.is_legal is_second.before) b.stands
  one_wanted v w first second is is_second (only_line no_digit each) (only_line other_no_digit other_each) =
      two_lines (line_at first line) v w (each first is.events is.is_legal is.before) (other_each first is.events is.is_legal is.before)
  one_wanted v w first second is is_second (only_line no_digit each) (nothing e all) =
      absurd (none_after second line v all (each second is_second.events is_second.is_legal is_second.before))
  one_wanted v w first second is is_second (only_line no_digit each) (other_turn e other_each) =
      absurd (line_or_other v (line_at first line) no_digit (each first is.events is.is_legal is.before) (other_each first is.events is.is_legal is.before))
  one_wanted v w first second is is_second (nothing e all) (named_turn b) = absurd (turn_or_nothing w second first is_second is b all)
  one_wanted v w first second is is_second (nothing e all) (only_line no_digit each) =
      absurd (none_after first line w all (each first is.events is.is_legal is.before))
  one_wanted v w first second is is_second (nothing e all) (nothing f others) = e ∙ sym f
  one_wanted v w first second is is_second (nothing e all) (other_turn f each) =
      let other : IsOtherTurn script have (line_at first line) = each first is.events is.is_legal is.before in
      absurd (none_after first line other.turn all other.stands)
  one_wanted v w first second is is_second (other_turn e each) (named_turn b) =
      absurd (turn_or_other w w (line_at second line) b (each second is_second.events is_second.is_legal is_second.before))
  one_wanted v w first second is is_second (other_turn e each) (only_line no_digit other_each) =
      absurd (line_or_other w (line_at first line) no_digit (other_each first is.events is.is_legal is.before) (each first is.events is.is_legal is.before))
  one_wanted v w first second is is_second (other_turn e each) (nothing f all) =
      let other : IsOtherTurn script have (line_at second line) = each second is_second.events is_second.is_legal is_second.before in
      absurd (none_after second line other.turn all other.stands)
  one_wanted v w first second is is_second (other_turn e each) (other_turn f other_each) = e ∙ sym f

near : (script : ScriptValue) (text : List ℕ) (line : ℕ) (want have : List ℕ) → (is : IsFirstDifference script text line want have)
    → IsNear script text line is.trace
near script text line want have is = record { events = is.events; is_legal = is.is_legal; before = is.before }

-- no first difference stands before another
not_before : (script : ScriptValue) (text : List ℕ) (l m : ℕ) (v w x y : List ℕ) → IsFirstDifference script text l v x → IsFirstDifference script text m w y
    → l < m → ⊥
not_before script text l m v w x y first second less =
    first.none second.trace second.events second.is_legal
    (sym (take-take l (m - 1) (lines_of second.trace) (omega (arith, less)))
    ∙ ap (take l) second.before
    ∙ take-take l (m - 1) (lines_of text) (omega (arith, less)))

one_place : (l m : ℕ) → (l < m → ⊥) → (m < l → ⊥) → l ≡ m
one_place l m not_less not_more = by_order (order l m)
  where
    order : (l m : ℕ) → (l < m) ⊎ ((m < l) ⊎ (l ≡ m))
    order zero zero = inr (inr refl)
    order zero (suc m) = inl (omega arith)
    order (suc l) zero = inr (inl (omega arith))
    order (suc l) (suc m) = more (order l m)
      where
        more : (l < m) ⊎ ((m < l) ⊎ (l ≡ m)) → (suc l < suc m) ⊎ ((suc m < suc l) ⊎ (suc l ≡ suc m))
        more (inl less) = inl (omega (arith, less))
        more (inr (inl less)) = inr (inl (omega (arith, less)))
        more (inr (inr same)) = inr (inr (ap suc same))

    by_order : (l < m) ⊎ ((m < l) ⊎ (l ≡ m)) → l ≡ m
    by_order (inl less) = absurd (not_less less)
    by_order (inr (inl more)) = absurd (not_more more)
    by_order (inr (inr same)) = same

same_place : (source : List ℕ) (script : ScriptValue) (text : List ℕ) (l : ℕ) (v w x y : List ℕ) → spells source script → IsFirstDifference script text l v x
    → IsFirstDifference script text l w y
    → Differs l v x ≡ Differs l w y
same_place source script text l v w x y s first second =
    let haves : y ≡ x = sym second.stands ∙ first.stands in
    let wants : v ≡ w =
    one_wanted source script text l x s v w first.trace second.trace (near script text l v x first) (near script text l w y second)
    first.wanted
    (subst (λ (z : List ℕ). IsWanted script text l w z second.trace) haves second.wanted) in
    ap (λ (z : List ℕ). Differs l z x) wants ∙ ap (Differs l w) (sym haves)

one_difference : (source : List ℕ) (script : ScriptValue) (text : List ℕ) (l m : ℕ) (v w x y : List ℕ) → spells source script
    → IsFirstDifference script text l v x → IsFirstDifference script text m w y
    → Differs l v x ≡ Differs m w y
one_difference source script text l m v w x y s first second =
    let place : l ≡ m =
    one_place l m
    (λ less. not_before script text l m v w x y first second less)
    (λ less. not_before script text m l w v y x second first less) in
    ap (λ (n : ℕ). Differs n v x) place
    ∙ same_place source script text m v w x y s (subst (λ (n : ℕ). IsFirstDifference script text n v x) place first) second

-- the verdict on a text with a first difference
pub difference_again : (source : List ℕ) (script : ScriptValue) (text : List ℕ) (line : ℕ) (want have : List ℕ) → spells source script
    → IsFirstDifference script text line want have
    → verdict script text ≡ Differs line want have
difference_again source script text line want have s is = by_verdict (verdict script text) refl
  where
    by_verdict : (v : Verdict) → verdict script text ≡ v → verdict script text ≡ Differs line want have
    by_verdict (Legal n) e = absurd (is.none text n (legal_found source script text n s e) refl)
    by_verdict (Differs l v x) e = e ∙ one_difference source script text l line v want x have s (first_difference source script text l v x s e) is
