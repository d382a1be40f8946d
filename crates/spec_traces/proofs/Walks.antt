-- The verdict on lines, by the turns that they tell.
use Rattle.std.proofs.Common.{◌≡◌, ◌⊎◌, inl, inr, ℕ, zero, suc, ◌+◌, ◌≤◌, ◌<◌, ◌^◌, Bool, true, false, cond, List, [], ◌∷◌, ◌++◌, length, take, drop, Option, Some, None, refl, sym, ap, ◌∙◌, subst, arith, length-append, take-append-drop}
use Rattle.std.specs.Prelude.{IfSome, bytes_eq, codes, decimal, is_none, nat_le}
use Rattle.std.proofs.lemmas.Bool.{and_parts, false≢true, or_parts}
use Rattle.std.proofs.lemmas.Bool.Decides.{nat_tests}
use Rattle.std.proofs.lemmas.List.Elements.{All-head, All-tail}
use Rattle.std.proofs.lemmas.Slice.Eq.{bytes_eq-Decides}
use Rattle.line_text.specs.declared.number.Number.{Number}
use Rattle.line_text.specs.declared.number.Number.TheVariants.{Found, OutOfRange, NoNumber}
use Rattle.line_text.specs.Words.{bounded_number}
use Rattle.line_text.proofs.DecimalWords.{number_again, number_found}
use Rattle.script_lang.specs.Words.{ScriptValue}
use Rattle.spec_requests.specs.Words.{thread_in_line}
use Rattle.spec_kernel.specs.Words.{State, is_runnable, least_among, least_or, least_runnable}
use Rattle.spec_scripts.specs.Words.{History, event_at_turn, history_after, is_over, run_from}
use Rattle.spec_scripts.specs.ScriptRuns.{AreRunnableFrom}
use Rattle.spec_scripts.proofs.RunTurns.{is_runnable-there}
use Rattle.spec_traces.specs.declared.verdict.Verdict.TheVariants.{Legal, Differs}
use Rattle.spec_traces.specs.Turns.{HasReadableLine}
use Rattle.spec_traces.specs.Verdicts.{end_line_after, if_runnable, is_found, is_tail_line, line_of_turn, turn_in_line, verdict_after_end, verdict_after_tail, verdict_at_end, verdict_from, verdict_of_turn}
use Rattle.spec_traces.proofs.TraceLines.{AreReadable, events_from, lines_of_events, tail_lines}

pub same_bytes : (xs ys : List ℕ) → bytes_eq xs ys ≡ true → xs ≡ ys
same_bytes xs ys e = (bytes_eq-Decides xs ys).0 e

pub own_bytes : (xs : List ℕ) → bytes_eq xs xs ≡ true
own_bytes xs = (bytes_eq-Decides xs xs).1 refl

-- lines after the end line

pub record IsTailLine (n : ℕ) (line : List ℕ) : Type 0 where
  pub number : ℕ
  pub small : number ≤ n
  pub spelled : line ≡ codes "tail " ++ decimal number

tail_by : (n : ℕ) (line : List ℕ) (x : Number) → n < 2 ^ 64 → take 5 line ≡ codes "tail " → bounded_number 0 n (drop 5 line) ≡ x → is_found x ≡ true → IsTailLine n line
tail_by n line (Found k) below front e found =
    let is = number_found 0 n (drop 5 line) k below e in
    record {
      number = k;
      small = is.most;
      spelled = sym (take-append-drop 5 line) ∙ ap (λ xs. xs ++ drop 5 line) front ∙ ap (λ xs. codes "tail " ++ xs) is.spelled;
    }
tail_by n line OutOfRange below front e found = absurd (false≢true found)
tail_by n line NoNumber below front e found = absurd (false≢true found)

pub tail_line_found : (n : ℕ) (line : List ℕ) → n < 2 ^ 64 → is_tail_line n line ≡ true → IsTailLine n line
tail_line_found n line below h =
    let p = and_parts (bytes_eq (take 5 line) (codes "tail ")) (is_found (bounded_number 0 n (drop 5 line))) h in
    tail_by n line (bounded_number 0 n (drop 5 line)) below (same_bytes (take 5 line) (codes "tail ") p.0) refl p.1

pub tail_line_again : (n k : ℕ) → n < 2 ^ 64 → k ≤ n → is_tail_line n (codes "tail " ++ decimal k) ≡ true
tail_line_again n k below small = ap is_found (number_again 0 n k (omega arith) small below)

-- the lines after the end line, where the verdict is legal
pub record IsTail (n : ℕ) (lines : List (List ℕ)) : Type 0 where
  pub tail : Option ℕ
  pub small : IfSome tail (λ k. k ≤ n)
  pub all : lines ≡ tail_lines tail

legal_count : (m n : ℕ) → Legal m ≡ Legal n → m ≡ n
legal_count m n e = cc

after_tail : (n m : ℕ) (line : List ℕ) (lines : List (List ℕ)) → IsTailLine n line → verdict_after_tail n lines ≡ Legal m → (n ≡ m) × IsTail n (line ∷ lines)
after_tail n m line [] is e = (legal_count n m e, record { tail = Some is.number; small = is.small; all = ap (λ l. l ∷ []) is.spelled })
after_tail n m line (other ∷ lines) is e = cc

by_tail : (n m : ℕ) (line : List ℕ) (lines : List (List ℕ)) (b : Bool) → n < 2 ^ 64 → is_tail_line n line ≡ b → cond b (verdict_after_tail n lines) (Differs (n + 2) [] line) ≡ Legal m
    → (n ≡ m) × IsTail n (line ∷ lines)
by_tail n m line lines true below is e = after_tail n m line lines (tail_line_found n line below is) e
by_tail n m line lines false below is e = cc

pub after_end : (n m : ℕ) (lines : List (List ℕ)) → n < 2 ^ 64 → verdict_after_end n lines ≡ Legal m → (n ≡ m) × IsTail n lines
after_end n m [] below e = (legal_count n m e, record { tail = None; small = tt; all = refl })
after_end n m (line ∷ lines) below e = by_tail n m line lines (is_tail_line n line) below refl e

pub after_end_again : (n : ℕ) (tail : Option ℕ) → n < 2 ^ 64 → IfSome tail (λ k. k ≤ n) → verdict_after_end n (tail_lines tail) ≡ Legal n
after_end_again n None below small = refl
after_end_again n (Some k) below small = rw (tail_line_again n k below small) refl

-- the lines of a legal trace from a history on
pub record IsWalked (script : ScriptValue) (h : History) (lines : List (List ℕ)) (n : ℕ) : Type 0 where
  pub turns : List ℕ
  pub runnable : AreRunnableFrom script h turns
  pub over : is_over script (run_from script h turns) ≡ true
  pub count : length h.events + length turns ≡ n
  pub within : n ≤ script.budget
  pub tail : Option ℕ
  pub small : IfSome tail (λ k. k ≤ n)
  pub all : lines ≡ lines_of_events script (events_from script h turns) ++ end_line_after script (run_from script h turns) ∷ tail_lines tail

-- the run is over

ended : (script : ScriptValue) (h : History) (lines : List (List ℕ)) (n : ℕ) → is_over script h ≡ true → length h.events ≤ script.budget → (length h.events ≡ n) × IsTail (length h.events) lines
    → IsWalked script h (end_line_after script h ∷ lines) n
ended script h lines n over few (count, is) =
    record {
      turns = [];
      runnable = tt;
      over = over;
      count = omega (arith, count);
      within = omega (arith, count, few);
      tail = is.tail;
      small = subst (λ (m : ℕ). IfSome is.tail (λ k. k ≤ m)) count is.small;
      all = ap (λ more. end_line_after script h ∷ more) is.all;
    }

by_end_line : (script : ScriptValue) (h : History) (line : List ℕ) (lines : List (List ℕ)) (n : ℕ) (b : Bool) → is_over script h ≡ true → length h.events ≤ script.budget → length h.events < 2 ^ 64
    → bytes_eq line (end_line_after script h) ≡ b → cond b (verdict_after_end (length h.events) lines) (Differs (length h.events + 1) (end_line_after script h) line) ≡ Legal n
    → IsWalked script h (line ∷ lines) n
by_end_line script h line lines n true over few below same e =
    subst (λ first. IsWalked script h (first ∷ lines) n) (sym (same_bytes line (end_line_after script h) same))
    (ended script h lines n over few (after_end (length h.events) n lines below e))
by_end_line script h line lines n false over few below same e = cc

at_end : (script : ScriptValue) (h : History) (lines : List (List ℕ)) (n : ℕ) → is_over script h ≡ true → length h.events ≤ script.budget → length h.events < 2 ^ 64 → verdict_at_end script h lines ≡ Legal n
    → IsWalked script h lines n
at_end script h [] n over few below e = cc
at_end script h (line ∷ lines) n over few below e = by_end_line script h line lines n (bytes_eq line (end_line_after script h)) over few below refl e

-- the run is not over

pub length-history_after : (script : ScriptValue) (h : History) (t : ℕ) → length (history_after script h t).events ≡ length h.events + 1
length-history_after script h t = simp length-append refl

taken : (script : ScriptValue) (h : History) (t : ℕ) (line : List ℕ) (lines : List (List ℕ)) (n : ℕ) → is_runnable h.state t ≡ true → line ≡ line_of_turn script h t → IsWalked script (history_after script h t) lines n
    → IsWalked script h (line ∷ lines) n
taken script h t line lines n can same rest =
    let one : length (history_after script h t).events ≡ length h.events + 1 = length-history_after script h t in
    record {
      turns = t ∷ rest.turns;
      runnable = (can, rest.runnable);
      over = rest.over;
      count = omega (arith, one, rest.count);
      within = rest.within;
      tail = rest.tail;
      small = rest.small;
      all = ap (λ first. first ∷ lines) same ∙ ap (λ more. line_of_turn script h t ∷ more) rest.all;
    }

-- what is said of the lines after a turn
abbrev Walks : ScriptValue → History → List (List ℕ) → ℕ → Type 0
Walks script h lines n = length h.events ≤ script.budget → verdict_from script h lines ≡ Legal n → IsWalked script h lines n

by_line : (script : ScriptValue) (h : History) (t : ℕ) (line : List ℕ) (lines : List (List ℕ)) (n : ℕ) (b : Bool) → is_runnable h.state t ≡ true → length h.events < script.budget
    → Walks script (history_after script h t) lines n → bytes_eq line (line_of_turn script h t) ≡ b
    → cond b (verdict_from script (history_after script h t) lines) (Differs (length h.events + 1) (line_of_turn script h t) line) ≡ Legal n → IsWalked script h (line ∷ lines) n
by_line script h t line lines n true can left rest same e =
    let one : length (history_after script h t).events ≡ length h.events + 1 = length-history_after script h t in
    taken script h t line lines n can (same_bytes line (line_of_turn script h t) same) (rest (omega (arith, one, left)) e)
by_line script h t line lines n false can left rest same e = cc

pub can_take : (m : State) (o : Option ℕ) (t : ℕ) → if_runnable m o ≡ Some t → is_runnable m t ≡ true
can_take m None t e = cc
can_take m (Some u) t e = by_test (is_runnable m u) refl e
  where
    by_test : (b : Bool) → is_runnable m u ≡ b → cond b (Some u) None ≡ Some t → is_runnable m t ≡ true
    by_test true can e = let same : u ≡ t = cc in subst (λ v. is_runnable m v ≡ true) same can
    by_test false can e = cc

by_turn : (script : ScriptValue) (h : History) (line : List ℕ) (lines : List (List ℕ)) (n : ℕ) (o : Option ℕ) → turn_in_line script h.state line ≡ o → length h.events < script.budget
    → ((t : ℕ) → Walks script (history_after script h t) lines n) → verdict_of_turn script h line (λ t. verdict_from script (history_after script h t) lines) o ≡ Legal n → IsWalked script h (line ∷ lines) n
by_turn script h line lines n None is left rest e = cc
by_turn script h line lines n (Some t) is left rest e =
    by_line script h t line lines n (bytes_eq line (line_of_turn script h t)) (can_take h.state (thread_in_line script line) t is) left (rest t) refl e

pub left_if : (script : ScriptValue) (h : History) → is_over script h ≡ false → length h.events < script.budget
left_if script h e = below script.budget (length h.events) (or_parts (is_none (least_runnable h.state)) (nat_le script.budget (length h.events)) e).1
  where
    below : (m n : ℕ) → nat_le m n ≡ false → n < m
    below m n e = grind (arith, nat_tests)

by_over : (script : ScriptValue) (h : History) (line : List ℕ) (lines : List (List ℕ)) (n : ℕ) (b : Bool) → script.budget < 2 ^ 64 → is_over script h ≡ b → length h.events ≤ script.budget
    → ((t : ℕ) → Walks script (history_after script h t) lines n)
    → cond b (verdict_at_end script h (line ∷ lines)) (verdict_of_turn script h line (λ t. verdict_from script (history_after script h t) lines) (turn_in_line script h.state line)) ≡ Legal n
    → IsWalked script h (line ∷ lines) n
by_over script h line lines n true small over few rest e = at_end script h (line ∷ lines) n over few (omega arith) e
by_over script h line lines n false small over few rest e = by_turn script h line lines n (turn_in_line script h.state line) refl (left_if script h over) rest e

without_line : (script : ScriptValue) (h : History) (n : ℕ) (b : Bool) → cond b (Differs (length h.events + 1) (end_line_after script h) []) (Differs (length h.events + 1) (codes "turn") []) ≡ Legal n → ⊥
without_line script h n true e = cc
without_line script h n false e = cc

-- where the verdict is legal, the lines are those of a run to its end
pub walked : (script : ScriptValue) (lines : List (List ℕ)) (h : History) (n : ℕ) → script.budget < 2 ^ 64 → length h.events ≤ script.budget → verdict_from script h lines ≡ Legal n → IsWalked script h lines n
walked script [] h n small few e = absurd (without_line script h n (is_over script h) e)
walked script (line ∷ lines) h n small few e =
    by_over script h line lines n (is_over script h) small refl few (λ t rest_few rest. walked script lines (history_after script h t) n small rest_few rest) e

-- and the other way

some_least : (m : State) (n t : ℕ) → 1 ≤ t → t ≤ n → is_runnable m t ≡ true → is_none (least_among m n) ≡ false
some_least m zero t least most can = absurd (omega (arith, least, most))
some_least m (suc n) t least most can = by_place (last_or t n most) (λ earlier. some_least m n t least earlier can)
  where
    last_or : (t n : ℕ) → t ≤ suc n → (t ≡ suc n) ⊎ (t ≤ n)
    last_or t n most = grind arith

    here : (o : Option ℕ) (b : Bool) → b ≡ true → is_none (least_or o b (suc n)) ≡ false
    here (Some u) b e = refl
    here None true e = refl
    here None false e = absurd (false≢true e)

    before : (o : Option ℕ) (b : Bool) → is_none o ≡ false → is_none (least_or o b (suc n)) ≡ false
    before (Some u) b e = refl
    before None b e = cc

    by_place : (t ≡ suc n) ⊎ (t ≤ n) → (t ≤ n → is_none (least_among m n) ≡ false) → is_none (least_or (least_among m n) (is_runnable m (suc n)) (suc n)) ≡ false
    by_place (inl last) rest = here (least_among m n) (is_runnable m (suc n)) (subst (λ u. is_runnable m u ≡ true) last can)
    by_place (inr earlier) rest = before (least_among m n) (is_runnable m (suc n)) (rest earlier)

pub not_over : (script : ScriptValue) (h : History) (t : ℕ) → is_runnable h.state t ≡ true → length h.events < script.budget → is_over script h ≡ false
not_over script h t can left =
    let there = is_runnable-there h.state t can in
    let some : is_none (least_runnable h.state) ≡ false = some_least h.state (length h.state.process_table.threads) t there.0 there.1 can in
    rw some (above script.budget (length h.events) left)
  where
    above : (m n : ℕ) → n < m → nat_le m n ≡ false
    above m n e = grind (arith, nat_tests)

pub named_turn : (script : ScriptValue) (m : State) (line : List ℕ) (t : ℕ) → thread_in_line script line ≡ Some t → is_runnable m t ≡ true → turn_in_line script m line ≡ Some t
named_turn script m line t named can = rw named (rw can refl)

-- the verdict on the lines of a run from a history to its end
pub walked_again :
    (script : ScriptValue) (ts : List ℕ) (h : History) (tail : Option ℕ) → script.budget < 2 ^ 64 → AreReadable script (events_from script h ts) → AreRunnableFrom script h ts →
    length h.events + length ts ≤ script.budget → is_over script (run_from script h ts) ≡ true → IfSome tail (λ k. k ≤ length h.events + length ts) →
    verdict_from script h (lines_of_events script (events_from script h ts) ++ end_line_after script (run_from script h ts) ∷ tail_lines tail) ≡ Legal (length h.events + length ts)
walked_again script [] h tail small readable runnable within over few =
    let count : length h.events + 0 ≡ length h.events = omega arith in
    rw (over, own_bytes (end_line_after script h), count)
    (after_end_again (length h.events) tail (omega (arith, small, within)) (subst (λ (m : ℕ). IfSome tail (λ k. k ≤ m)) count few))
walked_again script (t ∷ ts) h tail small readable (can, rest) within over few =
    let next = history_after script h t in
    let event = event_at_turn script h t in
    let one : length next.events ≡ length h.events + 1 = length-history_after script h t in
    let count : length next.events + length ts ≡ length h.events + length (t ∷ ts) = omega (arith, one) in
    let named : thread_in_line script (line_of_turn script h t) ≡ Some t = (All-head (HasReadableLine script) event (events_from script next ts) readable).thread in
    rw (not_over script h t can (omega (arith, within)), named_turn script h.state (line_of_turn script h t) t named can, own_bytes (line_of_turn script h t), ← count)
    (walked_again script ts next tail small (All-tail (HasReadableLine script) event (events_from script next ts) readable) rest (omega (arith, within, count)) over
    (subst (λ (m : ℕ). IfSome tail (λ k. k ≤ m)) (sym count) few))
