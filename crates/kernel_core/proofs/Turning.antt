-- Who can take a turn: a caller waits for the call that is its own; the least of them; and those that an event woke.
use Rattle.std.proofs.Common.{◌≡◌, ℕ, zero, suc, ◌+◌, ◌-◌, ◌<◌, ◌≤◌, ◌==◌, ◌&&◌, Bool, true, false, not, if◌then◌else◌, List, [], ◌∷◌, ◌++◌, Option, Some, None, IfNone, IfSome, find, is_some, filter, length, map, slice_get, inl, inr, true≢false, refl, sym, ap, ap₂, ◌∙◌, arith}
use Rattle.std.proofs.lemmas.Bool.{cases_eq, cases_lt}
use Rattle.std.proofs.lemmas.Bool.Decides.{nat_tests}
use Rattle.std.proofs.lemmas.List.{map-append}
use Rattle.std.specs.Option.{option_map}
use Rattle.dk_base.specs.declared.limits.TheConstants.{THREADS_MAX}
use Rattle.dk_base.specs.declared.number.Tid.{Tid}
use Rattle.spec_records.specs.declared.record.ThreadState.TheVariants as is
use Rattle.spec_records.specs.Words.{call_number, is_live, is_live_call, is_numbered, is_to_collect, is_to_collect_as, numbers_where, tid}
use Rattle.dk_base.proofs.NumbersWhere.{length-numbers_where, numbers_where-past, numbers_where-same}
use Rattle.spec_records.proofs.Lists.{numbered_past}
use Rattle.spec_records.proofs.NumberedLists.{find-slice_get}
use Rattle.dk_base.specs.declared.thread_set.ThreadSet.{ThreadSet}
use Rattle.dk_base.specs.ThreadSets.{IsFirst, has, members}
use Rattle.spec_kernel.specs.Types.{Call, CallStage, ThreadState}
use Rattle.spec_kernel.specs.Words.{State, can_go_on, forget, is_runnable, least_among, least_or, least_runnable, state_of, woken_among, woken_threads}
use Rattle.call_tree.specs.Words.{is_ready_of}
use Rattle.law_states.specs.Core.{caller_number, live_in}
use Rattle.law_states.specs.Invariant.{IsConsistent}
use Rattle.kernel_store.specs.Words.{can_turn, can_turn_at}
use Rattle.kernel_core.specs.Woken.{AreTurns, HasTurns, turned_threads}
use Rattle.kernel_core.proofs.Readers.{kept_of, least_found, none_runnable}

-- a search by either of two tests that agree on the list
found_same :
    (p q : Call → Bool) (rs : List Call) → ((i : ℕ) (r : Call) → slice_get rs i ≡ Some r → p r ≡ q r) → find p rs ≡ find q rs
found_same p q [] same = refl
found_same p q (r ∷ rs) same =
    ap₂ (λ (b : Bool) (o : Option Call). if b then Some r else o) (same 0 r refl) (found_same p q rs (λ i x e. same (suc i) x e))

abbrev number_at : ThreadState → ℕ
number_at (is.Calling c) = c
number_at _ = 0

lives : (s : CallStage) → is_to_collect s ≡ true → is_live s ≡ true
lives s e = grind arith

-- tests that come to the same where both look at one
either : (a t n c : ℕ) (b : Bool) → (n ≡ c → a ≡ t) → (b ≡ true → a ≡ t → n ≡ c) → ((a == t) && b) ≡ ((n == c) && b)
either a t n c false f g = grind arith
either a t n c true f g = elim (cases_eq n c) [
  | inl e ↦ let same = f e in grind (arith, nat_tests)
  | inr ne ↦ let other : a ≡ t → ⊥ = λ e. ne (g refl e) in grind (arith, nat_tests)
]

-- a caller of a consistent state waits for the one call that is its own
module _ (m : State) (h : IsConsistent m) (t c : ℕ) (at : state_of m t ≡ is.Calling c) (i : ℕ) (r : Call) (there : slice_get m.call_tree.calls i ≡ Some r) where
  found : find (is_numbered call_number r.number) m.call_tree.calls ≡ Some r
  found = find-slice_get call_number m.call_tree.calls 0 i r h.in_order there

  own : r.number ≡ c → r.caller.0 ≡ t
  own e = sym (ap caller_number found) ∙ ap (λ k. caller_number (find (is_numbered call_number k) m.call_tree.calls)) e ∙ h.coherent.waits.caller c t at

  one : is_to_collect r.stage ≡ true → r.caller.0 ≡ t → r.number ≡ c
  one live e =
      let calling = h.coherent.waits.calling r.number (ap live_in found ∙ lives r.stage live) in
      sym (ap number_at (sym at ∙ ap (state_of m) (sym e) ∙ ap (λ o. state_of m (caller_number o)) (sym found) ∙ calling))

  own_test : is_ready_of t r ≡ is_to_collect_as c r
  own_test = either r.caller.0 t r.number c (is_to_collect r.stage) own one

pub turns_consistent : (m : State) → IsConsistent m → HasTurns (forget m)
turns_consistent m h t = by (state_of m t) refl
  where
    by : (s : ThreadState) → state_of m t ≡ s → can_turn_at (forget m) t s ≡ can_go_on (forget m) s
    by (is.Calling c) e =
        ap is_some (found_same (is_ready_of t) (is_to_collect_as c) (filter is_live_call m.call_tree.calls)
        (λ i r at. let there = kept_of is_live_call m.call_tree.calls i r at in own_test m h t c e there.0 r there.1))
    by s e = refl

-- the least

none_until : (m : State) (i : ℕ) → ((u : ℕ) → u ≤ i → is_runnable m u ≡ false) → least_among m i ≡ None
none_until m zero none = refl
none_until m (suc i) none = ap₂ (λ o b. least_or o b (suc i)) (none_until m i (λ u l. none u (omega arith))) (none (suc i) (omega arith))

pub least_is :
    (m : State) (set : ThreadSet) → ((u : ℕ) → has set u ≡ is_runnable m u) → (o : Option Tid) → IfSome o (λ t. IsFirst set t.0) →
    IfSome o (λ t. (0 < t.0) × (t.0 ≤ THREADS_MAX)) → IfNone o ((u : ℕ) → has set u ≡ false) → option_map (λ (t : Tid). t.0) o ≡ least_runnable m
least_is m set is None first within none = sym (none_until m (length m.process_table.threads) (λ u l. sym (is u) ∙ none u))
least_is m set is (Some t) first within none =
    let n = length m.process_table.threads in
    let next : t.0 - 1 + 1 ≡ t.0 = omega (arith, within.0) in
    let here : is_runnable m t.0 ≡ true = sym (is t.0) ∙ first.here in
    elim (cases_lt n t.0) [
      | inl l ↦ absurd (true≢false (sym here ∙ none_runnable m t.0 l))
      | inr l ↦
          ap Some (sym next)
          ∙ sym (least_found m (t.0 - 1) n (omega (arith, within.0, l)) (none_until m (t.0 - 1) (λ u k. sym (is u) ∙ first.before u (omega (arith, k, within.0)))) (ap (is_runnable m) next ∙ here))
    ]

-- the threads that an event woke

woken_where : (before after : State) (n : ℕ) → map tid (numbers_where (λ t. is_runnable after t && not (is_runnable before t)) n) ≡ woken_among before after n
woken_where before after zero = refl
woken_where before after (suc n) =
    map-append tid (numbers_where (λ t. is_runnable after t && not (is_runnable before t)) n) (if is_runnable after (suc n) && not (is_runnable before (suc n)) then suc n ∷ [] else [])
    ∙ ap₂ (λ xs ys. xs ++ ys) (woken_where before after n) (go (is_runnable after (suc n)) (is_runnable before (suc n)))
  where
    go : (a b : Bool) → map tid (if a && not b then suc n ∷ [] else []) ≡ (if not b && a then tid (suc n) ∷ [] else [])
    go true true = refl
    go true false = refl
    go false true = refl
    go false false = refl

pub turned_woken : (before after : State) → HasTurns before → HasTurns after → turned_threads before after ≡ woken_threads before after
turned_woken before after b a =
    ap (map tid) (numbers_where-same (λ t. can_turn after t && not (can_turn before t)) (λ t. is_runnable after t && not (is_runnable before t)) (λ t. ap₂ (λ x y. x && not y) (a t) (b t)) (length after.process_table.threads))
    ∙ woken_where before after (length after.process_table.threads)

none_turns : (m : State) (t : ℕ) → length m.process_table.threads < t → can_turn m t ≡ false
none_turns m t h = let e = numbered_past m.process_table.threads t h in grind arith

-- a set of threads that can take a turn, and of which no other can

pub turned_members :
    (m : State) (set were now : ThreadSet) → AreTurns now m → ((t : ℕ) → has set t ≡ (has now t && not (has were t))) → length m.process_table.threads ≤ THREADS_MAX →
    members set ≡ numbers_where (λ t. can_turn m t && not (has were t)) (length m.process_table.threads)
unfolding members
turned_members m set were now turns is few =
    numbers_where-same (has set) (λ t. can_turn m t && not (has were t)) (λ t. is t ∙ ap (λ b. b && not (has were t)) (turns t)) THREADS_MAX
    ∙ numbers_where-past (λ t. can_turn m t && not (has were t)) (length m.process_table.threads) THREADS_MAX few (λ t l. ap (λ b. b && not (has were t)) (none_turns m t l))

pub turned_few :
    (m : State) (set were now : ThreadSet) → AreTurns now m → ((t : ℕ) → has set t ≡ (has now t && not (has were t))) → length m.process_table.threads ≤ THREADS_MAX →
    length (members set) ≤ length m.process_table.threads
turned_few m set were now turns is few =
    let e = ap length (turned_members m set were now turns is few) in
    omega (arith, e, length-numbers_where (λ t. can_turn m t && not (has were t)) (length m.process_table.threads))

pub turned_since :
    (before m : State) (set were now : ThreadSet) → AreTurns were before → AreTurns now m → ((t : ℕ) → has set t ≡ (has now t && not (has were t))) → length m.process_table.threads ≤ THREADS_MAX →
    map tid (members set) ≡ turned_threads before m
turned_since before m set were now old turns is few =
    ap (map tid) (turned_members m set were now turns is few
    ∙ numbers_where-same (λ t. can_turn m t && not (has were t)) (λ t. can_turn m t && not (can_turn before t)) (λ t. ap (λ b. can_turn m t && not b) (old t)) (length m.process_table.threads))

pub none_listed : (ts : List Tid) → length ts ≡ 0 → ts ≡ []
none_listed [] e = refl
none_listed (t ∷ ts) e = absurd (omega arith)
