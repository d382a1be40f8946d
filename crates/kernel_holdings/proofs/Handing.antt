-- What is handed out of a call that is looked for by its number: it is the call that another test finds.
use Rattle.std.proofs.Common.{count_by, ◌≡◌, ℕ, ◌+◌, ◌≤◌, ◌==◌, ◌&&◌, Bool, true, List, [], ◌∷◌, Option, Some, None, IsSome, find, length, refl, sym, subst, ap, ◌∙◌, arith}
use Rattle.std.proofs.lemmas.Bool.Decides.{nat_tests}
use Rattle.dk_base.specs.declared.number.Tid.{Tid}
use Rattle.spec_records.proofs.NumberedLists.{find-passes}
use Rattle.spec_records.specs.Words.{CallTree, collect_call, enter_call, fail_call, is_given_as, is_given_to, is_to_collect, is_to_collect_as, live_calls}
use Rattle.call_tree.specs.Calls.{args_in, outcome_at}
use Rattle.call_tree.specs.declared.parts.Outcome.{Outcome}
use Rattle.spec_records.specs.declared.record.CallStage.TheVariants as stage
use Rattle.dk_base.specs.declared.limits.TheConstants.{PASS_MAX}
use Rattle.kernel_holdings.specs.Words.{CarryFew, results_in}
use Rattle.kernel_holdings.proofs.Bounds.{few_found}
use Rattle.call_tree.specs.Words.{AreSound, argument_objects, arguments_at, is_call, is_called_by, is_given, is_given_call, is_ready_of, is_waiting_as, outcome_in}
use Rattle.call_tree.specs.declared.parts.Args.{Args}
use Rattle.spec_kernel.specs.Types.{Call, CallStage, Obj}
use Rattle.spec_kernel.specs.Words.{objects_collected, objects_collected_in, objects_in_call, objects_in_transit}
use Rattle.kernel_holdings.proofs.TransitCounts.{collect_call-in_transit, enter_call-in_transit, fail_call-in_transit, given_transit, if_found, in_transit, transit_of}

-- what one test finds another does, if it passes that too
found_also : (p q : Call → Bool) (rs : List Call) (x : Call) → find p rs ≡ Some x → q x ≡ true → IsSome (find q rs)
found_also p q [] x e h = cc
found_also p q (r ∷ rs) x e h = grind (arith, found_also p q rs x)

pub some_call : (o : Option Call) → IsSome o → (x : Call) × (o ≡ Some x)
some_call None h = cc
some_call (Some x) h = (x, refl)

-- narrower tests

given_call_at : (t : ℕ) (s : CallStage) → is_given_to t s ≡ true → is_given s ≡ true
given_call_at t s h = grind (arith, nat_tests)

given_as : (c t : ℕ) (r : Call) → is_given_as c t r ≡ true → ((r.number == c) ≡ true) × (is_given_call c r ≡ true)
given_as c t r h = let s = given_call_at t r.stage in (grind arith, grind (arith, s))

pub given_there : (c t : ℕ) (rs : List Call) → IsSome (find (is_given_as c t) rs) → IsSome (find (is_given_call c) rs)
given_there c t rs h =
    let x = some_call (find (is_given_as c t) rs) h in
    found_also (is_given_as c t) (is_given_call c) rs x.0 x.1 (given_as c t x.0 (find-passes (is_given_as c t) rs x.0 x.1)).1

waiting_at : (t : ℕ) (c : ℕ) (r : Call) (s : CallStage) → r.stage ≡ s → ((r.number == c) && is_given_to t s) ≡ true → is_waiting_as c r ≡ true
waiting_at t c r s e h = grind (arith, nat_tests)

pub given_waits : (c t : ℕ) (rs : List Call) → IsSome (find (is_given_as c t) rs) → IsSome (find (is_waiting_as c) rs)
given_waits c t rs h =
    let x = some_call (find (is_given_as c t) rs) h in
    found_also (is_given_as c t) (is_waiting_as c) rs x.0 x.1 (waiting_at t c x.0 x.0.stage refl (find-passes (is_given_as c t) rs x.0 x.1))

collected_at : (c : ℕ) (r : Call) → is_to_collect_as c r ≡ true → ((r.number == c) ≡ true) × (is_to_collect r.stage ≡ true)
collected_at c r h = (grind arith, grind arith)

given_carries : (r : Call) (s : CallStage) → is_given s ≡ true → objects_in_transit r s ≡ r.objects
given_carries r s h = grind (arith, nat_tests)

abbrev some_results : Option Outcome → List Obj
some_results None = []
some_results (Some o) = results_in o

abbrev arg_objects : Option Args → List Obj
arg_objects None = []
arg_objects (Some a) = a.objects

results_at : (r : Call) (s : CallStage) (o : Outcome) → is_to_collect s ≡ true → outcome_at r.rsize s ≡ Some o → results_in o ≡ objects_in_transit r s
results_at r (stage.Returned bytes objects) o h e = sym (ap some_results e)
results_at r (stage.Ended error) o h e = sym (ap some_results e)
results_at r _ o h e = cc

module _ (tree : CallTree) (sound : AreSound tree) where
  -- what a test finds that asks for the number is found by the number
  named : (p : Call → Bool) (c : ℕ) (x : Call) → find p tree.calls ≡ Some x → (x.number == c) ≡ true → find (is_call c) tree.calls ≡ Some x
  named p c x e n = subst (λ k. find (is_call k) tree.calls ≡ Some x) (grind (arith, nat_tests)) (sound.number p x e)

  -- a call that was given

  module _ (c t : ℕ) (there : IsSome (find (is_given_as c t) tree.calls)) where
    abbrev pub x : (r : Call) × (find (is_given_as c t) tree.calls ≡ Some r)
    x = some_call (find (is_given_as c t) tree.calls) there

    test : is_given_as c t x.0 ≡ true
    test = find-passes (is_given_as c t) tree.calls x.0 x.1

    by_number : find (is_call c) tree.calls ≡ Some x.0
    by_number = named (is_given_as c t) c x.0 x.1 (given_as c t x.0 test).0

    pub given_args : (a : Args) → args_in (find (is_call c) tree.calls) ≡ Some a → args_in (find (is_given_as c t) tree.calls) ≡ Some a
    given_args a e = ap args_in x.1 ∙ sym (ap args_in by_number) ∙ e

    same_objects : (a : Args) → args_in (find (is_call c) tree.calls) ≡ Some a → a.objects ≡ x.0.objects
    same_objects a e = sym (ap arg_objects (sym (ap args_in by_number) ∙ e))

    pub entered : (p : Obj → Bool) (a : Args) → args_in (find (is_call c) tree.calls) ≡ Some a → in_transit p (enter_call tree c t).calls + count_by p a.objects ≡ in_transit p tree.calls
    entered p a e =
        omega (
          arith,
          enter_call-in_transit p tree c t,
          ap (if_found (transit_of p)) x.1,
          given_transit p c t x.0 test,
          ap (count_by p) (same_objects a e),
        )

    -- they are what was in transit
    pub args_few : (a : Args) → args_in (find (is_call c) tree.calls) ≡ Some a → a.objects ≡ objects_in_call x.0
    args_few a e = same_objects a e ∙ sym (given_carries x.0 x.0.stage (grind (arith, nat_tests, test)))

    pub given_few : CarryFew tree.calls → (a : Args) → args_in (find (is_call c) tree.calls) ≡ Some a → length a.objects ≤ PASS_MAX
    given_few few a e = omega (arith, few_found (is_given_as c t) tree.calls x.0 few x.1, ap length (args_few a e))

    arguments_given : (s : CallStage) → is_given_to t s ≡ true → arguments_at s x.0.objects ≡ x.0.objects
    arguments_given s h = grind (arith, nat_tests)

    pub failed : (p : Obj → Bool) → in_transit p (fail_call tree c t).calls + count_by p (argument_objects (find (is_call c) tree.calls)) ≡ in_transit p tree.calls
    failed p =
        let to : is_given_to t x.0.stage ≡ true = grind (arith, test) in
        omega (
          arith,
          fail_call-in_transit p tree c t,
          ap (if_found (transit_of p)) x.1,
          given_transit p c t x.0 test,
          ap (λ y. count_by p (argument_objects y)) by_number,
          ap (count_by p) (arguments_given x.0.stage to),
        )

    pub failed_few : CarryFew tree.calls → length (argument_objects (find (is_call c) tree.calls)) ≤ PASS_MAX
    failed_few few =
        let to : is_given_to t x.0.stage ≡ true = grind (arith, test) in
        omega (
          arith,
          few_found (is_given_as c t) tree.calls x.0 few x.1,
          ap (λ y. length (argument_objects y)) by_number,
          ap length (arguments_given x.0.stage to),
          ap length (given_carries x.0 x.0.stage (given_call_at t x.0.stage to)),
        )

  -- a call that is collected

  module _ (c : ℕ) (there : IsSome (find (is_to_collect_as c) tree.calls)) (caller : Tid) (is_his : (call : Call) → find (is_to_collect_as c) tree.calls ≡ Some call → caller ≡ call.caller) where
    abbrev pub y : (r : Call) × (find (is_to_collect_as c) tree.calls ≡ Some r)
    y = some_call (find (is_to_collect_as c) tree.calls) there

    to_collect : ((y.0.number == c) ≡ true) × (is_to_collect y.0.stage ≡ true)
    to_collect = collected_at c y.0 (find-passes (is_to_collect_as c) tree.calls y.0 y.1)

    his : caller ≡ y.0.caller
    his = is_his y.0 y.1

    pub by_caller : find (is_called_by caller.0) tree.calls ≡ Some y.0
    by_caller = subst (λ (u : Tid). find (is_called_by u.0) tree.calls ≡ Some y.0) (sym his) (sound.caller (is_to_collect_as c) y.0 y.1)

    pub ready_there : IsSome (find (is_ready_of caller.0) tree.calls)
    ready_there =
        let same : y.0.caller.0 ≡ caller.0 = ap (λ (u : Tid). u.0) (sym his) in
        found_also (is_to_collect_as c) (is_ready_of caller.0) tree.calls y.0 y.1 (grind (arith, nat_tests, to_collect.1, same))

    pub its_number : y.0.number ≡ c
    its_number = grind (arith, nat_tests, to_collect.0)

    pub collected_tree :
        (new : CallTree) → ((call : Call) → find (is_called_by caller.0) tree.calls ≡ Some call → (at : ℕ) → new ≡ live_calls (collect_call tree call.number at)) →
        (at : ℕ) → new ≡ live_calls (collect_call tree c at)
    collected_tree new is at = is y.0 by_caller at ∙ ap (λ k. live_calls (collect_call tree k at)) its_number

    results_of : (p : Obj → Bool) (r : Call) (s : CallStage) → is_to_collect s ≡ true → count_by p (objects_collected s) ≡ count_by p (objects_in_transit r s)
    results_of p r s h = grind (arith, nat_tests)

    -- its results are what was in transit
    pub results_few : (o : Outcome) → outcome_in (Some y.0) ≡ Some o → results_in o ≡ objects_in_call y.0
    results_few o e = results_at y.0 y.0.stage o to_collect.1 e

    -- and what is counted down
    pub results_collected : (p : Obj → Bool) (told : Outcome) → outcome_in (Some y.0) ≡ Some told → count_by p (results_in told) ≡ count_by p (objects_collected_in (Some y.0))
    results_collected p told e = ap (count_by p) (results_few told e) ∙ sym (results_of p y.0 y.0.stage to_collect.1)

    pub collected_few : CarryFew tree.calls → (o : Outcome) → outcome_in (find (is_called_by caller.0) tree.calls) ≡ Some o → length (results_in o) ≤ PASS_MAX
    collected_few few o e =
        omega (arith, few_found (is_to_collect_as c) tree.calls y.0 few y.1, ap length (results_few o (sym (ap outcome_in by_caller) ∙ e)))

    pub collected :
        (new : CallTree) → ((call : Call) → find (is_called_by caller.0) tree.calls ≡ Some call → (at : ℕ) → new ≡ live_calls (collect_call tree call.number at)) →
        (p : Obj → Bool) → in_transit p new.calls + count_by p (objects_collected_in (Some y.0)) ≡ in_transit p tree.calls
    collected new is p =
        omega (
          arith,
          ap (λ (t : CallTree). in_transit p t.calls) (collected_tree new is 0),
          collect_call-in_transit p tree c 0,
          ap (if_found (transit_of p)) y.1,
          results_of p y.0 y.0.stage to_collect.1,
        )

    pub collected_results :
        (new : CallTree) → ((call : Call) → find (is_called_by caller.0) tree.calls ≡ Some call → (at : ℕ) → new ≡ live_calls (collect_call tree call.number at)) →
        (p : Obj → Bool) (told : Outcome) → outcome_in (Some y.0) ≡ Some told → in_transit p new.calls + count_by p (results_in told) ≡ in_transit p tree.calls
    collected_results new is p told e = ap (λ n. in_transit p new.calls + n) (results_collected p told e) ∙ collected new is p
