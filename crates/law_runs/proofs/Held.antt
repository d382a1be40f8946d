-- Both walks end, and the one is the other turned round, since a thread serves an older call than the one that it waits in.
use Rattle.std.specs.Prelude.{ℕ, ◌≡◌, ◌+◌, ◌-◌, ◌<◌, ◌≤◌, ◌⊎◌, ◌||◌, List, Option, true, false, Some, None, zero, suc, is_some}
use Rattle.std.specs.Option.{option_map_or}
use Rattle.std.proofs.Common.{refl, sym, ap, subst, ◌∙◌, inl, inr}
use native.Mathlib.Omega.{arith}
use Rattle.std.proofs.lemmas.Bool.{false≢true}
use Rattle.std.proofs.lemmas.Bool.Decides.{nat_tests}
use Rattle.std.proofs.lemmas.Option.{slice_get_within}
use Rattle.spec_records.proofs.NumberedLists.{find-as, find-before, find-found, find-none, find-passes}
use Rattle.spec_kernel.specs.Types.{Call, CallStage, Request, ThreadState}
use Rattle.dk_base.specs.declared.object.Item.TheVariants as item
use Rattle.spec_records.specs.declared.record.ThreadState.TheVariants as is
use Rattle.spec_records.specs.declared.record.CallStage.TheVariants as stage
use Rattle.spec_records.specs.Words.{call_number, is_entered_by, is_given_to, is_live, is_served, is_served_as, is_served_by, is_to_collect, is_to_collect_as, tid}
use Rattle.spec_kernel.specs.Words.{MayTurn, State, Turn, caller_in, caller_of, can_go_on, find_call, is_runnable, is_running_state, lead, root, served_by, server_at, server_for, server_in, server_of, state_at, state_of, walk, walk_down}
use Rattle.law_states.specs.Records.{item_in, item_of, record_of, stage_in}
use Rattle.law_states.specs.Core.{abandoned_in, caller_number, core, is_outside, is_underway, live_in, underway_in}
use Rattle.law_states.specs.Coherent.{IsCoherent}
use Rattle.law_states.specs.Invariant.{Invariant}
use Rattle.law_runs.specs.Held.{HasHolders, Held, Serves, Walks}
use Rattle.law_places.proofs.Known.{Known}
use Rattle.law_places.proofs.Rows.{some_call}

-- the call that a thread serves, as a number: 0 for none

abbrev number_in : Option Call → ℕ
number_in None = 0
number_in (Some r) = r.number

-- how many steps down are left at most
abbrev steps_down : ℕ → ThreadState → ℕ
steps_down made (is.Calling c) = made + 1 - c
steps_down made _ = 0

-- a thread was given a call or has entered it, as the call's record says
abbrev pub IsWith : ℕ → CallStage → Type 0
IsWith t s = (s ≡ stage.Given (tid t)) ⊎ (s ≡ stage.Entered (tid t))

pub record ServesCall (m : State) (t : ℕ) (r : Call) : Type 0 where
  pub found : record_of m r.number ≡ Some r
  pub with_it : IsWith t r.stage
  pub here : r.abandoned ≡ false

with_thread : (t : ℕ) (s : CallStage) → (is_given_to t s || is_entered_by t s) ≡ true → IsWith t s
with_thread t (stage.Given u) e = inl (grind (arith, nat_tests))
with_thread t (stage.Entered u) e = inr (grind (arith, nat_tests))
with_thread t _ e = grind arith

served_by_is : (t : ℕ) (r : Call) → is_served_by t r ≡ true → IsWith t r.stage × (r.abandoned ≡ false)
served_by_is t r e = (with_thread t r.stage (grind arith), grind arith)

with_server : (u : ℕ) (s : CallStage) → server_at s ≡ Some u → IsWith u s
with_server u (stage.Given v) e = inl (grind arith)
with_server u (stage.Entered v) e = inr (grind arith)
with_server u _ e = grind arith

server_is : (u : ℕ) (s : CallStage) → IsWith u s → server_at s ≡ Some u
server_is u s (inl e) = ap server_at e
server_is u s (inr e) = ap server_at e

with_lives : (u : ℕ) (s : CallStage) → IsWith u s → is_live s ≡ true
with_lives u s (inl e) = ap is_live e
with_lives u s (inr e) = ap is_live e

with_served : (u : ℕ) (s : CallStage) → IsWith u s → is_served s ≡ true
with_served u s (inl e) = ap is_served e
with_served u s (inr e) = ap is_served e

with_waits : (u : ℕ) (s : CallStage) → IsWith u s → is_to_collect s ≡ false
with_waits u s (inl e) = ap is_to_collect e
with_waits u s (inr e) = ap is_to_collect e

-- A walk by a step that makes something smaller: with enough steps it ends, and always at the same place.
module _
    (next : ℕ → Option ℕ) (walks : ℕ → ℕ → ℕ) (none : (t : ℕ) → walks zero t ≡ t)
    (one : (n t : ℕ) → walks (suc n) t ≡ option_map_or (walks n) (next t) t) (size : ℕ → ℕ) (falls : (t u : ℕ) → next t ≡ Some u → size u < size t)
  where
    stops : (n t : ℕ) → next t ≡ None → walks n t ≡ t
    stops zero t e = none t
    stops (suc n) t e = one n t ∙ ap (λ o. option_map_or (walks n) o t) e

    goes_on : (n t u : ℕ) → next t ≡ Some u → walks (suc n) t ≡ walks n u
    goes_on n t u e = one n t ∙ ap (λ o. option_map_or (walks n) o t) e

    walk_ends : (n t : ℕ) → size t ≤ n → next (walks n t) ≡ None
    walk_ends zero t l = go (next t) refl
      where
        go : (o : Option ℕ) → next t ≡ o → next (walks zero t) ≡ None
        go None e = ap next (none t) ∙ e
        go (Some u) e = absurd (omega (arith, l, falls t u e))
    walk_ends (suc n) t l = go (next t) refl (walk_ends n)
      where
        go : (o : Option ℕ) → next t ≡ o → ((u : ℕ) → size u ≤ n → next (walks n u) ≡ None) → next (walks (suc n) t) ≡ None
        go None e ih = ap next (stops (suc n) t e) ∙ e
        go (Some u) e ih = ap next (goes_on n t u e) ∙ ih u (omega (arith, l, falls t u e))

    same_end : (n k t : ℕ) → size t ≤ n → size t ≤ k → walks n t ≡ walks k t
    same_end zero k t a b = none t ∙ sym (stops k t (sym (ap next (none t)) ∙ walk_ends zero t a))
    same_end (suc n) zero t a b = stops (suc n) t (sym (ap next (none t)) ∙ walk_ends zero t b) ∙ sym (none t)
    same_end (suc n) (suc k) t a b = go (next t) refl (same_end n k)
      where
        go :
            (o : Option ℕ) → next t ≡ o → ((u : ℕ) → size u ≤ n → size u ≤ k → walks n u ≡ walks k u) → walks (suc n) t ≡ walks (suc k) t
        go None e ih = stops (suc n) t e ∙ sym (stops (suc k) t e)
        go (Some u) e ih =
            goes_on n t u e ∙ ih u (omega (arith, a, falls t u e)) (omega (arith, b, falls t u e)) ∙ sym (goes_on k t u e)

    walks_on : (n t u : ℕ) → size t ≤ n → next t ≡ Some u → walks n t ≡ walks n u
    walks_on zero t u l e = absurd (omega (arith, l, falls t u e))
    walks_on (suc n) t u l e = goes_on n t u e ∙ same_end n (suc n) u (omega (arith, l, falls t u e)) (omega (arith, l, falls t u e))

running_goes_on : (m : State) (s : ThreadState) → is_running_state s ≡ true → can_go_on m s ≡ true
running_goes_on m is.Running e = refl
running_goes_on m _ e = grind arith

module _ (m : State) (h : Invariant m) where
  coherent : IsCoherent (core m)
  coherent = h.consistent.coherent

  pub serves_of : (t : ℕ) (r : Call) → served_by m t ≡ Some r → ServesCall m t r
  serves_of t r e =
      let it = served_by_is t r (find-passes (is_served_by t) m.call_tree.calls r e) in
      record { found = find-found call_number (is_served_by t) m.call_tree.calls 0 r h.consistent.in_order e; with_it = it.0; here = it.1 }

  positive : (r : Call) → record_of m r.number ≡ Some r → 1 ≤ r.number
  positive r e = go r.number e
    where
      go : (n : ℕ) → record_of m n ≡ Some r → 1 ≤ n
      go zero f = grind (arith, find-before call_number m.call_tree.calls 0 0 h.consistent.in_order (omega arith))
      go (suc n) f = omega arith

  within : (r : Call) → record_of m r.number ≡ Some r → r.number ≤ m.call_tree.made
  within r e = grind (arith, coherent.calls.unmade r.number)

  caller_calls : (t : ℕ) (r : Call) → ServesCall m t r → state_of m r.caller.0 ≡ is.Calling r.number
  caller_calls t r s =
      ap (λ o. state_of m (caller_number o)) (sym s.found)
      ∙ coherent.waits.calling r.number (ap live_in s.found ∙ with_lives t r.stage s.with_it)

  -- the call that a thread serves is older than the one that it waits in
  older : (u d : ℕ) (q : Call) → ServesCall m u q → state_of m u ≡ is.Calling d → q.number < d
  older u d q s e = go s.with_it
    where
      go : IsWith u q.stage → q.number < d
      go (inl f) = grind (arith, coherent.waits.given q.number u (ap stage_in s.found ∙ ap (λ z. Some z) f))
      go (inr f) = coherent.servers.below q.number d u (coherent.invocations.entered q.number u (ap stage_in s.found ∙ ap (λ z. Some z) f)) e

  -- the walk up

  up_falls : (t : ℕ) (r : Call) → ServesCall m t r → number_in (served_by m r.caller.0) < r.number
  up_falls t r s = go (served_by m r.caller.0) refl
    where
      go : (o : Option Call) → served_by m r.caller.0 ≡ o → number_in o < r.number
      go None e = positive r s.found
      go (Some q) e = older r.caller.0 r.number q (serves_of r.caller.0 q e) (caller_calls t r s)

  serving : (t u : ℕ) → caller_of m t ≡ Some u → number_in (served_by m u) < number_in (served_by m t)
  serving t u = go (served_by m t) refl
    where
      go : (o : Option Call) → served_by m t ≡ o → caller_in o ≡ Some u → number_in (served_by m u) < number_in o
      go None e f = absurd (cc f)
      go (Some r) e f =
          let same : r.caller.0 ≡ u = cc f in
          subst (λ v. number_in (served_by m v) < r.number) same (up_falls t r (serves_of t r e))

  served_within : (t : ℕ) → number_in (served_by m t) ≤ m.call_tree.made
  served_within t = go (served_by m t) refl
    where
      go : (o : Option Call) → served_by m t ≡ o → number_in o ≤ m.call_tree.made
      go None e = omega arith
      go (Some r) e = within r (serves_of t r e).found

  -- the walk down

  record IsServed (t u : ℕ) : Type 0 where
    call : Call
    calling : state_of m t ≡ is.Calling call.number
    serves : ServesCall m u call

  served_as_is : (c : ℕ) (r : Call) → is_served_as c r ≡ true → (r.number ≡ c) × (r.abandoned ≡ false)
  served_as_is c r e = (grind (arith, nat_tests), grind (arith, nat_tests))

  server_found : (t c u : ℕ) → state_of m t ≡ is.Calling c → server_in (find_call m (is_served_as c)) ≡ Some u → IsServed t u
  server_found t c u e = go (find_call m (is_served_as c)) refl
    where
      go : (o : Option Call) → find_call m (is_served_as c) ≡ o → server_in o ≡ Some u → IsServed t u
      go None f g = grind arith
      go (Some r) f g =
          let it = served_as_is c r (find-passes (is_served_as c) m.call_tree.calls r f) in
          record {
            call = r;
            calling = e ∙ ap is.Calling (sym it.0);
            serves =
                record {
                  found = find-found call_number (is_served_as c) m.call_tree.calls 0 r h.consistent.in_order f;
                  with_it = with_server u r.stage g;
                  here = it.1;
                };
          }

  served_back : (t u : ℕ) → server_of m t ≡ Some u → IsServed t u
  served_back t u = go (state_of m t) refl
    where
      go : (s : ThreadState) → state_of m t ≡ s → server_for m s ≡ Some u → IsServed t u
      go (is.Calling c) e f = server_found t c u e f
      go _ e f = grind arith

  down_falls : (t u : ℕ) → server_of m t ≡ Some u → steps_down m.call_tree.made (state_of m u) < steps_down m.call_tree.made (state_of m t)
  down_falls t u e =
      subst (λ s. steps_down m.call_tree.made (state_of m u) < steps_down m.call_tree.made s) (sym it.calling)
      (go (state_of m u) refl)
    where
      it : IsServed t u
      it = served_back t u e

      few : it.call.number ≤ m.call_tree.made
      few = within it.call it.serves.found

      go : (s : ThreadState) → state_of m u ≡ s → steps_down m.call_tree.made s < m.call_tree.made + 1 - it.call.number
      go (is.Calling d) f = let later : it.call.number < d = older u d it.call it.serves f in omega (arith, later, few)
      go _ f = omega (arith, few)

  few_down : (t : ℕ) → steps_down m.call_tree.made (state_of m t) ≤ m.call_tree.made
  few_down t = go (state_of m t) refl
    where
      made : (c : ℕ) → live_in (record_of m c) ≡ true → 1 ≤ c
      made zero l = grind (arith, find-before call_number m.call_tree.calls 0 0 h.consistent.in_order (omega arith))
      made (suc c) l = omega arith

      go : (s : ThreadState) → state_of m t ≡ s → steps_down m.call_tree.made s ≤ m.call_tree.made
      go (is.Calling c) e = let first = made c (coherent.waits.live c t e) in omega (arith, first)
      go _ e = omega arith

  -- one walk is the other turned round

  turned : (t u : ℕ) → caller_of m t ≡ Some u → server_of m u ≡ Some t
  turned t u = go (served_by m t) refl
    where
      go : (o : Option Call) → served_by m t ≡ o → caller_in o ≡ Some u → server_of m u ≡ Some t
      go None e f = grind arith
      go (Some r) e f =
          let s : ServesCall m t r = serves_of t r e in
          let caller : r.caller.0 ≡ u = grind arith in
          let there : find_call m (is_served_as r.number) ≡ Some r =
          find-as call_number (is_served_as r.number) m.call_tree.calls r.number r (λ q g. (served_as_is r.number q g).0) s.found (grind (arith, nat_tests, s.here, with_served t r.stage s.with_it)) in
          ap (λ v. server_of m v) (sym caller)
          ∙ ap (server_for m) (caller_calls t r s)
          ∙ ap server_in there
          ∙ server_is t r.stage s.with_it

  abbrev down : ℕ → ℕ
  down t = steps_down m.call_tree.made (state_of m t)

  lead_stops : (t : ℕ) → server_of m t ≡ None → lead m t ≡ t
  lead_stops = stops (server_of m) (λ n t. walk_down n m t) (λ t. refl) (λ n t. refl) down down_falls m.call_tree.made

  lead_on : (t u : ℕ) → server_of m t ≡ Some u → lead m t ≡ lead m u
  lead_on t u = walks_on (server_of m) (λ n t. walk_down n m t) (λ t. refl) (λ n t. refl) down down_falls m.call_tree.made t u (few_down t)

  lead_end : (t : ℕ) → server_of m (lead m t) ≡ None
  lead_end t = walk_ends (server_of m) (λ n t. walk_down n m t) (λ t. refl) (λ n t. refl) down down_falls m.call_tree.made t (few_down t)

  abbrev up : ℕ → ℕ
  up t = number_in (served_by m t)

  root_end : (t : ℕ) → caller_of m (root m t) ≡ None
  root_end t = walk_ends (caller_of m) (λ n t. walk n m t) (λ t. refl) (λ n t. refl) up serving m.call_tree.made t (served_within t)

  lead_of_walk : (n t : ℕ) → lead m (walk n m t) ≡ lead m t
  lead_of_walk zero t = refl
  lead_of_walk (suc n) t = go (caller_of m t) refl (λ u. lead_of_walk n u)
    where
      go : (o : Option ℕ) → caller_of m t ≡ o → ((u : ℕ) → lead m (walk n m u) ≡ lead m u) → lead m (walk (suc n) m t) ≡ lead m t
      go None e ih = ap (λ o. lead m (option_map_or (walk n m) o t)) e
      go (Some u) e ih = ap (λ o. lead m (option_map_or (walk n m) o t)) e ∙ ih u ∙ lead_on u t (turned t u e)

  -- a thread that can take a turn waits in no call that is served

  not_served : (t u : ℕ) → is_runnable m t ≡ true → server_of m t ≡ Some u → ⊥
  not_served t u e f = go (find_call m (is_to_collect_as it.call.number)) refl (sym (ap (can_go_on m) it.calling) ∙ e)
    where
      it : IsServed t u
      it = served_back t u f

      go : (o : Option Call) → find_call m (is_to_collect_as it.call.number) ≡ o → is_some o ≡ true → ⊥
      go None g k = grind arith
      go (Some q) g k =
          let passes = find-passes (is_to_collect_as it.call.number) m.call_tree.calls q g in
          let found = find-found call_number (is_to_collect_as it.call.number) m.call_tree.calls 0 q h.consistent.in_order g in
          let number : q.number ≡ it.call.number = grind (arith, nat_tests) in
          let same : q ≡ it.call = some_call q it.call (sym found ∙ ap (record_of m) number ∙ it.serves.found) in
          let waits = ap (λ (r : Call). is_to_collect r.stage) same ∙ with_waits u it.call.stage it.serves.with_it in
          grind (arith, nat_tests)

  unserved : (t : ℕ) → is_runnable m t ≡ true → server_of m t ≡ None
  unserved t e = go (server_of m t) refl
    where
      go : (o : Option ℕ) → server_of m t ≡ o → server_of m t ≡ None
      go None f = f
      go (Some u) f = absurd (not_served t u e f)

  holds : (t : ℕ) → is_runnable m t ≡ true → lead m (root m t) ≡ t
  holds t e = lead_of_walk m.call_tree.made t ∙ lead_stops t (unserved t e)

  -- the step's readers say who serves whom

  served_is : (t u : ℕ) → caller_of m t ≡ Some u → Serves m t u
  served_is t u = go (served_by m t) refl
    where
      go : (o : Option Call) → served_by m t ≡ o → caller_in o ≡ Some u → Serves m t u
      go None e f = absurd (cc f)
      go (Some r) e f =
          let s : ServesCall m t r = serves_of t r e in
          record { number = r.number; call = r; there = s.found; with_it = s.with_it; caller = cc f }

  -- a thread serves one call at a time
  one_call : (t : ℕ) (r q : Call) → ServesCall m t r → ServesCall m t q → r.number ≡ q.number
  one_call t r q a b = go a.with_it b.with_it
    where
      given : (c : ℕ) (y : Call) → record_of m c ≡ Some y → y.stage ≡ stage.Given (tid t) → state_of m t ≡ is.Given (item.Call c)
      given c y f e = coherent.waits.given c t (ap stage_in f ∙ ap (λ z. Some z) e)

      entered : (c : ℕ) (y : Call) → record_of m c ≡ Some y → y.stage ≡ stage.Entered (tid t) → item_of m t ≡ Some (item.Call c)
      entered c y f e = coherent.invocations.entered c t (ap stage_in f ∙ ap (λ z. Some z) e)

      never : (c d : ℕ) → state_of m t ≡ is.Given (item.Call c) → item_of m t ≡ Some (item.Call d) → ⊥
      never c d e f = absurd (cc (sym f ∙ ap item_in (coherent.servers.outside t (ap is_outside e))))

      go : IsWith t r.stage → IsWith t q.stage → r.number ≡ q.number
      go (inl e) (inl f) = cc (given r.number r a.found e, given q.number q b.found f)
      go (inr e) (inr f) = cc (entered r.number r a.found e, entered q.number q b.found f)
      go (inl e) (inr f) = absurd (never r.number q.number (given r.number r a.found e) (entered q.number q b.found f))
      go (inr e) (inl f) = absurd (never q.number r.number (given q.number q b.found f) (entered r.number r a.found e))

  caller_is : (t u : ℕ) → Serves m t u → caller_of m t ≡ Some u
  caller_is t u s = go (served_by m t) refl
    where
      number : s.call.number ≡ s.number
      number = coherent.calls.call_number s.number s.call s.there

      underway : IsWith t s.call.stage → is_underway s.call.stage ≡ true
      underway (inl e) = ap is_underway e
      underway (inr e) = ap is_underway e

      here : s.call.abandoned ≡ false
      here =
          sym (ap abandoned_in s.there) ∙ coherent.invocations.kept s.number (ap underway_in s.there ∙ underway s.with_it)

      passes : IsWith t s.call.stage → is_served_by t s.call ≡ true
      passes (inl e) = grind (arith, nat_tests, e, here)
      passes (inr e) = grind (arith, nat_tests, e, here)

      it : ServesCall m t s.call
      it = record { found = ap (record_of m) number ∙ s.there; with_it = s.with_it; here = here }

      go : (o : Option Call) → served_by m t ≡ o → caller_of m t ≡ Some u
      go None e = absurd (false≢true (sym (find-none call_number (is_served_by t) m.call_tree.calls s.number s.call e s.there) ∙ passes s.with_it))
      go (Some r) e =
          let f : record_of m r.number ≡ Some s.call = ap (record_of m) (one_call t r s.call (serves_of t r e) it) ∙ it.found in
          let same : r ≡ s.call = some_call r s.call (sym (serves_of t r e).found ∙ f) in
          ap caller_in e ∙ ap (λ (q : Call). Some q.caller.0) same ∙ ap (λ z. Some z) s.caller

  serves_back : (t u : ℕ) → server_of m t ≡ Some u → Serves m u t
  serves_back t u e = go (served_back t u e)
    where
      go : IsServed t u → Serves m u t
      go w =
          record {
            number = w.call.number;
            call = w.call;
            there = w.serves.found;
            with_it = w.serves.with_it;
            caller = sym (ap caller_number w.serves.found) ∙ coherent.waits.caller w.call.number t w.calling;
          }

  root_reached : (n t : ℕ) → Walks m t (walk n m t)
  root_reached zero t = Walks.ends
  root_reached (suc n) t = go (caller_of m t) refl (root_reached n)
    where
      go : (o : Option ℕ) → caller_of m t ≡ o → ((u : ℕ) → Walks m u (walk n m u)) → Walks m t (option_map_or (walk n m) o t)
      go None e ih = Walks.ends
      go (Some u) e ih = Walks.goes t u _ (served_is t u e) (ih u)

  one_more : (t u v : ℕ) → Walks m t u → Serves m u v → Walks m t v
  one_more t u v Walks.ends s = Walks.goes t v v s Walks.ends
  one_more t u v (Walks.goes _ w _ f x) s = Walks.goes t w v f (one_more w u v x s)

  lead_reached : (n t : ℕ) → Walks m (walk_down n m t) t
  lead_reached zero t = Walks.ends
  lead_reached (suc n) t = go (server_of m t) refl (lead_reached n)
    where
      go : (o : Option ℕ) → server_of m t ≡ o → ((u : ℕ) → Walks m (walk_down n m u) u) → Walks m (option_map_or (walk_down n m) o t) t
      go None e ih = Walks.ends
      go (Some u) e ih = one_more _ u t (ih u) (serves_back t u e)

  none_and_some : (o : Option ℕ) (u : ℕ) → o ≡ Some u → o ≡ None → ⊥
  none_and_some o u e f = absurd (cc (sym e ∙ f))

  same : (o : Option ℕ) (u v : ℕ) → o ≡ Some u → o ≡ Some v → u ≡ v
  same o u v e f = cc

  pub has_holders : HasHolders m
  has_holders =
      record {
        one_served = λ t u v a b. same (caller_of m t) u v (caller_is t u a) (caller_is t v b);
        one_server = λ t u v a b. same (server_of m v) t u (turned t v (caller_is t v a)) (turned u v (caller_is u v b));
        root_reached = root_reached m.call_tree.made;
        root_ends = λ t u s. none_and_some _ u (caller_is (root m t) u s) (root_end t);
        lead_reached = lead_reached m.call_tree.made;
        lead_ends = λ t u s. none_and_some _ u (turned u (lead m t) (caller_is u (lead m t) s)) (lead_end t);
        holds = holds;
        apart = λ t u e f g. sym (holds t e) ∙ ap (lead m) g ∙ holds u f;
      }

may_run : (m : State) (t : ℕ) (q : Option Request) → MayTurn m t q → is_runnable m t ≡ true
may_run m t (Some r) may = running_goes_on m (state_of m t) may.running
may_run m t None may = may.runnable

pub held_holds : (m : State) (xs : List Turn) → Known m xs → Held m xs
held_holds m xs k =
    record {
      each = λ i l. has_holders (state_at m xs i) (k.invariant i l);
      turn =
          λ i x e.
          (has_holders (state_at m xs i) (k.invariant i (omega (arith, slice_get_within xs i x e)))).holds x.thread
          (may_run (state_at m xs i) x.thread x.request (k.may i x e));
    }
