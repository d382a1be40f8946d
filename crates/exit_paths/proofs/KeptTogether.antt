-- Threads and calls say of each other the same kind of things after they left as before.
use Rattle.std.proofs.Common.{◌≡◌, ℕ, ◌<◌, ◌≤◌, ◌==◌, ◌&&◌, ◌||◌, not, Bool, true, false, if◌then◌else◌, List, [], ◌∷◌, Option, Some, None, option_map, find, filter, map, refl, sym, ap, ap₂, ◌∙◌, arith}
use Rattle.std.proofs.lemmas.Bool.Decides.{nat_tests}
use Rattle.dk_base.specs.declared.object.Item.TheVariants as item
use Rattle.spec_records.specs.declared.record.CallStage.TheVariants as stage
use Rattle.spec_records.specs.declared.record.ThreadState.TheVariants as is
use Rattle.spec_records.specs.Words.{CallTree, IsAscending, Leaving, ProcessTable, call_number, cancelled_invocation, cancelled_thread, deserted_at, deserted_in, ended_thread, interrupted_state, interrupted_where, invocation_in, is_entered_by, is_given_to, is_left, is_live, is_live_call, is_served_by, is_to_collect, left_call, left_calls, left_thread_of, left_threads, live_calls, state_in, thread_at, tid}
use Rattle.spec_records.proofs.Lists.{at_number-map}
use Rattle.spec_records.proofs.NumberedLists.{find-passes}
use Rattle.spec_kernel.specs.Types.{Call, CallStage, Inv, Item, Thread, ThreadState}
use Rattle.law_states.specs.Core.{abandoned_in, caller_number, is_outside, is_underway, live_in, underway_in}
use Rattle.law_states.specs.Records.{item_in, stage_in}
use Rattle.call_tree.specs.Words.{AreSound, is_call}
use Rattle.law_pools.proofs.Readers.{same_number}
use Rattle.law_pools.proofs.WaitingLists.{both_true}
use Rattle.exit_paths.specs.Words.{AreTogether, call_of, or_forgotten, role_of, serves_in}

-- the calls

number_kept : (who : Leaving) (r : Call) → (left_call who r).number ≡ r.number
number_kept who r = grind (arith, nat_tests)

live_kept : (who : Leaving) (r : Call) → is_live (left_call who r).stage ≡ (is_live r.stage && not (who.ends r.caller.0))
live_kept who r = grind arith

caller_kept : (who : Leaving) (r : Call) → (left_call who r).caller ≡ r.caller
caller_kept who r = grind arith

was_given : (who : Leaving) (u : ℕ) (r : Call) → (left_call who r).stage ≡ stage.Given (tid u) → (r.stage ≡ stage.Given (tid u)) × (who.ends u ≡ false) × (is_left who r ≡ false)
was_given who u r e = (grind arith, grind arith, grind arith)

still_given : (who : Leaving) (u : ℕ) (r : Call) → r.stage ≡ stage.Given (tid u) → is_left who r ≡ false → who.ends u ≡ false → (left_call who r).stage ≡ stage.Given (tid u)
still_given who u r e f g = grind arith

was_entered : (who : Leaving) (u : ℕ) (r : Call) → (left_call who r).stage ≡ stage.Entered (tid u) → (r.stage ≡ stage.Entered (tid u)) × (who.ends u ≡ false) × (is_left who r ≡ false)
was_entered who u r e = (grind arith, grind arith, grind arith)

still_entered : (who : Leaving) (u : ℕ) (r : Call) → r.stage ≡ stage.Entered (tid u) → (left_call who r).abandoned ≡ false → who.ends u ≡ false → (left_call who r).stage ≡ stage.Entered (tid u)
still_entered who u r e f g = grind arith

was_not_abandoned : (who : Leaving) (r : Call) → (left_call who r).abandoned ≡ false → r.abandoned ≡ false
was_not_abandoned who r e = grind arith

still_underway : (who : Leaving) (r : Call) → is_underway (left_call who r).stage ≡ true → (is_underway r.stage ≡ true) × ((left_call who r).abandoned ≡ r.abandoned)
still_underway who r e = (grind arith, grind arith)

-- found after the event: what was found before it, if it is still live
abbrev kept_live : Leaving → Option Call → Option Call
kept_live who None = None
kept_live who (Some r) = if is_live_call (left_call who r) then Some (left_call who r) else None

none_later : (who : Leaving) (c low made : ℕ) (rs : List Call) → IsAscending call_number low made rs → c ≤ low → find (is_call c) (filter is_live_call (map (left_call who) rs)) ≡ None
none_later who c low made [] a l = refl
none_later who c low made (r ∷ rs) a l = go (is_live_call (left_call who r)) (none_later who c r.number made rs a.2 (omega (arith, a.0)))
  where
    other : ((left_call who r).number == c) ≡ false
    other = ap (λ n. n == c) (number_kept who r) ∙ apart r.number c (omega (arith, a.0))
      where
        apart : (j k : ℕ) → k < j → (j == k) ≡ false
        apart j k m = grind (arith, nat_tests)

    go : (b : Bool) → find (is_call c) (filter is_live_call (map (left_call who) rs)) ≡ None → find (is_call c) (if b then left_call who r ∷ filter is_live_call (map (left_call who) rs) else filter is_live_call (map (left_call who) rs)) ≡ None
    go true ih = ap (λ b. if b then Some (left_call who r) else find (is_call c) (filter is_live_call (map (left_call who) rs))) other ∙ ih
    go false ih = ih

found_after : (who : Leaving) (c low made : ℕ) (rs : List Call) → IsAscending call_number low made rs → find (is_call c) (filter is_live_call (map (left_call who) rs)) ≡ kept_live who (find (is_call c) rs)
found_after who c low made [] a = refl
found_after who c low made (r ∷ rs) a = go (r.number == c) refl (is_live_call (left_call who r)) refl (found_after who c r.number made rs a.2)
  where
    go :
        (b : Bool) → (r.number == c) ≡ b → (d : Bool) → is_live_call (left_call who r) ≡ d →
        find (is_call c) (filter is_live_call (map (left_call who) rs)) ≡ kept_live who (find (is_call c) rs) →
        find (is_call c) (if d then left_call who r ∷ filter is_live_call (map (left_call who) rs) else filter is_live_call (map (left_call who) rs)) ≡ kept_live who (if b then Some r else find (is_call c) rs)
    go true e true f ih =
        ap (λ b. if b then Some (left_call who r) else find (is_call c) (filter is_live_call (map (left_call who) rs))) (ap (λ n. n == c) (number_kept who r) ∙ e)
        ∙ sym (ap (λ b. if b then Some (left_call who r) else None) f)
    go true e false f ih =
        none_later who c r.number made rs a.2 (let n = same_number r.number c e in omega (arith, n)) ∙ sym (ap (λ b. if b then Some (left_call who r) else None) f)
    go false e true f ih = ap (λ b. if b then Some (left_call who r) else find (is_call c) (filter is_live_call (map (left_call who) rs))) (ap (λ n. n == c) (number_kept who r) ∙ e) ∙ ih
    go false e false f ih = ih

-- the threads

data Outcome (who : Leaving) (now u : ℕ) (calls : List Call) (x y : Thread) : Type 0 where
  ends : who.ends u ≡ true → y.state ≡ is.Done → y.invocation ≡ None → Outcome who now u calls x y
  parks :
      (r : Call) → who.ends u ≡ false → find (is_served_by u) calls ≡ Some r → r.stage ≡ stage.Given (tid u) → is_left who r ≡ true → y.state ≡ is.Idle now →
      y.invocation ≡ None → Outcome who now u calls x y
  stays :
      (b : Bool) → who.ends u ≡ false → y.state ≡ (if b then interrupted_state x.state else x.state) → item_in y.invocation ≡ item_in x.invocation →
      ((r : Call) → find (is_served_by u) calls ≡ Some r → r.stage ≡ stage.Given (tid u) → is_left who r ≡ false) → Outcome who now u calls x y

outcome : (who : Leaving) (now : ℕ) (calls : List Call) (x : Thread) → Outcome who now x.number calls x (left_thread_of who now calls x)
outcome who now calls x = go (who.ends x.number) refl (find (is_served_by x.number) calls) refl
  where
    state_where : (c : Bool) → (interrupted_where c x).state ≡ (if c then interrupted_state x.state else x.state)
    state_where true = refl
    state_where false = refl

    invocation_where : (c : Bool) → (interrupted_where c x).invocation ≡ x.invocation
    invocation_where true = refl
    invocation_where false = refl

    item-cancelled : (v : Option Inv) → item_in (option_map cancelled_invocation v) ≡ item_in v
    item-cancelled None = refl
    item-cancelled (Some v) = refl

    -- a thread whose caller has not left, or that is told so
    goes_on :
        (y : Thread) → who.ends x.number ≡ false → y.state ≡ (interrupted_where (who.interrupts x.number) x).state → item_in y.invocation ≡ item_in x.invocation →
        ((r : Call) → find (is_served_by x.number) calls ≡ Some r → r.stage ≡ stage.Given (tid x.number) → is_left who r ≡ false) → Outcome who now x.number calls x y
    goes_on y e s i f = stays (who.interrupts x.number) e (s ∙ state_where (who.interrupts x.number)) i f

    same_call : (r s : Call) → Some r ≡ Some s → r ≡ s
    same_call r s e = cc

    no_server : (r : Call) → find (is_served_by x.number) calls ≡ Some r → (s : CallStage) → r.stage ≡ s → (is_given_to x.number s || is_entered_by x.number s) ≡ false → ⊥
    no_server r f s g h =
        let served = both_true (not r.abandoned) (is_given_to x.number r.stage || is_entered_by x.number r.stage) (find-passes (is_served_by x.number) calls r f) in
        let none : (is_given_to x.number r.stage || is_entered_by x.number r.stage) ≡ false = ap (λ y. is_given_to x.number y || is_entered_by x.number y) g ∙ h in
        cc

    at_stage :
        (r : Call) → who.ends x.number ≡ false → find (is_served_by x.number) calls ≡ Some r → is_left who r ≡ true → (s : CallStage) → r.stage ≡ s →
        Outcome who now x.number calls x (deserted_at now r.no_cancel s (interrupted_where (who.interrupts x.number) x))
    at_stage r e f l (stage.Given u) g =
        parks r e f (g ∙ ap (λ k. stage.Given (tid k)) (given_number u.0 (both_true (not r.abandoned) (is_given_to x.number r.stage || is_entered_by x.number r.stage) (find-passes (is_served_by x.number) calls r f)).1 g)) l refl refl
      where
        given_number : (k : ℕ) → (is_given_to x.number r.stage || is_entered_by x.number r.stage) ≡ true → r.stage ≡ stage.Given (tid k) → k ≡ x.number
        given_number k h q = same_number k x.number (or_none (k == x.number) (sym (ap (λ s. is_given_to x.number s || is_entered_by x.number s) q) ∙ h))
          where
            or_none : (c : Bool) → (c || false) ≡ true → c ≡ true
            or_none true m = refl
            or_none false m = m
    at_stage r e f l (stage.Entered u) g = told r.no_cancel
      where
        none : (s : Call) → find (is_served_by x.number) calls ≡ Some s → s.stage ≡ stage.Given (tid x.number) → is_left who s ≡ false
        none s h q =
            let same : r ≡ s = same_call r s (sym f ∙ h) in
            let other : stage.Entered u ≡ stage.Given (tid x.number) = sym g ∙ ap (λ (y : Call). y.stage) same ∙ q in
            cc

        told : (c : Bool) → Outcome who now x.number calls x (if c then interrupted_where (who.interrupts x.number) x else cancelled_thread (interrupted_where (who.interrupts x.number) x))
        told true = goes_on (interrupted_where (who.interrupts x.number) x) e refl (ap item_in (invocation_where (who.interrupts x.number))) none
        told false =
            goes_on (cancelled_thread (interrupted_where (who.interrupts x.number) x)) e refl
            (item-cancelled (interrupted_where (who.interrupts x.number) x).invocation ∙ ap item_in (invocation_where (who.interrupts x.number))) none
    at_stage r e f l stage.Queued g = absurd (no_server r f stage.Queued g refl)
    at_stage r e f l (stage.Returned bytes objects) g = absurd (no_server r f (stage.Returned bytes objects) g refl)
    at_stage r e f l (stage.Ended k) g = absurd (no_server r f (stage.Ended k) g refl)
    at_stage r e f l (stage.Answered k) g = absurd (no_server r f (stage.Answered k) g refl)
    at_stage r e f l stage.Gone g = absurd (no_server r f stage.Gone g refl)

    go :
        (c : Bool) → who.ends x.number ≡ c → (o : Option Call) → find (is_served_by x.number) calls ≡ o →
        Outcome who now x.number calls x (if c then ended_thread x else deserted_in who now o (interrupted_where (who.interrupts x.number) x))
    go true e o f = ends e refl refl
    go false e None f =
        goes_on (interrupted_where (who.interrupts x.number) x) e refl (ap item_in (invocation_where (who.interrupts x.number)))
        (λ s h q. let other : None ≡ Some s = sym f ∙ h in cc)
    go false e (Some r) f = by_left (is_left who r) refl
      where
        by_left : (c : Bool) → is_left who r ≡ c → Outcome who now x.number calls x (if c then deserted_at now r.no_cancel r.stage (interrupted_where (who.interrupts x.number) x) else interrupted_where (who.interrupts x.number) x)
        by_left true l = at_stage r e f l r.stage refl
        by_left false l =
            goes_on (interrupted_where (who.interrupts x.number) x) e refl (ap item_in (invocation_where (who.interrupts x.number)))
            (λ s h q. ap (is_left who) (sym (same_call r s (sym f ∙ h))) ∙ l)

thread_number : (who : Leaving) (now : ℕ) (calls : List Call) (x : Thread) → (left_thread_of who now calls x).number ≡ x.number
thread_number who now calls x = go (who.ends x.number) (find (is_served_by x.number) calls)
  where
    interrupted : (b : Bool) → (interrupted_where b x).number ≡ x.number
    interrupted true = refl
    interrupted false = refl

    at_stage : (b : Bool) (s : CallStage) → (deserted_at now b s (interrupted_where (who.interrupts x.number) x)).number ≡ x.number
    at_stage b (stage.Given u) = interrupted (who.interrupts x.number)
    at_stage true (stage.Entered u) = interrupted (who.interrupts x.number)
    at_stage false (stage.Entered u) = interrupted (who.interrupts x.number)
    at_stage b stage.Queued = interrupted (who.interrupts x.number)
    at_stage b (stage.Returned bytes objects) = interrupted (who.interrupts x.number)
    at_stage b (stage.Ended e) = interrupted (who.interrupts x.number)
    at_stage b (stage.Answered k) = interrupted (who.interrupts x.number)
    at_stage b stage.Gone = interrupted (who.interrupts x.number)

    by_left : (b : Bool) (r : Call) → (if b then deserted_at now r.no_cancel r.stage (interrupted_where (who.interrupts x.number) x) else interrupted_where (who.interrupts x.number) x).number ≡ x.number
    by_left true r = at_stage r.no_cancel r.stage
    by_left false r = interrupted (who.interrupts x.number)

    go : (b : Bool) (o : Option Call) → (if b then ended_thread x else deserted_in who now o (interrupted_where (who.interrupts x.number) x)).number ≡ x.number
    go true o = refl
    go false None = interrupted (who.interrupts x.number)
    go false (Some r) = by_left (is_left who r) r

-- what an interrupt leaves of a state

abbrev turned : Bool → ThreadState → ThreadState
turned b s = if b then interrupted_state s else s

was_given_to : (b : Bool) (s : ThreadState) (i : Item) → turned b s ≡ is.Given i → s ≡ is.Given i
was_given_to false s i e = e
was_given_to true (is.Getting port max nget one interrupted) i e = cc
was_given_to true is.Dormant i e = e
was_given_to true is.Running i e = e
was_given_to true (is.Idle since) i e = e
was_given_to true (is.Given j) i e = e
was_given_to true (is.Calling c) i e = e
was_given_to true (is.Awaiting path) i e = e
was_given_to true (is.Working op input) i e = e
was_given_to true is.FailedReturn i e = e
was_given_to true is.Done i e = e

was_calling : (b : Bool) (s : ThreadState) (c : ℕ) → turned b s ≡ is.Calling c → s ≡ is.Calling c
was_calling false s c e = e
was_calling true (is.Getting port max nget one interrupted) c e = cc
was_calling true is.Dormant c e = e
was_calling true is.Running c e = e
was_calling true (is.Idle since) c e = e
was_calling true (is.Given j) c e = e
was_calling true (is.Calling d) c e = e
was_calling true (is.Awaiting path) c e = e
was_calling true (is.Working op input) c e = e
was_calling true is.FailedReturn c e = e
was_calling true is.Done c e = e

same_outside : (b : Bool) (s : ThreadState) → is_outside (turned b s) ≡ is_outside s
same_outside false s = refl
same_outside true (is.Getting port max nget one interrupted) = refl
same_outside true _ = refl

still_turned : (b : Bool) (s t : ThreadState) → s ≡ t → interrupted_state t ≡ t → turned b s ≡ t
still_turned true s t e f = ap interrupted_state e ∙ f
still_turned false s t e f = e

no_item : (v : Option Inv) → item_in v ≡ None → v ≡ None
no_item None e = refl
no_item (Some v) e = cc

module _ {table : ProcessTable} {tree : CallTree} (h : AreTogether table tree) (sound : AreSound tree) (who : Leaving) (now : ℕ) where
  abbrev table_after : ProcessTable
  table_after = left_threads who now tree.calls table

  abbrev tree_after : CallTree
  tree_after = live_calls (left_calls who tree)

  -- one thread

  data Turn (u : ℕ) : Type 0 where
    ended : who.ends u ≡ true → role_of table_after u ≡ is.Done → serves_in table_after u ≡ None → Turn u
    absent : role_of table u ≡ is.Done → serves_in table u ≡ None → role_of table_after u ≡ is.Done → serves_in table_after u ≡ None → Turn u
    parked :
        (r : Call) → find (is_served_by u) tree.calls ≡ Some r → r.stage ≡ stage.Given (tid u) → is_left who r ≡ true → role_of table_after u ≡ is.Idle now →
        serves_in table_after u ≡ None → Turn u
    stayed :
        (b : Bool) → who.ends u ≡ false → role_of table_after u ≡ turned b (role_of table u) → item_in (serves_in table_after u) ≡ item_in (serves_in table u) →
        ((r : Call) → find (is_served_by u) tree.calls ≡ Some r → r.stage ≡ stage.Given (tid u) → is_left who r ≡ false) → Turn u

  turn : (u : ℕ) → Turn u
  turn u = go (thread_at table u) refl
    where
      after : thread_at (left_threads who now tree.calls table) u ≡ option_map (left_thread_of who now tree.calls) (thread_at table u)
      after = at_number-map (left_thread_of who now tree.calls) table.threads u

      go : (o : Option Thread) → thread_at table u ≡ o → Turn u
      go None e =
          let f = after ∙ ap (option_map (left_thread_of who now tree.calls)) e in
          absent (ap state_in e) (ap invocation_in e) (ap state_in f) (ap invocation_in f)
      go (Some x) e = by_outcome (outcome who now tree.calls x)
        where
          f : thread_at (left_threads who now tree.calls table) u ≡ Some (left_thread_of who now tree.calls x)
          f = after ∙ ap (option_map (left_thread_of who now tree.calls)) e

          n : x.number ≡ u
          n = h.numbered u x e

          by_outcome : Outcome who now x.number tree.calls x (left_thread_of who now tree.calls x) → Turn u
          by_outcome (ends a s i) = ended (ap who.ends (sym n) ∙ a) (ap state_in f ∙ s) (ap invocation_in f ∙ i)
          by_outcome (parks r a k g l s i) =
              parked r (ap (λ j. find (is_served_by j) tree.calls) (sym n) ∙ k) (g ∙ ap (λ j. stage.Given (tid j)) n) l (ap state_in f ∙ s) (ap invocation_in f ∙ i)
          by_outcome (stays b a s i k) =
              stayed b (ap who.ends (sym n) ∙ a) (ap state_in f ∙ s ∙ sym (ap (λ o. turned b (state_in o)) e)) (ap (λ o. item_in (invocation_in o)) f ∙ i ∙ sym (ap (λ o. item_in (invocation_in o)) e))
              (λ r m g. k r (ap (λ j. find (is_served_by j) tree.calls) n ∙ m) (g ∙ ap (λ j. stage.Given (tid j)) (sym n)))

  -- one call

  call_after : (c : ℕ) (o : Option Call) → find (is_call c) tree.calls ≡ o → call_of tree_after c ≡ or_forgotten c (kept_live who o)
  call_after c o e = ap (or_forgotten c) (found_after who c 0 tree.made tree.calls sound.ascending ∙ ap (kept_live who) e)

  call_before : (c : ℕ) (r : Call) → find (is_call c) tree.calls ≡ Some r → call_of tree c ≡ Some r
  call_before c r e = ap (or_forgotten c) e

  call_kept : (c : ℕ) (r : Call) → find (is_call c) tree.calls ≡ Some r → is_live (left_call who r).stage ≡ true → call_of tree_after c ≡ Some (left_call who r)
  call_kept c r e l = call_after c (Some r) e ∙ ap (λ b. or_forgotten c (if b then Some (left_call who r) else None)) l

  -- what is live after the event was found before it
  record Found (c : ℕ) : Type 0 where
    pub call : Call
    pub found : find (is_call c) tree.calls ≡ Some call
    pub live : is_live (left_call who call).stage ≡ true
    pub after : call_of tree_after c ≡ Some (left_call who call)

  found_live : (c : ℕ) → live_in (call_of tree_after c) ≡ true → Found c
  found_live c l = go (find (is_call c) tree.calls) refl
    where
      go : (o : Option Call) → find (is_call c) tree.calls ≡ o → Found c
      go None e = absurd (let f : false ≡ true = sym (ap live_in (call_after c None e)) ∙ l in cc)
      go (Some r) e = by_live (is_live (left_call who r).stage) refl
        where
          by_live : (b : Bool) → is_live (left_call who r).stage ≡ b → Found c
          by_live true m = record { call = r; found = e; live = m; after = call_kept c r e m }
          by_live false m =
              absurd
              (let f : false ≡ true = sym (ap live_in (call_after c (Some r) e ∙ ap (λ b. or_forgotten c (if b then Some (left_call who r) else None)) m)) ∙ l in cc)

  found_stage : (c : ℕ) (s : CallStage) → stage_in (call_of tree_after c) ≡ Some s → is_live s ≡ true → (f : Found c) × ((left_call who f.call).stage ≡ s)
  found_stage c s e l =
      let f = found_live c (live_of (call_of tree_after c) e) in
      let both : Some (left_call who f.call).stage ≡ Some s = sym (ap stage_in f.after) ∙ e in
      (f, same both)
    where
      live_of : (o : Option Call) → stage_in o ≡ Some s → live_in o ≡ true
      live_of None m = cc
      live_of (Some r) m = let q : r.stage ≡ s = cc in ap is_live q ∙ l

      same : {a b : CallStage} → Some a ≡ Some b → a ≡ b
      same m = cc

  -- a call that is given to, or entered by, a thread is served by it
  served : (c u : ℕ) (r : Call) → find (is_call c) tree.calls ≡ Some r → is_to_collect r.stage ≡ false → (is_given_to u r.stage || is_entered_by u r.stage) ≡ true → find (is_served_by u) tree.calls ≡ Some r
  served c u r e p q = sound.server (is_call c) r u e (ap₂ (λ a b. a && b) (go r.abandoned refl) q)
    where
      go : (b : Bool) → r.abandoned ≡ b → not b ≡ true
      go false a = refl
      go true a = let g : is_to_collect r.stage ≡ true = sound.abandoned (is_call c) r e a in cc

  given_test : (u : ℕ) (s : CallStage) → s ≡ stage.Given (tid u) → ((is_given_to u s || is_entered_by u s) ≡ true) × (is_to_collect s ≡ false)
  given_test u s e = (ap (λ y. is_given_to u y || is_entered_by u y) e ∙ go u, ap is_to_collect e)
    where
      go : (k : ℕ) → ((k == k) || false) ≡ true
      go k = grind (arith, nat_tests)

  entered_test : (u : ℕ) (s : CallStage) → s ≡ stage.Entered (tid u) → ((is_given_to u s || is_entered_by u s) ≡ true) × (is_to_collect s ≡ false)
  entered_test u s e = (ap (λ y. is_given_to u y || is_entered_by u y) e ∙ go u, ap is_to_collect e)
    where
      go : (k : ℕ) → (k == k) ≡ true
      go k = grind (arith, nat_tests)

  same_served : (r s : Call) → Some r ≡ Some s → r ≡ s
  same_served r s e = cc

  -- the waits

  kept_given : (c u : ℕ) → stage_in (call_of tree_after c) ≡ Some (stage.Given (tid u)) → role_of table_after u ≡ is.Given (item.Call c)
  kept_given c u e =
      let f = found_stage c (stage.Given (tid u)) e refl in
      let r = f.0.call in
      let was = was_given who u r f.1 in
      let role : role_of table u ≡ is.Given (item.Call c) = h.waits.given c u (ap stage_in (call_before c r f.0.found) ∙ ap (λ s. Some s) was.0) in
      let t = given_test u r.stage was.0 in
      by_turn r was.1 was.2 role (served c u r f.0.found t.1 t.0) (turn u)
    where
      by_turn :
          (r : Call) → who.ends u ≡ false → is_left who r ≡ false → role_of table u ≡ is.Given (item.Call c) → find (is_served_by u) tree.calls ≡ Some r → Turn u →
          role_of table_after u ≡ is.Given (item.Call c)
      by_turn r a l role s (ended m x y) = cc
      by_turn r a l role s (absent m i x y) = cc
      by_turn r a l role s (parked q k g m x y) =
          let same : r ≡ q = same_served r q (sym s ∙ k) in let n : is_left who r ≡ true = ap (is_left who) same ∙ m in cc
      by_turn r a l role s (stayed b m x i k) = x ∙ still_turned b (role_of table u) (is.Given (item.Call c)) role refl

  kept_given_back : (c u : ℕ) → role_of table_after u ≡ is.Given (item.Call c) → stage_in (call_of tree_after c) ≡ Some (stage.Given (tid u))
  kept_given_back c u e = by_turn (turn u)
    where
      by_turn : Turn u → stage_in (call_of tree_after c) ≡ Some (stage.Given (tid u))
      by_turn (ended m x y) = cc
      by_turn (absent m i x y) = cc
      by_turn (parked q k g m x y) = cc
      by_turn (stayed b m x i k) = by_call (find (is_call c) tree.calls) refl
        where
          before : stage_in (call_of tree c) ≡ Some (stage.Given (tid u))
          before = h.waits.given_back c u (was_given_to b (role_of table u) (item.Call c) (sym x ∙ e))

          by_call : (o : Option Call) → find (is_call c) tree.calls ≡ o → stage_in (call_of tree_after c) ≡ Some (stage.Given (tid u))
          by_call None f = absurd (let g : Some stage.Gone ≡ Some (stage.Given (tid u)) = sym (ap (λ o. stage_in (or_forgotten c o)) f) ∙ before in cc)
          by_call (Some r) f =
              let g : Some r.stage ≡ Some (stage.Given (tid u)) = sym (ap (λ o. stage_in (or_forgotten c o)) f) ∙ before in
              let s : r.stage ≡ stage.Given (tid u) = cc in
              let t = given_test u r.stage s in
              let after : (left_call who r).stage ≡ stage.Given (tid u) = still_given who u r s (k r (served c u r f t.1 t.0) s) m in
              ap stage_in (call_kept c r f (ap is_live after)) ∙ ap (λ y. Some y) after

  -- a thread that is Calling was so, and has not ended
  calling_was : (c t : ℕ) → role_of table_after t ≡ is.Calling c → (role_of table t ≡ is.Calling c) × (who.ends t ≡ false)
  calling_was c t e = by_turn (turn t)
    where
      by_turn : Turn t → (role_of table t ≡ is.Calling c) × (who.ends t ≡ false)
      by_turn (ended m x y) = absurd (cc)
      by_turn (absent m i x y) = absurd (cc)
      by_turn (parked q k g m x y) = absurd (cc)
      by_turn (stayed b m x i k) = (was_calling b (role_of table t) c (sym x ∙ e), m)

  calling_call : (c t : ℕ) → role_of table_after t ≡ is.Calling c → (caller_number (call_of tree_after c) ≡ t) × (live_in (call_of tree_after c) ≡ true)
  calling_call c t e = go (find (is_call c) tree.calls) refl
    where
      was : (role_of table t ≡ is.Calling c) × (who.ends t ≡ false)
      was = calling_was c t e

      go : (o : Option Call) → find (is_call c) tree.calls ≡ o → (caller_number (call_of tree_after c) ≡ t) × (live_in (call_of tree_after c) ≡ true)
      go None f = absurd (let g : false ≡ true = sym (ap (λ o. live_in (or_forgotten c o)) f) ∙ h.waits.live c t was.0 in cc)
      go (Some r) f =
          let caller : r.caller.0 ≡ t = sym (ap (λ o. caller_number (or_forgotten c o)) f) ∙ h.waits.caller c t was.0 in
          let live : is_live r.stage ≡ true = sym (ap (λ o. live_in (or_forgotten c o)) f) ∙ h.waits.live c t was.0 in
          let after : is_live (left_call who r).stage ≡ true = live_kept who r ∙ ap₂ (λ a b. a && not b) live (ap who.ends caller ∙ was.1) in
          let is = call_kept c r f after in
          (ap caller_number is ∙ ap (λ x. x.0) (caller_kept who r) ∙ caller, ap live_in is ∙ after)

  calls_role : (c : ℕ) → live_in (call_of tree_after c) ≡ true → role_of table_after (caller_number (call_of tree_after c)) ≡ is.Calling c
  calls_role c l =
      let f = found_live c l in
      let r = f.call in
      let number : caller_number (call_of tree_after c) ≡ r.caller.0 = ap caller_number f.after ∙ ap (λ x. x.0) (caller_kept who r) in
      let both = both_true (is_live r.stage) (not (who.ends r.caller.0)) (sym (live_kept who r) ∙ f.live) in
      let before : role_of table r.caller.0 ≡ is.Calling c =
      ap (λ o. role_of table (caller_number o)) (sym (call_before c r f.found)) ∙ h.waits.calling c (ap live_in (call_before c r f.found) ∙ both.0) in
      ap (role_of table_after) number ∙ by_turn r.caller.0 before both.1 (turn r.caller.0)
    where
      by_turn : (t : ℕ) → role_of table t ≡ is.Calling c → not (who.ends t) ≡ true → Turn t → role_of table_after t ≡ is.Calling c
      by_turn t e a (ended m x y) = absurd (let g : false ≡ true = sym (ap not m) ∙ a in cc)
      by_turn t e a (absent m i x y) = cc
      by_turn t e a (parked q k g m x y) =
          let given = h.waits.given q.number t (ap stage_in (call_before q.number q (sound.number (is_served_by t) q k)) ∙ ap (λ s. Some s) g) in cc
      by_turn t e a (stayed b m x i k) = x ∙ still_turned b (role_of table t) (is.Calling c) e refl

  -- the invocations

  -- a thread that has an invocation had it, and has not ended
  invoked_was : (u : ℕ) (i : Item) → item_in (serves_in table_after u) ≡ Some i → (item_in (serves_in table u) ≡ Some i) × (who.ends u ≡ false) × ((c : ℕ) → role_of table_after u ≡ is.Calling c → role_of table u ≡ is.Calling c)
  invoked_was u i e = by_turn (turn u)
    where
      by_turn : Turn u → (item_in (serves_in table u) ≡ Some i) × (who.ends u ≡ false) × ((c : ℕ) → role_of table_after u ≡ is.Calling c → role_of table u ≡ is.Calling c)
      by_turn (ended m x y) = absurd (let g : None ≡ Some i = sym (ap item_in y) ∙ e in cc)
      by_turn (absent m j x y) = absurd (let g : None ≡ Some i = sym (ap item_in y) ∙ e in cc)
      by_turn (parked q k g m x y) = absurd (let g : None ≡ Some i = sym (ap item_in y) ∙ e in cc)
      by_turn (stayed b m x j k) = (sym j ∙ e, m, λ c f. was_calling b (role_of table u) c (sym x ∙ f))

  kept_entered : (c u : ℕ) → stage_in (call_of tree_after c) ≡ Some (stage.Entered (tid u)) → item_in (serves_in table_after u) ≡ Some (item.Call c)
  kept_entered c u e =
      let f = found_stage c (stage.Entered (tid u)) e refl in
      let r = f.0.call in
      let was = was_entered who u r f.1 in
      let before : item_in (serves_in table u) ≡ Some (item.Call c) = h.invocations.entered c u (ap stage_in (call_before c r f.0.found) ∙ ap (λ s. Some s) was.0) in
      let t = entered_test u r.stage was.0 in
      by_turn r was.0 was.1 before (served c u r f.0.found t.1 t.0) (turn u)
    where
      by_turn :
          (r : Call) → r.stage ≡ stage.Entered (tid u) → who.ends u ≡ false → item_in (serves_in table u) ≡ Some (item.Call c) → find (is_served_by u) tree.calls ≡ Some r → Turn u →
          item_in (serves_in table_after u) ≡ Some (item.Call c)
      by_turn r g a before s (ended m x y) = cc
      by_turn r g a before s (absent m i x y) = absurd (let n : None ≡ Some (item.Call c) = sym (ap item_in i) ∙ before in cc)
      by_turn r g a before s (parked q k n m x y) =
          absurd (let same : r ≡ q = same_served r q (sym s ∙ k) in let o : stage.Entered (tid u) ≡ stage.Given (tid u) = sym g ∙ ap (λ (z : Call). z.stage) same ∙ n in cc)
      by_turn r g a before s (stayed b m x i k) = i ∙ before

  kept_entered_back :
      (c u : ℕ) → item_in (serves_in table_after u) ≡ Some (item.Call c) → abandoned_in (call_of tree_after c) ≡ false →
      stage_in (call_of tree_after c) ≡ Some (stage.Entered (tid u))
  kept_entered_back c u e a = go (find (is_call c) tree.calls) refl
    where
      go : (o : Option Call) → find (is_call c) tree.calls ≡ o → stage_in (call_of tree_after c) ≡ Some (stage.Entered (tid u))
      go None f = absurd (let g : true ≡ false = sym (ap abandoned_in (call_after c None f)) ∙ a in cc)
      go (Some r) f = by_live (is_live (left_call who r).stage) refl
        where
          by_live : (b : Bool) → is_live (left_call who r).stage ≡ b → stage_in (call_of tree_after c) ≡ Some (stage.Entered (tid u))
          by_live false m =
              absurd
              (let g : true ≡ false = sym (ap abandoned_in (call_after c (Some r) f ∙ ap (λ b. or_forgotten c (if b then Some (left_call who r) else None)) m)) ∙ a in cc)
          by_live true m =
              let is = call_kept c r f m in
              let plain : (left_call who r).abandoned ≡ false = sym (ap abandoned_in is) ∙ a in
              let old : abandoned_in (call_of tree c) ≡ false = ap abandoned_in (call_before c r f) ∙ was_not_abandoned who r plain in
              let w = invoked_was u (item.Call c) e in
              let both : Some r.stage ≡ Some (stage.Entered (tid u)) = sym (ap stage_in (call_before c r f)) ∙ h.invocations.entered_back c u w.0 old in
              let s : r.stage ≡ stage.Entered (tid u) = cc in
              ap stage_in is ∙ ap (λ y. Some y) (still_entered who u r s plain w.1)

  kept_plain : (c : ℕ) → underway_in (call_of tree_after c) ≡ true → abandoned_in (call_of tree_after c) ≡ false
  kept_plain c e =
      let f = found_live c (live_of (call_of tree_after c) e) in
      let w = still_underway who f.call (sym (ap underway_in f.after) ∙ e) in
      ap abandoned_in f.after ∙ w.1
      ∙ sym (ap abandoned_in (call_before c f.call f.found))
      ∙ h.invocations.kept c (ap underway_in (call_before c f.call f.found) ∙ w.0)
    where
      at_stage : (s : CallStage) → is_underway s ≡ true → is_live s ≡ true
      at_stage stage.Queued m = refl
      at_stage (stage.Given u) m = refl
      at_stage (stage.Entered u) m = refl
      at_stage (stage.Returned bytes objects) m = refl
      at_stage (stage.Ended k) m = refl
      at_stage (stage.Answered k) m = cc
      at_stage stage.Gone m = cc

      live_of : (o : Option Call) → underway_in o ≡ true → live_in o ≡ true
      live_of None m = cc
      live_of (Some r) m = at_stage r.stage m

  -- threads outside of calls

  kept_outside : (t : ℕ) → is_outside (role_of table_after t) ≡ true → serves_in table_after t ≡ None
  kept_outside t e = by_turn (turn t)
    where
      by_turn : Turn t → serves_in table_after t ≡ None
      by_turn (ended m x y) = y
      by_turn (absent m i x y) = y
      by_turn (parked q k g m x y) = y
      by_turn (stayed b m x i k) =
          no_item (serves_in table_after t)
          (i ∙ ap item_in (h.servers.outside t (sym (same_outside b (role_of table t)) ∙ sym (ap is_outside x) ∙ e)))

  pub together_kept : AreTogether table_after tree_after
  together_kept =
      record {
        waits = record { given = kept_given; given_back = kept_given_back; caller = λ c t e. (calling_call c t e).0; live = λ c t e. (calling_call c t e).1; calling = calls_role };
        invocations = record { entered = kept_entered; entered_back = kept_entered_back; kept = kept_plain };
        servers =
            record {
              outside = kept_outside;
              below = λ c d t e f. let w = invoked_was t (item.Call c) e in h.servers.below c d t w.0 (w.2 d f);
              served_made = λ c t e. h.servers.served_made c t (invoked_was t (item.Call c) e).0;
            };
        numbered = λ t x e. numbered t (thread_at table t) refl x (sym (at_number-map (left_thread_of who now tree.calls) table.threads t) ∙ e);
      }
    where
      numbered : (t : ℕ) (o : Option Thread) → thread_at table t ≡ o → (x : Thread) → option_map (left_thread_of who now tree.calls) (thread_at table t) ≡ Some x → x.number ≡ t
      numbered t None e x f = absurd (let g : None ≡ Some x = sym (ap (option_map (left_thread_of who now tree.calls)) e) ∙ f in cc)
      numbered t (Some y) e x f =
          let g : Some (left_thread_of who now tree.calls y) ≡ Some x = sym (ap (option_map (left_thread_of who now tree.calls)) e) ∙ f in
          let same : left_thread_of who now tree.calls y ≡ x = cc in
          ap (λ (z : Thread). z.number) (sym same) ∙ thread_number who now tree.calls y ∙ h.numbered t y e
