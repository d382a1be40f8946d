-- What is in transit of an object, as calls are made, go on, end and are forgotten.
use Rattle.std.proofs.Common.{count_by, ◌≡◌, ℕ, ◌+◌, ◌-◌, ◌≤◌, ◌==◌, ◌&&◌, not, Bool, true, false, cond, if◌then◌else◌, List, [], ◌∷◌, ◌++◌, Option, Some, None, is_some, filter, find, flat_map, refl, sym, ap, ◌∙◌, arith, append-nil, true≢false}
use Rattle.std.proofs.lemmas.Grind.{flat_map-append}
use Rattle.dk_base.specs.declared.error.Errno.TheVariants.{EMFILE}
use Rattle.spec_records.specs.declared.record.CallStage.TheVariants as stage
use Rattle.spec_records.specs.Words.{CallTree, at_stage, change_first, collect_call, count_object, enter_call, fail_call, give_call, is_client_call_of, is_entered_by, is_given_as, is_given_to, is_live_call, is_object, is_queued, is_queued_as, is_to_collect_as, live_calls, open_call, return_call, tid, without_arguments_at}
use Rattle.unref_notice.specs.Words.{ObjectCounts, count_of}
use Rattle.spec_kernel.specs.Types.{Call, CallStage, Name, Obj}
use Rattle.spec_kernel.specs.Words.{objects_in_call, objects_in_transit}
use Rattle.spec_kernel.proofs.CallLists.{objects-live}
use Rattle.kernel_holdings.specs.Words.{IsCountOf}
use Rattle.kernel_holdings.proofs.Referring.{count_by-append, references_to-parts}

-- of some objects, in transit with calls
abbrev pub in_transit : (Obj → Bool) → List Call → ℕ
in_transit p rs = count_by p (flat_map objects_in_call rs)

-- with one call
abbrev pub transit_of : (Obj → Bool) → Call → ℕ
transit_of p r = count_by p (objects_in_call r)

-- a number of a call, 0 of none
abbrev pub if_found : (Call → ℕ) → Option Call → ℕ
if_found f None = 0
if_found f (Some r) = f r

pub in_transit-cons : (p : Obj → Bool) (r : Call) (rs : List Call) → in_transit p (r ∷ rs) ≡ transit_of p r + in_transit p rs
in_transit-cons p r rs = count_by-append p (objects_in_call r) (flat_map objects_in_call rs)

pub in_transit-push : (p : Obj → Bool) (rs : List Call) (r : Call) → in_transit p (rs ++ r ∷ []) ≡ in_transit p rs + transit_of p r
in_transit-push p rs r =
    ap (count_by p) (flat_map-append objects_in_call rs (r ∷ []))
    ∙ count_by-append p (flat_map objects_in_call rs) (objects_in_call r ++ [])
    ∙ ap (λ os. in_transit p rs + count_by p os) (append-nil (objects_in_call r))

pub in_transit-live : (p : Obj → Bool) (rs : List Call) → in_transit p (filter is_live_call rs) ≡ in_transit p rs
in_transit-live p rs = ap (count_by p) (objects-live rs)

-- The first call that meets a test goes on: so much more is in transit, and so much less.
change_first-in_transit :
    (p : Obj → Bool) (test : Call → Bool) (change : Call → Call) (less more : Call → ℕ) →
    ((r : Call) → test r ≡ true → transit_of p (change r) + less r ≡ transit_of p r + more r) → (rs : List Call) →
    in_transit p (change_first test change rs) + if_found less (find test rs) ≡ in_transit p rs + if_found more (find test rs)
change_first-in_transit p test change less more goes [] = refl
change_first-in_transit p test change less more goes (r ∷ rs) = go (test r) refl (change_first-in_transit p test change less more goes rs)
  where
    go :
        (b : Bool) → test r ≡ b →
        in_transit p (change_first test change rs) + if_found less (find test rs) ≡ in_transit p rs + if_found more (find test rs) →
        in_transit p (if b then change r ∷ rs else r ∷ change_first test change rs) + if_found less (cond b (Some r) (find test rs))
        ≡ in_transit p (r ∷ rs) + if_found more (cond b (Some r) (find test rs))
    go true e ih = omega (arith, in_transit-cons p (change r) rs, in_transit-cons p r rs, goes r e)
    go false e ih = omega (arith, in_transit-cons p r (change_first test change rs), in_transit-cons p r rs, ih)

abbrev nothing : Call → ℕ
nothing r = 0

none_found : (o : Option Call) → if_found (λ r. 0) o ≡ 0
none_found None = refl
none_found (Some r) = refl

-- a call that waits, or was given to a thread, has its arguments in transit, and one that a thread has entered nothing

queued_holds : (p : Obj → Bool) (r : Call) (s : CallStage) → is_queued s ≡ true → count_by p (objects_in_transit r s) ≡ count_by p r.objects
queued_holds p r stage.Queued e = refl
queued_holds p r _ e = absurd (true≢false (sym e))

given_holds : (p : Obj → Bool) (t : ℕ) (r : Call) (s : CallStage) → is_given_to t s ≡ true → count_by p (objects_in_transit r s) ≡ count_by p r.objects
given_holds p t r (stage.Given u) e = refl
given_holds p t r _ e = absurd (true≢false (sym e))

entered_holds : (p : Obj → Bool) (t : ℕ) (r : Call) (s : CallStage) → is_entered_by t s ≡ true → count_by p (objects_in_transit r s) ≡ 0
entered_holds p t r (stage.Entered u) e = refl
entered_holds p t r _ e = absurd (true≢false (sym e))

right_of : (a b : Bool) → (a && b) ≡ true → b ≡ true
right_of true b e = e
right_of false b e = absurd (true≢false (sym e))

pub given_transit : (p : Obj → Bool) (c t : ℕ) (r : Call) → is_given_as c t r ≡ true → transit_of p r ≡ count_by p r.objects
given_transit p c t r e = given_holds p t r r.stage (right_of (r.number == c) (is_given_to t r.stage) e)

-- what the acts on calls leave in transit

module _ (p : Obj → Bool) (tree : CallTree) where
  -- the first call that meets a test is left with nothing
  emptied :
      (test : Call → Bool) (change : Call → Call) → ((r : Call) → transit_of p (change r) ≡ 0) →
      in_transit p (change_first test change tree.calls) + if_found (transit_of p) (find test tree.calls) ≡ in_transit p tree.calls
  emptied test change empty =
      let e = change_first-in_transit p test change (transit_of p) nothing (λ r f. omega (arith, empty r)) tree.calls in
      omega (arith, e, none_found (find test tree.calls))

  pub open_call-in_transit :
      (r : Call) → is_queued r.stage ≡ true → in_transit p (open_call tree r).calls ≡ in_transit p tree.calls + count_by p r.objects
  open_call-in_transit r q = in_transit-push p tree.calls r ∙ ap (λ n. in_transit p tree.calls + n) (queued_holds p r r.stage q)

  pub give_call-in_transit : (c u : ℕ) → in_transit p (give_call tree c u).calls ≡ in_transit p tree.calls
  give_call-in_transit c u =
      let e =
      change_first-in_transit p (is_queued_as c) (at_stage (stage.Given (tid u))) nothing nothing
      (λ r f. ap (λ n. n + 0) (sym (queued_holds p r r.stage (right_of (r.number == c) (is_queued r.stage) f)))) tree.calls in
      omega (arith, e, none_found (find (is_queued_as c) tree.calls))

  pub enter_call-in_transit :
      (c t : ℕ) → in_transit p (enter_call tree c t).calls + if_found (transit_of p) (find (is_given_as c t) tree.calls) ≡ in_transit p tree.calls
  enter_call-in_transit c t = emptied (is_given_as c t) (without_arguments_at (stage.Entered (tid t))) (λ r. refl)

  pub fail_call-in_transit :
      (c t : ℕ) → in_transit p (fail_call tree c t).calls + if_found (transit_of p) (find (is_given_as c t) tree.calls) ≡ in_transit p tree.calls
  fail_call-in_transit c t = emptied (is_given_as c t) (without_arguments_at (stage.Ended EMFILE)) (λ r. refl)

  pub collect_call-in_transit :
      (c now : ℕ) →
      in_transit p (live_calls (collect_call tree c now)).calls + if_found (transit_of p) (find (is_to_collect_as c) tree.calls) ≡ in_transit p tree.calls
  collect_call-in_transit c now =
      let change = without_arguments_at (stage.Answered now) in
      ap (λ n. n + if_found (transit_of p) (find (is_to_collect_as c) tree.calls)) (in_transit-live p (change_first (is_to_collect_as c) change tree.calls))
      ∙ emptied (is_to_collect_as c) change (λ r. refl)

  -- what is returned is in transit, where there is a client
  pub return_call-in_transit :
      (t : ℕ) (bytes : List ℕ) (objects : List Obj) →
      in_transit p (return_call tree t bytes objects).calls ≡ in_transit p tree.calls + cond (is_some (find (is_client_call_of t) tree.calls)) (count_by p objects) 0
  return_call-in_transit t bytes objects =
      let e =
      change_first-in_transit p (is_client_call_of t) (without_arguments_at (stage.Returned bytes objects)) nothing (λ r. count_by p objects)
      (λ r f. omega (arith, entered_holds p t r r.stage (right_of (not r.abandoned) (is_entered_by t r.stage) f))) tree.calls in
      omega (arith, e, none_found (find (is_client_call_of t) tree.calls), where_found (find (is_client_call_of t) tree.calls))
    where
      where_found : (x : Option Call) → if_found (λ r. count_by p objects) x ≡ cond (is_some x) (count_by p objects) 0
      where_found None = refl
      where_found (Some r) = refl

-- one call of a list is in it

pub in_transit-found : (p : Obj → Bool) (test : Call → Bool) (rs : List Call) → if_found (transit_of p) (find test rs) ≤ in_transit p rs
in_transit-found p test [] = omega arith
in_transit-found p test (r ∷ rs) = go (test r) (in_transit-found p test rs)
  where
    go : (b : Bool) → if_found (transit_of p) (find test rs) ≤ in_transit p rs → if_found (transit_of p) (if b then Some r else find test rs) ≤ in_transit p (r ∷ rs)
    go true h = omega (arith, in_transit-cons p r rs)
    go false h = omega (arith, h, in_transit-cons p r rs)

-- the counts go with what is in transit

module _ (counts : ObjectCounts) (tables : List (List (Option Obj))) (names : List Name) (calls : List Call) (held : IsCountOf counts tables names calls) where
  pub transit_fewer :
      (lowered : ObjectCounts) (after : List Call) (less : Obj → ℕ) → ((o : Obj) → count_of lowered o ≡ count_of counts o - less o) →
      ((o : Obj) → in_transit (is_object o) after + less o ≡ in_transit (is_object o) calls) → IsCountOf lowered tables names after
  transit_fewer lowered after less down fewer = λ o.
      omega (arith, held o, down o, fewer o, references_to-parts tables names calls o, references_to-parts tables names after o)

  -- these objects are handed out
  pub handed_out :
      (lowered : ObjectCounts) (after : List Call) (handed os : List Obj) → handed ≡ os →
      ((o : Obj) → count_of lowered o ≡ count_of counts o - count_object o handed) →
      ((o : Obj) → in_transit (is_object o) after + count_object o os ≡ in_transit (is_object o) calls) → IsCountOf lowered tables names after
  handed_out lowered after handed os same down out =
      transit_fewer lowered after (λ o. count_object o os) (λ o. down o ∙ ap (λ xs. count_of counts o - count_object o xs) same) out

  pub transit_more :
      (raised : ObjectCounts) (after : List Call) (more : Obj → ℕ) → ((o : Obj) → count_of raised o ≡ count_of counts o + more o) →
      ((o : Obj) → in_transit (is_object o) after ≡ in_transit (is_object o) calls + more o) → IsCountOf raised tables names after
  transit_more raised after more up further = λ o.
      omega (arith, held o, up o, further o, references_to-parts tables names calls o, references_to-parts tables names after o)

  pub transit_same : (after : List Call) → ((o : Obj) → in_transit (is_object o) after ≡ in_transit (is_object o) calls) → IsCountOf counts tables names after
  transit_same after same = λ o. omega (arith, held o, same o, references_to-parts tables names calls o, references_to-parts tables names after o)
