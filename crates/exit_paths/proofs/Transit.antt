-- What is in transit with calls, where one of them is left, and where those that are not live are forgotten.
use Rattle.std.proofs.Common.{◌≡◌, ℕ, ◌+◌, ◌==◌, ◌&&◌, ◌||◌, not, Bool, true, false, if◌then◌else◌, List, [], ◌∷◌, ◌++◌, Option, Some, None, IsSome, count_by, filter, find, length, length-append, refl, sym, ap, ap₂, ◌∙◌, subst, arith}
use Rattle.std.proofs.lemmas.List.Concat.{flat_map-cons}
use Rattle.std.proofs.lemmas.List.Sums.{sum_by-append}
use Rattle.spec_records.specs.declared.record.CallStage.TheVariants as stage
use Rattle.dk_base.specs.declared.error.Errno.{Errno}
use Rattle.dk_base.specs.declared.error.Errno.TheVariants.{EBADF, EINTR}
use Rattle.spec_records.specs.Words.{CallTree, Leaving, abandoned_at, broken_call_at, call_number, change_first, ended_where, gone_call_at, interruption, is_entered_by, is_given_to, is_live, is_live_call, is_queued, is_queued_as, is_served_by, left_call, thread_end, without_arguments_at}
use Rattle.spec_records.proofs.NumberedLists.{find-as, find-passes}
use Rattle.call_tree.specs.Words.{AreSound, abandon_call, argument_objects, arguments_at, dropped_at, dropped_objects, is_call, is_called_by, is_waiting, is_waiting_as, leaving_for, lose_server, refuse_call}
use Rattle.call_tree.specs.declared.parts.Leave.{Leave}
use Rattle.call_tree.specs.declared.parts.Leave.TheVariants.{Finished, Interrupted}
use Rattle.call_tree.proofs.Keys.{queued_is}
use Rattle.law_pools.proofs.Readers.{same_number}
use Rattle.law_pools.proofs.WaitingLists.{both_true}
use Rattle.spec_records.proofs.Places.{change_first-none}
use Rattle.spec_kernel.specs.Types.{Call, CallStage, Obj}
use Rattle.spec_kernel.specs.Words.{objects_in_call, objects_in_transit}
use Rattle.exit_paths.specs.Words.{DropsTransit, transit}

pub count_append : {X : Type 0} (p : X → Bool) (xs ys : List X) → count_by p (xs ++ ys) ≡ count_by p xs + count_by p ys
count_append p xs ys = sum_by-append _ xs ys

-- however objects are counted

module _ (count : List Obj → ℕ) (add : (xs ys : List Obj) → count (xs ++ ys) ≡ count xs + count ys) (none : count [] ≡ 0) where
  in_cons : (r : Call) (rs : List Call) → count (transit (r ∷ rs)) ≡ count (objects_in_call r) + count (transit rs)
  in_cons r rs = ap count (flat_map-cons objects_in_call r rs) ∙ add (objects_in_call r) (transit rs)

  -- the first call that passes is left, and drops this
  first_left :
      (test : Call → Bool) (change : Call → Call) (out : List Obj) (rs : List Call) (r : Call) → find test rs ≡ Some r →
      count (objects_in_call r) ≡ count (objects_in_call (change r)) + count out → count (transit rs) ≡ count (transit (change_first test change rs)) + count out
  first_left test change out [] r e h = cc
  first_left test change out (x ∷ xs) r e h = go (test x) e (λ f. first_left test change out xs r f h)
    where
      go :
          (b : Bool) → (if b then Some x else find test xs) ≡ Some r →
          (find test xs ≡ Some r → count (transit xs) ≡ count (transit (change_first test change xs)) + count out) →
          count (transit (x ∷ xs)) ≡ count (transit (if b then change x ∷ xs else x ∷ change_first test change xs)) + count out
      go true f ih =
          let same : x ≡ r = cc in
          let here : count (objects_in_call x) ≡ count (objects_in_call (change x)) + count out =
          subst (λ y. count (objects_in_call y) ≡ count (objects_in_call (change y)) + count out) (sym same) h in
          omega (arith, in_cons x xs, in_cons (change x) xs, here)
      go false f ih = omega (arith, in_cons x xs, in_cons x (change_first test change xs), ih f)

  -- calls that are not live have nothing in transit
  live_same : (rs : List Call) → count (transit (filter is_live_call rs)) ≡ count (transit rs)
  live_same [] = refl
  live_same (r ∷ rs) = go r.stage refl (live_same rs)
    where
      empty : objects_in_call r ≡ [] → count (transit (filter is_live_call rs)) ≡ count (transit rs) → count (transit (filter is_live_call rs)) ≡ count (transit (r ∷ rs))
      empty e ih = omega (arith, in_cons r rs, ap count e, none, ih)

      there : count (transit (filter is_live_call rs)) ≡ count (transit rs) → count (transit (r ∷ filter is_live_call rs)) ≡ count (transit (r ∷ rs))
      there ih = omega (arith, in_cons r rs, in_cons r (filter is_live_call rs), ih)

      go :
          (s : CallStage) → r.stage ≡ s → count (transit (filter is_live_call rs)) ≡ count (transit rs) →
          count (transit (if is_live r.stage then r ∷ filter is_live_call rs else filter is_live_call rs)) ≡ count (transit (r ∷ rs))
      go (stage.Answered k) e ih =
          ap (λ b. count (transit (if b then r ∷ filter is_live_call rs else filter is_live_call rs))) (ap is_live e) ∙ empty (ap (objects_in_transit r) e) ih
      go stage.Gone e ih =
          ap (λ b. count (transit (if b then r ∷ filter is_live_call rs else filter is_live_call rs))) (ap is_live e) ∙ empty (ap (objects_in_transit r) e) ih
      go stage.Queued e ih = ap (λ b. count (transit (if b then r ∷ filter is_live_call rs else filter is_live_call rs))) (ap is_live e) ∙ there ih
      go (stage.Given u) e ih = ap (λ b. count (transit (if b then r ∷ filter is_live_call rs else filter is_live_call rs))) (ap is_live e) ∙ there ih
      go (stage.Entered u) e ih = ap (λ b. count (transit (if b then r ∷ filter is_live_call rs else filter is_live_call rs))) (ap is_live e) ∙ there ih
      go (stage.Returned bytes objects) e ih = ap (λ b. count (transit (if b then r ∷ filter is_live_call rs else filter is_live_call rs))) (ap is_live e) ∙ there ih
      go (stage.Ended k) e ih = ap (λ b. count (transit (if b then r ∷ filter is_live_call rs else filter is_live_call rs))) (ap is_live e) ∙ there ih

-- what one call drops
pub record DropsOne (r next : Call) (out : List Obj) : Type 0 where
  pub counts : (p : Obj → Bool) → count_by p (objects_in_call r) ≡ count_by p (objects_in_call next) + count_by p out
  pub in_all : length (objects_in_call r) ≡ length (objects_in_call next) + length out

-- all of it, or nothing
pub drops_all : {r next : Call} {out : List Obj} → objects_in_call r ≡ out → objects_in_call next ≡ [] → DropsOne r next out
drops_all {r} {next} {out} e f =
    record {
      counts = λ p. let a = ap (count_by p) e in let b : count_by p (objects_in_call next) ≡ 0 = ap (count_by p) f in omega (arith, a, b);
      in_all = let a = ap length e in let b : length (objects_in_call next) ≡ 0 = ap length f in omega (arith, a, b);
    }

pub drops_none : {r next : Call} {out : List Obj} → objects_in_call r ≡ objects_in_call next → out ≡ [] → DropsOne r next out
drops_none {r} {next} {out} e f =
    record {
      counts = λ p. let a = ap (count_by p) e in let b : count_by p out ≡ 0 = ap (count_by p) f in omega (arith, a, b);
      in_all = let a = ap length e in let b : length out ≡ 0 = ap length f in omega (arith, a, b);
    }

pub drops_first :
    (test : Call → Bool) (change : Call → Call) (out : List Obj) (rs : List Call) (r : Call) → find test rs ≡ Some r → DropsOne r (change r) out →
    DropsTransit rs (change_first test change rs) out
drops_first test change out rs r e h =
    record {
      counts = λ p. first_left (count_by p) (count_append p) refl test change out rs r e (h.counts p);
      in_all = first_left length length-append refl test change out rs r e h.in_all;
    }

pub drops_nothing : (rs : List Call) → DropsTransit rs rs []
drops_nothing rs = record { counts = λ p. omega arith; in_all = omega arith }

pub drops_live : {rs xs : List Call} {out : List Obj} → DropsTransit rs xs out → DropsTransit rs (filter is_live_call xs) out
drops_live {rs} {xs} {out} h =
    record {
      counts = λ p. h.counts p ∙ ap (λ n. n + count_by p out) (sym (live_same (count_by p) (count_append p) refl xs));
      in_all = h.in_all ∙ ap (λ n. n + length out) (sym (live_same length length-append refl xs));
    }

pub drops_then : {rs xs ys : List Call} {out more : List Obj} → DropsTransit rs xs out → DropsTransit xs ys more → DropsTransit rs ys (out ++ more)
drops_then {rs} {xs} {ys} {out} {more} a b =
    record {
      counts = λ p. let e = count_append p out more in let f = a.counts p in let g = b.counts p in omega (arith, e, f, g);
      in_all = omega (arith, a.in_all, b.in_all, length-append out more);
    }

-- a caller that leaves its call

interrupted_one : (who : Leaving) (r : Call) (s : CallStage) → r.stage ≡ s → who.interrupts r.caller.0 ≡ true → DropsOne r (broken_call_at who s r) (dropped_at Interrupted s r.objects)
interrupted_one who r stage.Queued e i =
    subst (λ b. DropsOne r (if b then without_arguments_at (stage.Ended EINTR) r else ended_where (who.loses r.door) EBADF r) r.objects) (sym i)
    (drops_all (ap (objects_in_transit r) e) refl)
interrupted_one who r (stage.Given u) e i =
    subst (λ b. DropsOne r (ended_where (b || who.ends u.0) EINTR r) r.objects) (sym i) (drops_all (ap (objects_in_transit r) e) refl)
interrupted_one who r (stage.Entered u) e i =
    subst (λ b. DropsOne r (if b then abandoned_at (stage.Ended EINTR) r else ended_where (who.ends u.0) EINTR r) []) (sym i)
    (drops_all (ap (objects_in_transit r) e) refl)
interrupted_one who r (stage.Returned bytes objects) e i = drops_none refl refl
interrupted_one who r (stage.Ended k) e i = drops_none refl refl
interrupted_one who r (stage.Answered k) e i = drops_none refl refl
interrupted_one who r stage.Gone e i = drops_none refl refl

gone_one : (r : Call) (s : CallStage) → r.stage ≡ s → DropsOne r (gone_call_at s r) (dropped_at Finished s r.objects)
gone_one r (stage.Answered k) e = drops_none refl refl
gone_one r stage.Gone e = drops_none refl refl
gone_one r stage.Queued e = drops_all (ap (objects_in_transit r) e) refl
gone_one r (stage.Given u) e = drops_all (ap (objects_in_transit r) e) refl
gone_one r (stage.Entered u) e = drops_all (ap (objects_in_transit r) e) refl
gone_one r (stage.Returned bytes objects) e = drops_all (ap (objects_in_transit r) e) refl
gone_one r (stage.Ended k) e = drops_all (ap (objects_in_transit r) e) refl

abandoned_one : (why : Leave) (t : ℕ) (r : Call) → is_called_by t r ≡ true → DropsOne r (left_call (leaving_for why t) r) (dropped_at why r.stage r.objects)
abandoned_one Interrupted t r e = interrupted_one (interruption t) r r.stage refl e
abandoned_one Finished t r e =
    subst (λ b. DropsOne r (if b then gone_call_at r.stage r else broken_call_at (thread_end t) r.stage r) (dropped_at Finished r.stage r.objects)) (sym e)
    (gone_one r r.stage refl)

pub abandoned_drops :
    (tree : CallTree) (t : ℕ) (why : Leave) (o : Option Call) → find (is_called_by t) tree.calls ≡ o → DropsTransit tree.calls (abandon_call tree t why).calls (dropped_objects why o)
abandoned_drops tree t why None e =
    drops_live (subst (λ xs. DropsTransit tree.calls xs []) (sym (change_first-none (is_called_by t) (left_call (leaving_for why t)) tree.calls e)) (drops_nothing tree.calls))
abandoned_drops tree t why (Some r) e =
    drops_live
    (drops_first (is_called_by t) (left_call (leaving_for why t)) (dropped_at why r.stage r.objects) tree.calls r e
    (abandoned_one why t r (find-passes (is_called_by t) tree.calls r e)))

-- a server that ends

none : (b : Bool) → (not b && false) ≡ true → ⊥
none true h = cc
none false h = cc

lost_one : (u : ℕ) (r : Call) (s : CallStage) → r.stage ≡ s → (not r.abandoned && (is_given_to u s || is_entered_by u s)) ≡ true → DropsOne r (without_arguments_at (stage.Ended EINTR) r) (arguments_at s r.objects)
lost_one u r (stage.Given k) e h = drops_all (ap (objects_in_transit r) e) refl
lost_one u r (stage.Entered k) e h = drops_all (ap (objects_in_transit r) e) refl
lost_one u r stage.Queued e h = absurd (none r.abandoned h)
lost_one u r (stage.Returned bytes objects) e h = absurd (none r.abandoned h)
lost_one u r (stage.Ended k) e h = absurd (none r.abandoned h)
lost_one u r (stage.Answered k) e h = absurd (none r.abandoned h)
lost_one u r stage.Gone e h = absurd (none r.abandoned h)

pub lost_drops : (tree : CallTree) (u : ℕ) (o : Option Call) → find (is_served_by u) tree.calls ≡ o → DropsTransit tree.calls (lose_server tree u).calls (argument_objects o)
lost_drops tree u None e =
    subst (λ xs. DropsTransit tree.calls xs []) (sym (change_first-none (is_served_by u) (without_arguments_at (stage.Ended EINTR)) tree.calls e)) (drops_nothing tree.calls)
lost_drops tree u (Some r) e =
    drops_first (is_served_by u) (without_arguments_at (stage.Ended EINTR)) (arguments_at r.stage r.objects) tree.calls r e
    (lost_one u r r.stage refl (find-passes (is_served_by u) tree.calls r e))

-- a waiting call that is refused

pub queued_found : (tree : CallTree) → AreSound tree → (c : ℕ) (r : Call) → find (is_queued_as c) tree.calls ≡ Some r → (find (is_call c) tree.calls ≡ Some r) × (r.stage ≡ stage.Queued)
queued_found tree sound c r e =
    let p = both_true (r.number == c) (is_queued r.stage) (find-passes (is_queued_as c) tree.calls r e) in
    (ap (λ k. find (is_call k) tree.calls) (sym (same_number r.number c p.0)) ∙ sound.number (is_queued_as c) r e, queued_is r.stage p.1)

pub queued_waits : (tree : CallTree) → AreSound tree → (c : ℕ) → IsSome (find (is_queued_as c) tree.calls) → IsSome (find (is_waiting_as c) tree.calls)
queued_waits tree sound c h = go (find (is_queued_as c) tree.calls) refl h
  where
    go : (o : Option Call) → find (is_queued_as c) tree.calls ≡ o → IsSome o → IsSome (find (is_waiting_as c) tree.calls)
    go None e k = absurd (cc)
    go (Some r) e k =
        let f = queued_found tree sound c r e in
        let n : (r.number == c) ≡ true = find-passes (is_call c) tree.calls r f.0 in
        let w : is_waiting_as c r ≡ true = ap₂ (λ a s. a && is_waiting s) n f.1 in
        subst IsSome (sym (find-as call_number (is_waiting_as c) tree.calls c r (λ y m. same_number y.number c (both_true (y.number == c) (is_waiting y.stage) m).0) f.0 w)) refl

pub refused_drops :
    (tree : CallTree) → AreSound tree → (c : ℕ) (k : Errno) → IsSome (find (is_queued_as c) tree.calls) →
    DropsTransit tree.calls (refuse_call tree c k).calls (argument_objects (find (is_call c) tree.calls))
refused_drops tree sound c k h = go (find (is_queued_as c) tree.calls) refl h
  where
    go : (o : Option Call) → find (is_queued_as c) tree.calls ≡ o → IsSome o → DropsTransit tree.calls (refuse_call tree c k).calls (argument_objects (find (is_call c) tree.calls))
    go None e n = absurd (cc)
    go (Some r) e n =
        let f = queued_found tree sound c r e in
        subst (λ o. DropsTransit tree.calls (refuse_call tree c k).calls (argument_objects o)) (sym f.0)
        (drops_first (is_call c) (without_arguments_at (stage.Ended k)) (arguments_at r.stage r.objects) tree.calls r f.0
        (drops_all (ap (objects_in_transit r) f.1 ∙ sym (ap (λ s. arguments_at s r.objects) f.1)) refl))
