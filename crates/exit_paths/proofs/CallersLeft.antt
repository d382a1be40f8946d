-- The call of one caller that leaves: which item goes, and what becomes of the calls.
use Rattle.std.proofs.Common.{◌≡◌, ℕ, zero, suc, ◌<◌, ◌==◌, ◌&&◌, ◌||◌, Bool, true, false, if◌then◌else◌, List, [], ◌∷◌, Option, Some, None, find, slice_get, refl, sym, ap, ap₂, ◌∙◌, subst, arith}
use Rattle.std.proofs.lemmas.Bool.Decides.{nat_tests}
use Rattle.dk_base.specs.ByNumber.{at_number}
use Rattle.spec_records.specs.Words.{CallTree, IsAscending, Leaving, call_number, interruption, is_pool, is_queued, is_queued_in, left_calls, live_calls, pool_in, thread_end, waiting_call, waiting_notice}
use Rattle.spec_records.proofs.NumberedLists.{ascending-above, find-passes}
use Rattle.spec_kernel.specs.Types.{Call, Door, Notice, Pool, Waiting}
use Rattle.call_tree.specs.Words.{AreSound, PartsOfLeaving, abandon_call, and_one, is_call, is_called_by, lose_server, nothing_left}
use Rattle.call_tree.specs.declared.parts.Leave.TheVariants.{Finished, Interrupted}
use Rattle.law_pools.specs.Words.{leaves_queue}
use Rattle.law_pools.proofs.Readers.{is_pool-sym, same_number}
use Rattle.law_pools.proofs.WaitingLists.{both_true}
use Rattle.exit_paths.specs.Words.{is_call_of, is_queued_at, pool_of_number}
use Rattle.exit_paths.proofs.QueuesLeft.{GoAs}

-- what stands in the list is found by its number

pub stands : (low made i : ℕ) (rs : List Call) (r : Call) → IsAscending call_number low made rs → slice_get rs i ≡ Some r → find (is_call r.number) rs ≡ Some r
stands low made i [] r a e = cc
stands low made zero (x ∷ xs) r a e =
    let same : x ≡ r = cc in
    let self : (x.number == r.number) ≡ true = ap (λ y. x.number == y.number) (sym same) ∙ here x.number in
    ap (λ b. if b then Some x else find (is_call r.number) xs) self ∙ ap Some same
  where
    here : (k : ℕ) → (k == k) ≡ true
    here k = grind (arith, nat_tests)
stands low made (suc i) (x ∷ xs) r a e =
    let l = ascending-above call_number xs x.number made i r a.2 e in
    let other : (x.number == r.number) ≡ false = apart x.number r.number l in
    ap (λ b. if b then Some x else find (is_call r.number) xs) other ∙ stands x.number made i xs r a.2 e
  where
    apart : (j k : ℕ) → j < k → (j == k) ≡ false
    apart j k l = grind (arith, nat_tests)

same_of : (r s : Call) → Some r ≡ Some s → r ≡ s
same_of r s e = cc

equal_self : (k : ℕ) → (k == k) ≡ true
equal_self k = grind (arith, nat_tests)

-- one caller leaves: its call goes from its queue, if it waits there

module _
    (doors : List Door) (tree : CallTree) (notices : List Notice) (who : Leaving) (sound : AreSound tree) (t : ℕ)
    (leaves : (r : Call) → leaves_queue who r ≡ (r.caller.0 == t)) (loses : (d : ℕ) → who.loses d ≡ false) where
  abbrev gone : Pool → Waiting → Bool
  gone = is_call_of doors (find (is_called_by t) tree.calls)

  call_goes : (q : Pool) (i : ℕ) (r : Call) → slice_get tree.calls i ≡ Some r → is_queued_in doors q r ≡ true → gone q (waiting_call r) ≡ leaves_queue who r
  call_goes q i r at here = go (r.caller.0 == t) refl
    where
      found : find (is_call r.number) tree.calls ≡ Some r
      found = stands 0 tree.made i tree.calls r sound.ascending at

      served : (is_queued r.stage ≡ true) × (is_pool q (pool_in (at_number doors r.door)) ≡ true)
      served = both_true (is_queued r.stage) (is_pool q (pool_in (at_number doors r.door))) here

      own : is_queued_at doors r q (waiting_call r) ≡ true
      own = ap₂ (λ a b. a && (b && (r.number == r.number))) served.0 (is_pool-sym (pool_of_number doors r.door) q ∙ served.1) ∙ equal_self r.number

      -- another caller's call has another number
      other : (o : Option Call) → find (is_called_by t) tree.calls ≡ o → (r.caller.0 == t) ≡ false → is_call_of doors o q (waiting_call r) ≡ false
      other None e f = refl
      other (Some x) e f = by_number (x.number == r.number) refl
        where
          none : (a b : Bool) → (a && (b && false)) ≡ false
          none true true = refl
          none true false = refl
          none false b = refl

          by_number : (b : Bool) → (x.number == r.number) ≡ b → is_call_of doors (Some x) q (waiting_call r) ≡ false
          by_number false g = ap (λ b. is_queued x.stage && (is_pool (pool_of_number doors x.door) q && b)) g ∙ none (is_queued x.stage) (is_pool (pool_of_number doors x.door) q)
          by_number true g =
              let n = same_number x.number r.number g in
              let same : x ≡ r = same_of x r (sym (sound.number (is_called_by t) x e) ∙ ap (λ k. find (is_call k) tree.calls) n ∙ found) in
              let c : (x.caller.0 == t) ≡ true = find-passes (is_called_by t) tree.calls x e in
              let d : (x.caller.0 == t) ≡ false = subst (λ y. (y.caller.0 == t) ≡ false) (sym same) f in
              cc

      go : (b : Bool) → (r.caller.0 == t) ≡ b → gone q (waiting_call r) ≡ leaves_queue who r
      go true e =
          let is : find (is_called_by t) tree.calls ≡ Some r =
          subst (λ k. find (is_called_by k) tree.calls ≡ Some r) (same_number r.caller.0 t e) (sound.caller (is_call r.number) r found) in
          ap (λ o. is_call_of doors o q (waiting_call r)) is ∙ own ∙ sym (leaves r ∙ e)
      go false e = other (find (is_called_by t) tree.calls) refl e ∙ sym (leaves r ∙ e)

  notice_stays : (q : Pool) (n : Notice) → gone q (waiting_notice n) ≡ false
  notice_stays q n = go (find (is_called_by t) tree.calls)
    where
      none : (a b : Bool) → (a && (b && false)) ≡ false
      none true true = refl
      none true false = refl
      none false b = refl

      go : (o : Option Call) → is_call_of doors o q (waiting_notice n) ≡ false
      go None = refl
      go (Some x) = none (is_queued x.stage) (is_pool (pool_of_number doors x.door) q)

  pub caller_goes : GoAs who doors tree.calls notices (is_call_of doors (find (is_called_by t) tree.calls))
  caller_goes = record { calls_go = call_goes; notices_go = λ q i n at here. notice_stays q n ∙ sym (loses n.door) }

-- the calls

pub or_false : (b : Bool) → (b || false) ≡ b
or_false true = refl
or_false false = refl

module _ {tree : CallTree} (parts : PartsOfLeaving tree) (t : ℕ) where
  pub interrupted_calls : abandon_call tree t Interrupted ≡ live_calls (left_calls (interruption t) tree)
  interrupted_calls =
      ap (λ x. abandon_call x t Interrupted) (sym parts.begins) ∙ parts.interrupts nothing_left t (λ u. refl) (λ c. refl)
      ∙ parts.done (record nothing_left { interrupted = and_one nothing_left.interrupted t }) (interruption t) (λ u. refl) (λ u. or_false (u == t)) (λ u. refl)
      (λ p r e f. refl)

  pub ended_calls : lose_server (abandon_call tree t Finished) t ≡ live_calls (left_calls (thread_end t) tree)
  ended_calls =
      ap (λ x. lose_server x t) (ap (λ x. abandon_call x t Finished) (sym parts.begins) ∙ parts.ends nothing_left t)
      ∙ parts.serves (record nothing_left { ended = and_one nothing_left.ended t }) t
      ∙ parts.done (record nothing_left { ended = and_one nothing_left.ended t; servers = and_one nothing_left.servers t }) (thread_end t)
      (λ u. or_false (u == t)) (λ u. refl) (λ u. or_false (u == t)) (λ p r e f. refl)

pub and_false : (b : Bool) → false ≡ (b && false)
and_false true = refl
and_false false = refl
