-- Doors that are not valid stay so, and turn so only by a Revoke or with their owners.
use Rattle.std.specs.Prelude.{ℕ, ◌≡◌, ◌+◌, ◌≤◌, List, Option, Bool, not, true, false, Some, None, is_some, length, slice_get, if◌then◌else◌}
use Rattle.std.proofs.Common.{refl, sym, ap, subst, ◌∙◌}
use native.Mathlib.Omega.{arith}
use Rattle.std.proofs.lemmas.Bool.Decides.{nat_tests}
use Rattle.std.proofs.lemmas.Option.{slice_get_within}
use Rattle.spec_kernel.specs.Types.{Call, CallStage, Door, Errno, Fd, Notice, NoticeStage, Obj, Process, Request, Attrs}
use Rattle.dk_base.specs.ByNumber.{at_number}
use Rattle.dk_base.specs.declared.object.Obj.TheVariants as obj
use Rattle.dk_base.specs.declared.request.Request.TheVariants as request
use Rattle.dk_base.specs.declared.answer.Answer.TheVariants as answer
use Rattle.spec_records.specs.declared.record.CallStage.TheVariants as stage
use Rattle.spec_records.specs.declared.record.NoticeStage.TheVariants as notice
use Rattle.spec_records.specs.Words.{is_live_in, is_owned_by, is_valid_in, new_door}
use Rattle.spec_kernel.specs.Words.{State, Turn, act, door_at, door_named, door_of, is_valid, object_at, process_of, refusal_of, revoke, state_at, step, unless_refused, create}
use Rattle.law_states.specs.Core.{door_in, ended_in, notice_in, noticed_door_in}
use Rattle.law_states.specs.Invariant.{Invariant}
use Rattle.law_states.specs.Records.{notice_of, owner_in, record_of, stage_in}
use Rattle.law_runs.specs.Ends.{is_ended}
use Rattle.law_runs.specs.InvalidDoors.{InvalidDoors, Invalidates}
use Rattle.law_runs.specs.InvalidDoors.Invalidates.{revoked, owner_ends}
use Rattle.law_places.specs.Places.{IsKept, process_at}
use Rattle.law_places.proofs.DoorPlaces.{keeps_door, keeps_ever}
use Rattle.law_runs.proofs.Endings.{process_ended, settle_same}
use Rattle.law_runs.proofs.Ends.{no_valid_door}
use Rattle.law_runs.proofs.Creators.{made}
use Rattle.spec_records.proofs.Lists.{numbered_push}
use Rattle.spec_kernel.proofs.Settling.{doors-settle}
use Rattle.law_places.proofs.Known.{Known, invariant_after, invariant_before, next, stays}
use Rattle.law_places.proofs.Refusals.{entry_tells, none_of}
use Rattle.law_places.proofs.Refusals.FailsIn.{by_test}
use Rattle.law_places.proofs.Validity.{Loses, StepLoses, step_invalid, step_loses, step_revokes}
use Rattle.law_places.proofs.Validity.Loses.{revokes, ends}

-- the owner of a valid door lives

owner_of : (p : ℕ) (o : Option Door) → is_owned_by p o ≡ true → owner_in o ≡ Some p
owner_of p None e = absurd (cc e)
owner_of p (Some x) e = ap (λ (n : ℕ). Some n) (grind (arith, nat_tests))

same_owner : (p : ℕ) (x : Door) → is_owned_by p (Some x) ≡ true → x.owner.0 ≡ p
same_owner p x e = grind (arith, nat_tests)

not_ended_owner : (x : Door) → is_valid_in (Some x) ≡ true → x.owner_ended ≡ false
not_ended_owner x e = grind arith

live_of : (b c : Bool) → b ≡ not c → b ≡ false → c ≡ true
live_of b c e f = grind arith

lives : (o : Option Process) → is_live_in o ≡ true → (is_some o ≡ true) × (ended_in o ≡ false)
lives None e = absurd (cc e)
lives (Some x) e = (refl, grind arith)

owner_lives :
    (m : State) → Invariant m → (d p : ℕ) → is_valid m d ≡ true → is_owned_by p (door_of m d) ≡ true →
    is_live_in (at_number m.process_table.processes p) ≡ true
owner_lives m h d p v e = go (door_of m d) refl v e
  where
    go : (o : Option Door) → door_of m d ≡ o → is_valid_in o ≡ true → is_owned_by p o ≡ true → is_live_in (at_number m.process_table.processes p) ≡ true
    go None f w g = absurd (cc w)
    go (Some x) f w g =
        ap (λ n. is_live_in (at_number m.process_table.processes n)) (sym (same_owner p x g))
        ∙ live_of _ _ (h.consistent.coherent.doors.owner_ended d x f) (not_ended_owner x w)

-- a descriptor that leads to a valid door names it
pub names_it : (m : State) (p d : ℕ) (fd : Fd) → door_at m p fd ≡ d → is_valid m d ≡ true → object_at m p fd ≡ Some (obj.Door d)
names_it m p d fd e v = go (object_at m p fd) refl e
  where
    none_at_zero : door_named None ≡ d → ⊥
    none_at_zero f = absurd (cc (ap (is_valid m) f ∙ v))

    go : (o : Option Obj) → object_at m p fd ≡ o → door_named o ≡ d → o ≡ Some (obj.Door d)
    go (Some (obj.Door n)) f g = ap (λ (j : ℕ). Some (obj.Door j)) g
    go (Some (obj.Port n)) f g = absurd (none_at_zero g)
    go (Some (obj.PipeIn n)) f g = absurd (none_at_zero g)
    go (Some (obj.PipeOut n)) f g = absurd (none_at_zero g)
    go None f g = absurd (none_at_zero g)

-- a process that an act ends has ended after the event
ended_after : (m : State) (t p : ℕ) (r : Request) → is_ended (act m t (Some r)).state p ≡ true → is_ended (step m t (Some r)).state p ≡ true
unfolding step
ended_after m t p r e = ap (λ ps. ended_in (at_number ps p)) (settle_same m (act m t (Some r)).state) ∙ e

-- an entry that answers Done is not refused
done_not_refused : (m : State) (t : ℕ) (r : Request) → (step m t (Some r)).answer ≡ answer.Done → refusal_of m t (process_of m t) r ≡ None
done_not_refused m t r f = none_of _ (λ e g. absurd (differ e (sym f ∙ (entry_tells m t (Some r) r e refl).1 (by_test e g))))
  where
    differ : (e : Errno) → answer.Done ≡ answer.Failure e → ⊥
    differ e g = cc

-- and one that is not refused, and revokes, answers Done
revoke_done :
    (m : State) (t : ℕ) (fd : Fd) → refusal_of m t (process_of m t) (request.Revoke fd) ≡ None →
    (step m t (Some (request.Revoke fd))).answer ≡ answer.Done
unfolding step
revoke_done m t fd e = ap (λ o. (unless_refused m o (revoke m (process_of m t) fd)).answer) e

-- a door that a Create makes
made_new :
    (m : State) (t d entry cookie : ℕ) (attrs : Attrs) (z : Door) → door_of m d ≡ None →
    door_of (step m t (Some (request.Create entry cookie attrs))).state d ≡ Some z →
    z ≡ new_door (length m.doors + 1) (process_of m t) entry cookie attrs
unfolding step
made_new m t d entry cookie attrs z e f =
    go (refusal_of m t (process_of m t) (request.Create entry cookie attrs))
    (sym (ap (λ ds. at_number ds d) (doors-settle m (act m t (Some (request.Create entry cookie attrs))).state)) ∙ f)
  where
    one : (b : Bool) (y : Door) → (if b then Some y else at_number m.doors d) ≡ Some z → z ≡ y
    one true y g = cc
    one false y g = absurd (cc (sym e ∙ g))

    go :
        (r : Option Errno) → door_of (unless_refused m r (create m (process_of m t) entry cookie attrs)).state d ≡ Some z →
        z ≡ new_door (length m.doors + 1) (process_of m t) entry cookie attrs
    go (Some y) g = absurd (cc (sym e ∙ g))
    go None g = one _ (new_door (length m.doors + 1) (process_of m t) entry cookie attrs) (sym (numbered_push m.doors _ d) ∙ g)

module _ (m : State) (xs : List Turn) (k : Known m xs) where
  pub new_is :
      (i d : ℕ) (x : Turn) (door : Door) → slice_get xs i ≡ Some x → door_of (state_at m xs i) d ≡ None →
      door_of (state_at m xs (i + 1)) d ≡ Some door →
      door ≡ new_door (length (state_at m xs i).doors + 1) (process_at m xs i x.thread) door.entry door.cookie door.attrs
  new_is i d x door e b a =
      made_new (state_at m xs i) x.thread d door.entry door.cookie door.attrs door b
      (ap (λ q. door_of (step (state_at m xs i) x.thread q).state d) (sym (made m xs k i d x door e b a).created.request)
      ∙ sym (ap (λ n. door_of n d) (next m xs k i x e))
      ∙ a)

  valid_at_first :
      (i d : ℕ) (x : Turn) (door : Door) → slice_get xs i ≡ Some x → door_of (state_at m xs i) d ≡ None →
      door_of (state_at m xs (i + 1)) d ≡ Some door → is_valid (state_at m xs (i + 1)) d ≡ true
  valid_at_first i d x door e b a = ap is_valid_in a ∙ ap (λ z. is_valid_in (Some z)) (new_is i d x door e b a)

  invalid_stays :
      (i j d : ℕ) (door : Door) → i ≤ j → j ≤ length xs → door_of (state_at m xs i) d ≡ Some door → is_valid (state_at m xs i) d ≡ false →
      is_valid (state_at m xs j) d ≡ false
  invalid_stays i j d door l b e v =
      stays m xs (λ n. is_valid n d ≡ false) i one j l b v
    where
      one : (a : ℕ) (x : Turn) → i ≤ a → slice_get xs a ≡ Some x → is_valid (state_at m xs a) d ≡ false → is_valid (state_at m xs (a + 1)) d ≡ false
      one a x g f w = go (keeps_ever m xs k i a d door g (omega (arith, slice_get_within xs a x f)) e)
        where
          go : IsKept door (door_of (state_at m xs a) d) → is_valid (state_at m xs (a + 1)) d ≡ false
          go y =
              ap (λ n. is_valid n d) (next m xs k a x f)
              ∙ step_invalid (state_at m xs a) x.thread d y.door y.there w x.request

  only_by :
      (i d : ℕ) (x : Turn) → slice_get xs i ≡ Some x → is_valid (state_at m xs i) d ≡ true → is_valid (state_at m xs (i + 1)) d ≡ false →
      Invalidates m xs i x d
  only_by i d x e v w = go (step_loses (state_at m xs i) x.thread x.request d v (ap (λ n. is_valid n d) (sym (next m xs k i x e)) ∙ w))
    where
      by :
          (r : Request) → x.request ≡ Some r → Loses (state_at m xs i) x.thread r d (act (state_at m xs i) x.thread x.request).state →
          Invalidates m xs i x d
      by r q (revokes fd f n g s) =
          let asked : x.request ≡ Some (request.Revoke fd) = q ∙ ap (λ (y : Request). Some y) f in
          revoked fd asked (names_it (state_at m xs i) (process_at m xs i x.thread) d fd g v)
          (ap (λ y. (step (state_at m xs i) x.thread y).answer) asked
          ∙ revoke_done (state_at m xs i) x.thread fd (ap (refusal_of (state_at m xs i) x.thread (process_at m xs i x.thread)) (sym f) ∙ n))
      by r q (ends p s g) =
          let alive = lives _ (owner_lives (state_at m xs i) (invariant_before m xs k i x e) d p v g) in
          owner_ends p (owner_of p (door_of (state_at m xs i) d) g) alive.1
          (ap (λ n. is_ended n p) (next m xs k i x e ∙ ap (λ y. (step (state_at m xs i) x.thread y).state) q)
          ∙ ended_after (state_at m xs i) x.thread p r (ap (λ n. is_ended n p) (ap (λ y. (act (state_at m xs i) x.thread y).state) (sym q) ∙ s) ∙ process_ended (state_at m xs i) p alive.0))

      go : StepLoses (state_at m xs i) x.thread x.request d → Invalidates m xs i x d
      go l = by l.request l.asked l.loses

  owner_kept : (i d p : ℕ) (x : Turn) → slice_get xs i ≡ Some x → owner_in (door_of (state_at m xs i) d) ≡ Some p → owner_in (door_of (state_at m xs (i + 1)) d) ≡ Some p
  owner_kept i d p x e f = go (door_of (state_at m xs i) d) refl f
    where
      kept : (y : Door) → owner_in (Some y) ≡ Some p → IsKept y (door_of (state_at m xs (i + 1)) d) → owner_in (door_of (state_at m xs (i + 1)) d) ≡ Some p
      kept y g h = ap owner_in h.there ∙ ap (λ n. Some n.0) h.same.owner ∙ g

      go : (o : Option Door) → door_of (state_at m xs i) d ≡ o → owner_in o ≡ Some p → owner_in (door_of (state_at m xs (i + 1)) d) ≡ Some p
      go None g h = absurd (cc h)
      go (Some y) g h = kept y h (keeps_door m xs k i d y x e g)

  by_each : (i d : ℕ) (x : Turn) → slice_get xs i ≡ Some x → Invalidates m xs i x d → is_valid (state_at m xs (i + 1)) d ≡ false
  by_each i d x e (revoked fd q f a) =
      subst (λ n. is_valid (state_at m xs (i + 1)) n ≡ false) (ap door_named f)
      (ap (λ n. is_valid n (door_at (state_at m xs i) (process_at m xs i x.thread) fd)) (next m xs k i x e ∙ ap (λ y. (step (state_at m xs i) x.thread y).state) q)
      ∙ step_revokes (state_at m xs i) x.thread fd
      (done_not_refused (state_at m xs i) x.thread (request.Revoke fd) (sym (ap (λ y. (step (state_at m xs i) x.thread y).answer) q) ∙ a)))
  by_each i d x e (owner_ends p f b a) =
      no_valid_door (state_at m xs (i + 1)) (invariant_after m xs k i x e) p a d (owner_kept i d p x e f)

  call_waits :
      (i c : ℕ) (r : Call) → i ≤ length xs → record_of (state_at m xs i) c ≡ Some r → r.stage ≡ stage.Queued →
      is_valid (state_at m xs i) r.door ≡ true
  call_waits i c r l e f =
      subst (λ o. is_valid (state_at m xs i) (door_in o) ≡ true) e
      ((k.invariant i l).consistent.coherent.at_doors.waiting_valid c (ap stage_in e ∙ ap (λ (s : CallStage). Some s) f))

  notice_waits :
      (i c : ℕ) (x : Notice) → i ≤ length xs → notice_of (state_at m xs i) c ≡ Some x → x.stage ≡ notice.Waiting →
      is_valid (state_at m xs i) x.door ≡ true
  notice_waits i c x l e f =
      subst (λ o. is_valid (state_at m xs i) (noticed_door_in o) ≡ true) e
      ((k.invariant i l).consistent.coherent.notices_at_doors.notice_valid c (ap notice_in e ∙ ap (λ (s : NoticeStage). Some s) f))

  pub invalid_doors_hold : InvalidDoors m xs
  invalid_doors_hold = record { valid_at_first = valid_at_first; stays = invalid_stays; only_by = only_by; by_each = by_each; call_waits = call_waits; notice_waits = notice_waits }
