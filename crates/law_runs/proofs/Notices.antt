-- The law of notices holds of every run.
use Rattle.std.specs.Prelude.{ℕ, ◌≡◌, List, Option, Some, None}
use Rattle.std.proofs.Common.{sym, ap, ◌∙◌}
use Rattle.spec_kernel.specs.Types.{Notice, NoticeStage}
use Rattle.spec_records.specs.declared.record.NoticeStage.TheVariants as notice
use Rattle.spec_records.specs.Words.{tid}
use Rattle.spec_kernel.specs.Words.{IsOpening, IsRun, State, Turn, door_of, process_of, state_at}
use Rattle.law_states.specs.Core.{notice_in, noticed_door_in}
use Rattle.law_states.specs.Coherent.{AreNoticesAtDoors, bound_for}
use Rattle.law_states.specs.Core.{core}
use Rattle.law_states.specs.Invariant.{Invariant}
use Rattle.law_states.specs.Records.{notice_of, owner_in}
use Rattle.law_places.specs.Places.{MayServe, notice_stage_of, notice_door, owner_of_notice}
use Rattle.law_runs.specs.Notices.{Notices}
use Rattle.law_places.proofs.Counts.{may_serve}
use Rattle.law_places.proofs.Known.{Known}
use Rattle.law_places.proofs.Runs.{known}
use Rattle.law_runs.proofs.Fates.{cut_off_then, dropped_then, fate, lost_then, returned_then}
use Rattle.law_runs.proofs.Reasons.{one_reason}
use Rattle.law_runs.proofs.Threads.{same_thread, waits_no_more}
use Rattle.law_places.proofs.NoticePlaces.{notice_entered_once}
use Rattle.law_runs.proofs.Entered.{accepts, given_enters, only_by_accept}
use Rattle.law_runs.proofs.Made.{by_door, due_makes, fresh, in_order, kept, made_once, made_where_due, numbered, one_ever, was_made}

given_to_owner :
    (m : State) → Invariant m → (t c : ℕ) → notice_stage_of m c ≡ Some (notice.Given (tid t)) → owner_of_notice m c ≡ Some (process_of m t)
given_to_owner m h t c e = go (notice_of m c) e (h.consistent.coherent.notices_at_doors.notice_given_owner c t e)
  where
    go :
        (o : Option Notice) → notice_in o ≡ Some (notice.Given (tid t)) → owner_in (door_of m (noticed_door_in o)) ≡ Some (process_of m t) →
        owner_in (notice_door m o) ≡ Some (process_of m t)
    go None f g = absurd (cc f)
    go (Some x) f g = g

given_to_pool :
    (m : State) → Invariant m → (t c : ℕ) (x : Notice) → notice_of m c ≡ Some x → x.stage ≡ notice.Given (tid t) → MayServe m t x.door
given_to_pool m h t c x e f =
    may_serve m t x.door
    (ap (λ o. owner_in (door_of m (noticed_door_in o))) (sym e) ∙ doors.notice_given_owner c t given)
    (doors.notice_given_bound c t given ∙ ap (λ o. bound_for (noticed_door_in o) (door_of m (noticed_door_in o))) e)
  where
    doors : AreNoticesAtDoors (core m).notice (core m).noticed_door (core m).door (core m).process (core m).bound
    doors = h.consistent.coherent.notices_at_doors

    given : notice_stage_of m c ≡ Some (notice.Given (tid t))
    given = ap notice_in e ∙ ap (λ (s : NoticeStage). Some s) f

pub notices_hold : (m : State) (xs : List Turn) → Known m xs → Notices m xs
notices_hold m xs k =
    record {
      none_at_first = k.no_notice;
      made_where_due = made_where_due m xs k;
      due_makes = due_makes m xs k;
      fresh = fresh m xs k;
      was_made = was_made m xs k;
      made_once = made_once m xs k;
      kept = kept m xs k;
      numbered = numbered m xs k;
      in_order = in_order m xs k;
      by_door = by_door m xs k;
      one_ever = one_ever m xs k;
      given_to_owner = λ i t c l e. given_to_owner (state_at m xs i) (k.invariant i l) t c e;
      given_to_pool = λ i t c x l. given_to_pool (state_at m xs i) (k.invariant i l) t c x;
      given_waits = λ i t c l e. (k.invariant i l).consistent.coherent.notices_given.notice_given c t e;
      waits_no_more = waits_no_more m xs k;
      same_thread = same_thread m xs k;
      entered_once = notice_entered_once m xs k;
      accepts = accepts m xs k;
      given_enters = given_enters m xs k;
      only_by_accept = only_by_accept m xs k;
      in_its_invocation = λ i t c l e. (k.invariant i l).consistent.coherent.notices_entered.notice_entered c t e;
      fate = fate m xs k;
      one_reason = one_reason m xs k;
      dropped_then = dropped_then m xs k;
      lost_then = lost_then m xs k;
      returned_then = returned_then m xs k;
      cut_off_then = cut_off_then m xs k;
    }

pub every_run_has : (m : State) (xs : List Turn) → IsOpening m → IsRun m xs → Notices m xs
every_run_has m xs opens run = notices_hold m xs (known m xs opens run)
