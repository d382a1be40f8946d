-- A notice is entered only by the accept of the thread that it was given to, and each such accept enters it.
use Rattle.std.specs.Prelude.{ℕ, ◌≡◌, ◌+◌, List, Option, true, false, Some, None, slice_get}
use Rattle.std.proofs.Common.{refl, sym, ap, subst, ◌∙◌}
use native.Mathlib.Omega.{arith}
use Rattle.std.proofs.lemmas.Option.{slice_get_within}
use Rattle.spec_records.proofs.NumberedLists.{find-number}
use Rattle.spec_kernel.specs.Types.{Notice, NoticeStage}
use Rattle.dk_base.specs.declared.object.Item.TheVariants as item
use Rattle.dk_base.specs.declared.answer.Answer.TheVariants as answer
use Rattle.spec_records.specs.declared.record.ThreadState.TheVariants as is
use Rattle.spec_records.specs.declared.record.NoticeStage.TheVariants as notice
use Rattle.spec_records.specs.Words.{cookie_of, entry_of, notice_number, tid}
use Rattle.spec_kernel.specs.Words.{State, Turn, door_of, invocation_of, process_of, state_at, state_of}
use Rattle.law_states.specs.Core.{core, is_outside, notice_in, noticed_door_in}
use Rattle.law_states.specs.Coherent.{IsCoherent}
use Rattle.law_states.specs.Records.{notice_of, owner_in}
use Rattle.law_states.specs.Events.{IsToldBy}
use Rattle.law_places.specs.Places.{IsOf, NoticeBecomesEntered, answer_at, door_of_notice, is_entered_notice_in, notice_stage_of, notice_door}
use Rattle.law_runs.specs.Notices.{EntersNotice, IsNoticeAccept}
use Rattle.law_places.proofs.Known.{Known, invariant_after, invariant_before, next}
use Rattle.law_places.proofs.DoorPlaces.{is_of}
use Rattle.law_places.proofs.NoticeChanges.{EnteredNoticeRow}
use Rattle.law_runs.proofs.Events.{EntersIt, step_enters}
use Rattle.law_places.proofs.NoticePlaces.{notice_entered_by}
use Rattle.law_places.proofs.Invocations.{begun, entered_by, invocations}

-- a record at a stage

pub record IsAtStage (o : Option Notice) (s : NoticeStage) : Type 0 where
  pub notice : Notice
  pub there : o ≡ Some notice
  pub stage : notice.stage ≡ s

pub at_stage_of : (o : Option Notice) (s : NoticeStage) → notice_in o ≡ Some s → IsAtStage o s
at_stage_of None s e = absurd (cc e)
at_stage_of (Some x) s e = record { notice = x; there = refl; stage = cc e }

at_given : (u : ℕ) (o : Option Notice) → notice_in o ≡ Some (notice.Given (tid u)) → is_entered_notice_in o ≡ false
at_given u o e = grind arith

at_entered : (u : ℕ) (o : Option Notice) → notice_in o ≡ Some (notice.Entered (tid u)) → is_entered_notice_in o ≡ true
at_entered u o e = grind arith

same_notice : (c d e : ℕ) → is.Given (item.Notice e) ≡ is.Given (item.Notice c) → e ≡ d → d ≡ c
same_notice c d e f g = cc

call_or_notice : (c d : ℕ) → is.Given (item.Call d) ≡ is.Given (item.Notice c) → ⊥
call_or_notice c d e = cc

same_entry : (c e f k l : ℕ) → answer.EnteredNotice c e k ≡ answer.EnteredNotice c f l → f ≡ e
same_entry c e f k l g = cc

same_cookie : (c e f k l : ℕ) → answer.EnteredNotice c e k ≡ answer.EnteredNotice c f l → l ≡ k
same_cookie c e f k l g = cc

module _ (m : State) (xs : List Turn) (k : Known m xs) where
  pub number_at : (i c : ℕ) (y : Notice) → notice_of (state_at m xs i) c ≡ Some y → y.number ≡ c
  number_at i c y e = find-number notice_number (state_at m xs i).notice_list.notices c y e

  pub given_enters :
      (i c : ℕ) (x : Turn) → slice_get xs i ≡ Some x → x.request ≡ None →
      state_of (state_at m xs i) x.thread ≡ is.Given (item.Notice c) → IsNoticeAccept m xs i x c
  given_enters i c x e q s = go (at_stage_of (notice_of (state_at m xs i) c) (notice.Given (tid x.thread)) before)
    where
      h : IsCoherent (core (state_at m xs i))
      h = (invariant_before m xs k i x e).consistent.coherent

      g : IsCoherent (core (state_at m xs (i + 1)))
      g = (invariant_after m xs k i x e).consistent.coherent

      before : notice_stage_of (state_at m xs i) c ≡ Some (notice.Given (tid x.thread))
      before = h.notices_given.notice_given_back c x.thread s

      free : invocation_of (state_at m xs i) x.thread ≡ None
      free = h.servers.outside x.thread (ap is_outside s)

      with_notice :
          (y : Notice) → notice_of (state_at m xs i) c ≡ Some y →
          EntersIt (state_at m xs i) x.thread c y (answer_at m xs i x) (state_at m xs (i + 1)) → IsNoticeAccept m xs i x c
      with_notice y there w =
          record {
            entry = entry_of (door_of (state_at m xs i) y.door);
            cookie = cookie_of (door_of (state_at m xs i) y.door);
            enters =
                record {
                  no_request = q;
                  was_given = s;
                  answer = w.answer;
                  stage_before = before;
                  stage_after = w.stage_after;
                  entered =
                      record {
                        within = slice_get_within xs i x e;
                        before = at_given x.thread _ before;
                        after = at_entered x.thread _ w.stage_after;
                      };
                  nothing_else = λ d b. other d (notice_entered_by m xs k i d x e b);
                  no_call = λ d b. call_or_notice c _ (sym (entered_by m xs k i d x e b).given ∙ s);
                  of_the_door =
                      subst (λ o. IsOf o (entry_of (door_of (state_at m xs i) y.door)) (cookie_of (door_of (state_at m xs i) y.door))) (sym its_door)
                      (is_of (door_of (state_at m xs i) y.door) _ _ (process_of (state_at m xs i) x.thread) owner refl refl);
                  of_the_owner = ap owner_in its_door ∙ owner;
                  free_before = free;
                  invocation_after =
                      begun _ _ _ _ _ x.thread (item.Notice c) _ _ (invocations m xs k i x.thread x e) free
                      (g.notices_entered.notice_entered c x.thread w.stage_after);
                };
          }
        where
          its_door : door_of_notice (state_at m xs i) c ≡ door_of (state_at m xs i) y.door
          its_door = ap (notice_door (state_at m xs i)) there

          owner : owner_in (door_of (state_at m xs i) y.door) ≡ Some (process_of (state_at m xs i) x.thread)
          owner =
              ap (λ o. owner_in (door_of (state_at m xs i) (noticed_door_in o))) (sym there)
              ∙ h.notices_at_doors.notice_given_owner c x.thread before

          other : (d : ℕ) → EnteredNoticeRow (state_at m xs i) x.thread x.request (notice_of (state_at m xs i) d) → d ≡ c
          other d r = same_notice c d r.notice.number (sym r.given ∙ s) (number_at i d r.notice r.before)

      go : IsAtStage (notice_of (state_at m xs i) c) (notice.Given (tid x.thread)) → IsNoticeAccept m xs i x c
      go y =
          with_notice y.notice y.there
          (subst (λ n. EntersIt (state_at m xs i) x.thread c y.notice (answer_at m xs i x) n) (sym (next m xs k i x e))
          (step_enters (state_at m xs i) x.thread c x.request y.notice q s y.there y.stage))

  pub accepts :
      (i c entry cookie : ℕ) (x : Turn) → slice_get xs i ≡ Some x →
      answer_at m xs i x ≡ answer.EnteredNotice c entry cookie → EntersNotice m xs i x c entry cookie
  accepts i c entry cookie x e f = go (subst (IsToldBy (state_at m xs i) x.thread x.request) f (k.keeps i x e).told)
    where
      by :
          (w : IsNoticeAccept m xs i x c) → answer.EnteredNotice c entry cookie ≡ answer.EnteredNotice c w.entry w.cookie →
          EntersNotice m xs i x c entry cookie
      by w g =
          subst (λ (j : ℕ). EntersNotice m xs i x c j cookie) (same_entry c entry w.entry cookie w.cookie g)
          (subst (EntersNotice m xs i x c w.entry) (same_cookie c entry w.entry cookie w.cookie g) w.enters)

      go : (x.request ≡ None) × (state_of (state_at m xs i) x.thread ≡ is.Given (item.Notice c)) → EntersNotice m xs i x c entry cookie
      go h = let w : IsNoticeAccept m xs i x c = given_enters i c x e h.0 h.1 in by w (sym f ∙ w.enters.answer)

  pub only_by_accept : (i c : ℕ) (x : Turn) → slice_get xs i ≡ Some x → NoticeBecomesEntered m xs c i → IsNoticeAccept m xs i x c
  only_by_accept i c x e b = go (notice_entered_by m xs k i c x e b)
    where
      go : EnteredNoticeRow (state_at m xs i) x.thread x.request (notice_of (state_at m xs i) c) → IsNoticeAccept m xs i x c
      go r = given_enters i c x e r.asked (r.given ∙ ap (λ (j : ℕ). is.Given (item.Notice j)) (number_at i c r.notice r.before))
