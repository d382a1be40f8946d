-- What one event does to notices: of a door that is due it makes one, the accept of a thread that was given one enters it, and one
-- that waits at a door that becomes invalid is dropped.
use Rattle.std.specs.Prelude.{ℕ, ◌≡◌, ◌<◌, Option, Bool, true, false, if◌then◌else◌, Some, None}
use Rattle.std.specs.Option.{option_map}
use Rattle.std.proofs.Common.{refl, sym, ap, subst, ◌∙◌}
use native.Mathlib.Omega.{arith}
use Rattle.std.proofs.lemmas.Bool.Decides.{nat_tests}
use Rattle.spec_records.proofs.NumberedLists.{find-as, find-map, find-number}
use Rattle.spec_kernel.specs.Types.{Answer, Item, Notice, NoticeStage, Request}
use Rattle.dk_base.specs.declared.object.Item.TheVariants as item
use Rattle.dk_base.specs.declared.answer.Answer.TheVariants as answer
use Rattle.spec_records.specs.declared.record.ThreadState.TheVariants as is
use Rattle.spec_records.specs.declared.record.NoticeStage.TheVariants as notice
use Rattle.spec_records.specs.Words.{Leaving, cookie_of, entry_of, is_given_notice_as, is_waiting_stage, left_notice, left_notice_at, notice_at, notice_number, process_end, revocation, tid}
use Rattle.spec_kernel.specs.Words.{MayTurn, State, accept_notice, act, door_at, door_of, find_notice, give_one, go_on, leave, make_notices, process_of, settle, state_of, step}
use Rattle.spec_kernel.proofs.Settling.{KeptByGiving, settle-all}
use Rattle.law_states.specs.Core.{notice_in}
use Rattle.law_states.specs.Records.{notice_of}
use Rattle.law_states.specs.Invariant.{Invariant}
use Rattle.law_states.specs.Arrows.{NoticeByGiving}
use Rattle.law_states.specs.Arrows.NoticeByGiving.{stays as keeps, gives}
use Rattle.law_states.proofs.NoticeSteps.{notices_given}
use Rattle.law_states.proofs.Settling.{make_notices_does}
use Rattle.law_states.proofs.Steps.{StepDoes, step_does}
use Rattle.law_places.specs.Places.{HasEnteredNotice, notice_stage_of}
use Rattle.law_runs.proofs.Numbers.{made_ordered, stage_entered, stage_front, stage_given}
use Rattle.law_places.proofs.Validity.{Loses, StepLoses}
use Rattle.law_places.proofs.Validity.Loses.{revokes, ends as ends_owner}

record GivenOn (o : Option Notice) (x : Notice) : Type 0 where
  later : Notice
  there : o ≡ Some later
  door : later.door ≡ x.door

-- those of one event have their numbers in the order of their doors

given_from : (o p : Option Notice) (x : Notice) → NoticeByGiving o p → p ≡ Some x → GivenOn o x
given_from o p x keeps e = record { later = x; there = e; door = refl }
given_from o p x (gives y u f) e =
    let same : notice_at (notice.Given (tid u)) y ≡ x = cc in
    record { later = y; there = refl; door = ap (λ (z : Notice). z.door) same }

pub step_orders :
    (m : State) (t : ℕ) (q : Option Request) → Invariant m → MayTurn m t q → (c d : ℕ) (x y : Notice) → notice_of m c ≡ None →
    notice_of m d ≡ None → notice_of (step m t q).state c ≡ Some x → notice_of (step m t q).state d ≡ Some y → x.door < y.door → c < d
unfolding step
step_orders m t q h may c d x y e f g i l = go (from c x g) (from d y i)
  where
    a : State
    a = (act m t q).state

    w : StepDoes m t q
    w = step_does m t q h may

    from : (j : ℕ) (z : Notice) → notice_of (settle m a) j ≡ Some z → GivenOn (notice_of (make_notices m a) j) z
    from j z r = given_from _ _ z ((notices_given m a (make_notices_does m a w.acted.consistent).consistent).giving j) r

    go : GivenOn (notice_of (make_notices m a) c) x → GivenOn (notice_of (make_notices m a) d) y → c < d
    go u v =
        made_ordered m a c d u.later v.later (w.acted.kept.none_made c e) (w.acted.kept.none_made d f) u.there v.there
        (omega (arith, u.door, v.door, l))

-- what does not wait after an act stays at its stage

abbrev IsAt : State → ℕ → NoticeStage → Type 0
IsAt m c s = notice_stage_of m c ≡ Some s

stays_at : (before m : State) (c : ℕ) (s : NoticeStage) → is_waiting_stage s ≡ false → IsAt m c s → IsAt (settle before m) c s
stays_at before m c s w =
    settle-all (λ n. IsAt n c s) before
    (record {
      makes = λ n d due e. stage_front n.notice_list.notices _ c s e;
      fails = λ n u l e. e;
      gives = given;
      starts = λ n u d e. e;
    }) (λ n h. h)
    m
  where
    given : KeptByGiving (λ n. IsAt n c s)
    given n v x p e = go v.item
      where
        go : (i : Item) → IsAt (give_one n i x.thread.0) c s
        go (item.Call j) = e
        go (item.Notice j) = stage_given n.notice_list.notices j c x.thread.0 s w e

-- entering

given_is_found :
    (m : State) (t c : ℕ) (x : Notice) → notice_of m c ≡ Some x → x.stage ≡ notice.Given (tid t) → find_notice m (is_given_notice_as c t) ≡ Some x
given_is_found m t c x e f =
    let n : x.number ≡ c = find-number notice_number m.notice_list.notices c x e in
    find-as notice_number (is_given_notice_as c t) m.notice_list.notices c x (λ y g. grind (arith, nat_tests)) e (grind (arith, nat_tests))

pub record EntersIt (m : State) (t c : ℕ) (x : Notice) (a : Answer) (n : State) : Type 0 where
  pub answer : a ≡ answer.EnteredNotice c (entry_of (door_of m x.door)) (cookie_of (door_of m x.door))
  pub stage_after : HasEnteredNotice n t c

module _
    (m : State) (t c : ℕ) (x : Notice) (s : state_of m t ≡ is.Given (item.Notice c)) (e : notice_of m c ≡ Some x)
    (f : x.stage ≡ notice.Given (tid t)) where
  acts_so : act m t None ≡ accept_notice m t c (Some x)
  acts_so = ap (go_on m t (process_of m t)) s ∙ ap (accept_notice m t c) (given_is_found m t c x e f)

  entered_then : IsAt (accept_notice m t c (Some x)).state c (notice.Entered (tid t))
  entered_then = stage_entered m.notice_list.notices c t (ap notice_in e ∙ ap (λ (z : NoticeStage). Some z) f)

  enters_now : EntersIt m t c x (step m t None).answer (step m t None).state
  unfolding step
  enters_now =
      record {
        answer =
            ap (λ a. a.answer) acts_so
            ∙ ap (λ (j : ℕ). answer.EnteredNotice j (entry_of (door_of m x.door)) (cookie_of (door_of m x.door)))
            (find-number notice_number m.notice_list.notices c x e);
        stage_after =
            stays_at m (act m t None).state c (notice.Entered (tid t)) refl
            (subst (λ a. IsAt a.state c (notice.Entered (tid t))) (sym acts_so) entered_then);
      }

pub step_enters :
    (m : State) (t c : ℕ) (q : Option Request) (x : Notice) → q ≡ None → state_of m t ≡ is.Given (item.Notice c) → notice_of m c ≡ Some x →
    x.stage ≡ notice.Given (tid t) → EntersIt m t c x (step m t q).answer (step m t q).state
step_enters m t c q x r s e f = subst (λ o. EntersIt m t c x (step m t o).answer (step m t o).state) (sym r) (enters_now m t c x s e f)

-- dropping

number_left : (who : Leaving) (x : Notice) → (left_notice who x).number ≡ x.number
number_left who x = go x.stage
  where
    pick : (b : Bool) (s : NoticeStage) → (if b then record x { stage = s } else x).number ≡ x.number
    pick true s = refl
    pick false s = refl

    go : (s : NoticeStage) → (left_notice_at who s x).number ≡ x.number
    go notice.Waiting = pick (who.loses x.door) notice.Dropped
    go (notice.Given u) = pick (who.ends u.0) notice.Over
    go (notice.Entered u) = pick (who.ends u.0) notice.Over
    go notice.Over = refl
    go notice.Dropped = refl

drops_it : (who : Leaving) (x : Notice) → who.loses x.door ≡ true → x.stage ≡ notice.Waiting → (left_notice who x).stage ≡ notice.Dropped
drops_it who x l e =
    ap (λ (s : NoticeStage). (left_notice_at who s x).stage) e
    ∙ ap (λ (b : Bool). (if b then record x { stage = notice.Dropped } else x).stage) l

pub step_drops :
    (m : State) (t : ℕ) (q : Option Request) (c : ℕ) (x : Notice) → notice_of m c ≡ Some x → x.stage ≡ notice.Waiting →
    StepLoses m t q x.door → IsAt (step m t q).state c notice.Dropped
unfolding step
step_drops m t q c x e f l =
    stays_at m (act m t q).state c notice.Dropped refl (go l.loses)
  where
    left : (who : Leaving) → who.loses x.door ≡ true → IsAt (leave m who) c notice.Dropped
    left who g =
        ap notice_in (find-map notice_number (left_notice who) (number_left who) m.notice_list.notices c ∙ ap (option_map (left_notice who)) e)
        ∙ ap (λ (s : NoticeStage). Some s) (drops_it who x g f)

    go : Loses m t l.request x.door (act m t q).state → IsAt (act m t q).state c notice.Dropped
    go (revokes fd g n h s) =
        subst (λ o. IsAt o c notice.Dropped) (sym s) (left (revocation (door_at m (process_of m t) fd)) (grind (arith, nat_tests, h)))
    go (ends_owner p s h) = subst (λ o. IsAt o c notice.Dropped) (sym s) (left (process_end m.process_table m.doors p) h)
