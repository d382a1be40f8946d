-- The arrows of notices over an event: those of its act, the making of notices, and the giving that follows. Of a door that is due just
-- one notice is made.
use Rattle.std.specs.Prelude.{ℕ, ◌≡◌, ◌+◌, ◌<◌, ◌≤◌, ◌&&◌, ◌||◌, ◌++◌, not, List, [], ◌∷◌, Option, Bool, true, false, ◌==◌, if◌then◌else◌, Some, None, filter, flat_map, length, map, nat_lt, suc, zero}
use Rattle.std.proofs.Common.{refl, sym, ap, ap₂, subst, ◌∙◌}
use native.Mathlib.Omega.{arith}
use Rattle.std.proofs.lemmas.Bool.Decides.{nat_tests}
use Rattle.dk_base.specs.declared.object.Item.TheVariants as item
use Rattle.dk_base.specs.declared.object.Obj.TheVariants as obj
use Rattle.spec_records.proofs.NumberedLists.{find-past, find-push}
use Rattle.spec_kernel.specs.Types.{Answer, Call, Door, Item, Notice, Request}
use Rattle.spec_records.specs.declared.record.CallStage.TheVariants as stage
use Rattle.spec_records.specs.declared.record.NoticeStage.TheVariants as notice
use Rattle.spec_records.specs.Words.{at_stage, change_first, has_unref_multi, is_object, is_queued_as, is_valid_door, new_notice, notice_number, objects_of, takes_notices, tid}
use Rattle.spec_kernel.specs.Words.{MayTurn, State, act, door_of, falls_to_one, give_one, holdings, is_due, make_each, make_notices, may_have_notice, named_object, now, objects_in_call, reference_count, settle, step, with_event_counted}
use Rattle.spec_records.proofs.Lists.{numbered_within}
use Rattle.spec_kernel.proofs.Notices.{IsDue, due_is, is_due-so_far, make_each-due}
use Rattle.spec_kernel.proofs.Steps.{events-step}
use Rattle.spec_kernel.proofs.Settling.{KeptByGiving, events-settle, settle-all, with_notice_of}
use Rattle.law_states.specs.Records.{notice_of}
use Rattle.law_states.specs.Invariant.{IsConsistent, Invariant}
use Rattle.law_states.specs.Arrows.{NoticeArrow, NoticeByAct, NoticeByGiving}
use Rattle.law_states.specs.Arrows.NoticeByAct.{stays as notice_stays, makes as notice_makes}
use Rattle.law_states.specs.Arrows.NoticeByGiving.{stays, gives}
use Rattle.law_states.specs.Events.{IsNoticed}
use Rattle.law_states.proofs.Later.{AreSameDoors, notice_by_act_later}
use Rattle.law_states.proofs.Consistent.{AreCounted, notices_counted, push_counted}
use Rattle.law_states.proofs.Settling.{settle_gave}
use Rattle.law_states.proofs.Steps.{StepDoes, same_done, step_does}

-- giving

pub record NoticesGiven (m n : State) : Type 0 where
  pub giving : (c : ℕ) → NoticeByGiving (notice_of m c) (notice_of n c)

pub notices_given : (before m : State) → IsConsistent (make_notices before m) → NoticesGiven (make_notices before m) (settle before m)
notices_given before m h = record { giving = (settle_gave before m h).notices }

-- settling leaves what is held

given_holds : (c u : ℕ) (rs : List Call) → flat_map objects_in_call (change_first (is_queued_as c) (at_stage (stage.Given (tid u))) rs) ≡ flat_map objects_in_call rs
given_holds c u [] = refl
given_holds c u (r ∷ rs) = grind (arith, nat_tests, given_holds c u rs)

pub holdings-settle : (before m : State) → holdings (settle before m) ≡ holdings m
holdings-settle before m =
    settle-all (λ n. holdings n ≡ holdings m) before
    (record { makes = λ n d due e. e; fails = λ n t l e. e; gives = gives_one; starts = λ n t d e. e }) (λ n e. e) m refl
  where
    gives_one : KeptByGiving (λ n. holdings n ≡ holdings m)
    gives_one n w x p e = go w.item
      where
        go : (i : Item) → holdings (give_one n i x.thread.0) ≡ holdings m
        go (item.Call c) = ap (λ os. flat_map objects_of n.tables ++ map named_object n.names ++ os) (given_holds c x.thread.0 n.call_tree.calls) ∙ e
        go (item.Notice c) = e

pub falls_to_one-settle : (before m : State) (d : ℕ) → falls_to_one before (settle before m) d ≡ falls_to_one before m d
falls_to_one-settle before m d =
    ap (λ os. nat_lt 1 (reference_count before d) && (length (filter (is_object (obj.Door d)) os) == 1)) (holdings-settle before m)

-- making

-- a notice from the state after an act to the one after the making of notices
data MadeNotice (before m : State) : Option Notice → Option Notice → Type 0 where
  same : {o : Option Notice} → MadeNotice before m o o
  is_made : (x : Notice) → IsDue before m x.door → x.stage ≡ notice.Waiting → x.made ≡ now m → MadeNotice before m None (Some x)

made_none : (before m : State) (o p : Option Notice) → MadeNotice before m o p → p ≡ None → o ≡ None
made_none before m o p same e = e
made_none before m o p (is_made x i f g) e = absurd (grind arith)

-- one notice of a door is there that was not
record OneNew (m n : State) (d : ℕ) : Type 0 where
  notice : Notice
  none_before : notice_of m notice.number ≡ None
  there : notice_of n notice.number ≡ Some notice
  door : notice.door ≡ d
  only : (c : ℕ) (x : Notice) → notice_of m c ≡ None → notice_of n c ≡ Some x → x.door ≡ d → c ≡ notice.number

-- notices are made of the doors 1 to k
record MadeUpTo (before m : State) (k : ℕ) (n : State) : Type 0 where
  counted : AreCounted notice_number n.notice_list.notices n.notice_list.made
  each : (c : ℕ) → MadeNotice before m (notice_of m c) (notice_of n c)
  none_later : (d : ℕ) → k < d → (c : ℕ) (x : Notice) → notice_of m c ≡ None → notice_of n c ≡ Some x → x.door ≡ d → ⊥
  one : (d : ℕ) → 1 ≤ d → d ≤ k → is_due before m d (door_of m d) ≡ true → OneNew m n d

-- whether a door is due does not depend on the notices that were made of lower doors
due_same :
    (before m : State) (k : ℕ) →
    is_due before (make_each before m k) (suc k) (door_of (make_each before m k) (suc k)) ≡ is_due before m (suc k) (door_of m (suc k))
due_same before m k =
    ap (λ (n : State). is_due before n (suc k) (door_of n (suc k))) (make_each-due before m k) ∙ is_due-so_far before m k (door_of m (suc k))

makes_more :
    (before m n : State) (k : ℕ) → now n ≡ now m → is_due before m (suc k) (door_of m (suc k)) ≡ true → MadeUpTo before m k n →
    MadeUpTo before m (suc k) (with_notice_of n (suc k))
makes_more before m n k time due h =
    record {
      counted = push_counted y h.counted refl;
      each = λ c. subst (λ o. MadeNotice before m (notice_of m c) o) (sym (found c)) (each c (c == y.number) refl);
      none_later = λ d l c x e f g. grind (arith, nat_tests, found c, h.none_later d (omega (arith, l)) c x);
      one = λ d low high e. one d low high e (d == suc k) refl;
    }
  where
    y : Notice
    y = new_notice (n.notice_list.made + 1) (now n) (suc k)

    o : State
    o = with_notice_of n (suc k)

    none_at : notice_of n y.number ≡ None
    none_at = find-past notice_number n.notice_list.notices 0 y.number h.counted.in_order (grind (arith, h.counted.counted))

    none_before : notice_of m y.number ≡ None
    none_before = made_none before m (notice_of m y.number) (notice_of n y.number) (h.each y.number) none_at

    found : (c : ℕ) → notice_of o c ≡ (if c == y.number then Some y else notice_of n c)
    found c = find-push notice_number n.notice_list.notices 0 y c h.counted.in_order (grind (arith, h.counted.counted))

    each : (c : ℕ) (b : Bool) → (c == y.number) ≡ b → MadeNotice before m (notice_of m c) (if b then Some y else notice_of n c)
    each c true e =
        let here : y.number ≡ c = grind (arith, nat_tests) in
        subst (λ (j : ℕ). MadeNotice before m (notice_of m j) (Some y)) here
        (subst (λ z. MadeNotice before m z (Some y)) (sym none_before) (is_made y (due_is before m (suc k) due) refl time))
    each c false e = h.each c

    one : (d : ℕ) → 1 ≤ d → d ≤ suc k → is_due before m d (door_of m d) ≡ true → (b : Bool) → (d == suc k) ≡ b → OneNew m o d
    one d low high e true i =
        let here : suc k ≡ d = grind (arith, nat_tests) in
        record {
          notice = y;
          none_before = none_before;
          there = found y.number ∙ grind (arith, nat_tests);
          door = here;
          only = λ c x f g z. grind (arith, nat_tests, found c, h.none_later d (omega (arith, here)) c x f);
        }
    one d low high e false i =
        record {
          notice = old.notice;
          none_before = old.none_before;
          there = grind (arith, nat_tests, found old.notice.number, old.there, none_at);
          door = old.door;
          only = λ c x f g z. grind (arith, nat_tests, found c, old.only c x f);
        }
      where
        old : OneNew m n d
        old = h.one d low (grind (arith, nat_tests)) e

made_up_to : (before m : State) (k : ℕ) → IsConsistent m → MadeUpTo before m k (make_each before m k)
made_up_to before m zero h =
    record {
      counted = notices_counted h;
      each = λ c. same;
      none_later = λ d l c x e f g. grind arith;
      one = λ d low high e. absurd (omega (arith, low, high));
    }
made_up_to before m (suc k) h =
    go (is_due before n (suc k) (door_of n (suc k))) (sym (due_same before m k)) (made_up_to before m k h)
  where
    n : State
    n = make_each before m k

    go :
        (b : Bool) → is_due before m (suc k) (door_of m (suc k)) ≡ b → MadeUpTo before m k n →
        MadeUpTo before m (suc k) (if b then with_notice_of n (suc k) else n)
    go true e ih = makes_more before m n k (ap (λ (o : State). o.events + 1) (make_each-due before m k)) e ih
    go false e ih =
        record {
          counted = ih.counted;
          each = ih.each;
          none_later = λ d l. ih.none_later d (omega (arith, l));
          one = λ d low high due. one d low high due (d == suc k) refl;
        }
      where
        one : (d : ℕ) → 1 ≤ d → d ≤ suc k → is_due before m d (door_of m d) ≡ true → (b : Bool) → (d == suc k) ≡ b → OneNew m n d
        one d low high due true i =
            let here : d ≡ suc k = grind (arith, nat_tests) in
            absurd (grind (arith, ap (λ (j : ℕ). is_due before m j (door_of m j)) here))
        one d low high due false i = ih.one d low (grind (arith, nat_tests)) due

-- the whole event

-- where no notice is left by an act, none was before it
none_inverse : (m : State) (t : ℕ) (q : Option Request) (a : Answer) (n : State) (o p : Option Notice) → NoticeByAct m t q a n o p → p ≡ None → o ≡ None
none_inverse m t q a n o p notice_stays e = e
none_inverse m t q a n o p (notice_makes x d f g i j k) e = refl
none_inverse m t q a n o p _ e = absurd (grind arith)

module _ (m : State) (t : ℕ) (q : Option Request) (d : StepDoes m t q) where
  abbrev acted : State
  acted = (act m t q).state

  abbrev made : State
  made = make_notices m acted

  abbrev final : State
  final = with_event_counted (settle m acted)

  made_all : MadeUpTo m acted (length acted.doors) made
  made_all = made_up_to m acted (length acted.doors) d.acted.consistent

  may_same : (e : ℕ) (x : Door) → may_have_notice acted e x ≡ may_have_notice m e x
  may_same e x = ap (λ (b : Bool). takes_notices x.attrs && is_valid_door x && (has_unref_multi x.attrs || not b)) (d.acted.kept.had e)

  same_doors : AreSameDoors m acted final
  same_doors = record { doors = d.settled.gave.doors; falls = falls_to_one-settle m acted }

  module _ (time : now acted ≡ now m) where
    made_arrow : (o p r : Option Notice) → NoticeByAct m t q (act m t q).answer acted o p → MadeNotice m acted p r → NoticeByAct m t q (act m t q).answer final o r
    made_arrow o p r b same = notice_by_act_later m t q (act m t q).answer acted final o p same_doors (same_done m t q d) b
    made_arrow o p r b (is_made x i waiting at) =
        subst (λ z. NoticeByAct m t q (act m t q).answer final z (Some x)) (sym (none_inverse m t q (act m t q).answer acted o None b refl))
        (notice_makes x i.door (same_doors.doors x.door ∙ i.there) (sym (may_same x.door i.door) ∙ i.may) (same_doors.falls x.door ∙ i.falls) waiting (at ∙ time))

    notice_arrow : (c : ℕ) → NoticeArrow m t q (act m t q).answer final (notice_of m c) (notice_of final c)
    notice_arrow c =
        record {
          between = notice_of made c;
          act = made_arrow (notice_of m c) (notice_of acted c) (notice_of made c) (d.acted.notices c) (made_all.each c);
          giving = d.settled.gave.notices c;
        }

  record GivenBack (o : Option Notice) (x : Notice) : Type 0 where
    notice : Notice
    there : o ≡ Some notice
    door : notice.door ≡ x.door

  given_back : (o p : Option Notice) (x : Notice) → NoticeByGiving o p → p ≡ Some x → GivenBack o x
  given_back o p x stays e = record { notice = x; there = e; door = refl }
  given_back o p x (gives y u f) e = record { notice = y; there = refl; door = grind arith }

  given_on : (o p : Option Notice) (x : Notice) → NoticeByGiving o p → o ≡ Some x → GivenBack p x
  given_on o p x stays e = record { notice = x; there = e; door = refl }
  given_on o p x (gives y u f) e = record { notice = _; there = refl; door = grind arith }

  noticed : (e : ℕ) (x : Door) → door_of final e ≡ Some x → may_have_notice m e x ≡ true → falls_to_one m final e ≡ true → IsNoticed m final e
  noticed e x f g i =
      record {
        number = o.notice.number;
        notice = later.notice;
        none_before = none_inverse m t q (act m t q).answer acted _ _ (d.acted.notices o.notice.number) o.none_before;
        there = later.there;
        door = later.door ∙ o.door;
        only =
            λ c y j k l.
            let b : GivenBack (notice_of made c) y = given_back (notice_of made c) (notice_of final c) y (d.settled.gave.notices c) k in
            o.only c b.notice (d.acted.kept.none_made c j) b.there (b.door ∙ l);
      }
    where
      there : door_of acted e ≡ Some x
      there = sym (same_doors.doors e) ∙ f

      due : is_due m acted e (door_of acted e) ≡ true
      due = ap (is_due m acted e) there ∙ ap₂ (λ (b : Bool) (c : Bool). b && c) (may_same e x ∙ g) (sym (same_doors.falls e) ∙ i)

      o : OneNew acted made e
      o = let w = numbered_within acted.doors e x there in made_all.one e w.0 w.1 due

      later : GivenBack (notice_of final o.notice.number) o.notice
      later = given_on _ _ o.notice (d.settled.gave.notices o.notice.number) o.there

same_time : (m : State) (t : ℕ) (q : Option Request) → now (act m t q).state ≡ now m
unfolding step
same_time m t q = sym (ap (λ n. n + 1) (events-settle m (act m t q).state)) ∙ events-step m t q

pub step_notices :
    (m : State) (t : ℕ) (q : Option Request) (c : ℕ) → Invariant m → MayTurn m t q →
    NoticeArrow m t q (step m t q).answer (step m t q).state (notice_of m c) (notice_of (step m t q).state c)
unfolding step
step_notices m t q c h may = notice_arrow m t q (step_does m t q h may) (same_time m t q) c

pub step_noticed :
    (m : State) (t : ℕ) (q : Option Request) (d : ℕ) (x : Door) → Invariant m → MayTurn m t q →
    door_of (step m t q).state d ≡ Some x → may_have_notice m d x ≡ true → falls_to_one m (step m t q).state d ≡ true →
    IsNoticed m (step m t q).state d
unfolding step
step_noticed m t q d x h may e f g = noticed m t q (step_does m t q h may) d x e f g
