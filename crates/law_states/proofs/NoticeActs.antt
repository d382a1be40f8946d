-- The acts that change a notice: an accept of one, and the Return of the thread that has entered one.
use Rattle.std.specs.Prelude.{ℕ, ◌≡◌, List, [], ◌∷◌, Option, Bool, true, Some, None, is_some}
use Rattle.std.specs.List.{list_any}
use Rattle.std.proofs.Common.{refl, ap, ◌∙◌}
use native.Mathlib.Omega.{arith}
use Rattle.std.proofs.lemmas.Bool.Decides.{nat_tests}
use Rattle.dk_base.specs.declared.object.Item.TheVariants as item
use Rattle.spec_records.proofs.NumberedLists.{find-as, find-none, find-number, find-passes}
use Rattle.spec_kernel.specs.Types.{Answer, Inv, Notice, NoticeStage, Obj, Request, ThreadState}
use Rattle.spec_records.specs.declared.record.ThreadState.TheVariants as is
use Rattle.spec_records.specs.declared.record.NoticeStage.TheVariants as notice
use Rattle.spec_records.specs.Words.{ProcessTable, change_first, is_given_notice_as, is_notice_entered_by, is_notice_of, notice_at, notice_number, tid}
use Rattle.spec_kernel.specs.Words.{State, begin_notice, find_notice, invocation_of, state_of}
pub use Rattle.spec_kernel.proofs.Moves.{given_notice_is}
use Rattle.spec_kernel.proofs.Moves.{AcceptsNotice}
use Rattle.law_states.specs.Records.{item_in, notice_of}
use Rattle.law_states.specs.Core.{core, notice_in}
use Rattle.law_states.specs.Coherent.{IsCoherent}
use Rattle.law_states.specs.Invariant.{IsConsistent}
use Rattle.law_states.specs.Arrows.{NoticeByAct}
use Rattle.law_states.specs.Arrows.ByAct.{stays}
use Rattle.law_states.specs.Arrows.NoticeByAct.{stays as notice_stays, enters as notice_enters}
use Rattle.law_states.proofs.NoticeMoves.{enter_notice_keeps}
use Rattle.law_states.proofs.Cores.{Turns, at_one, enter_thread-turns, upd}
use Rattle.law_states.proofs.Consistent.{AreTables, after_act, moved-notice, moved_list, notice_consistent, notice_found, same_tables, there}
use Rattle.law_states.proofs.Acts.{Does, act_result}

pub entered_notice_is : (t : ℕ) (x : Notice) → is_notice_entered_by t x ≡ true → x.stage ≡ notice.Entered (tid t)
entered_notice_is t x e = grind (arith, nat_tests)

-- a thread that has entered a call has entered no notice
pub none_entered : (m : State) (t c : ℕ) → IsConsistent m → item_in (invocation_of m t) ≡ Some (item.Call c) → find_notice m (is_notice_entered_by t) ≡ None
none_entered m t c h e =
    let entered = λ (x : Notice) (f : find_notice m (is_notice_entered_by t) ≡ Some x).
    h.coherent.notices_entered.notice_entered x.number t
    (ap notice_in (notice_found m (is_notice_entered_by t) x h f)
    ∙ ap (λ s. Some s) (entered_notice_is t x (find-passes (is_notice_entered_by t) m.notice_list.notices x f)))
    in
    grind (arith, entered)

-- and where none is found, it serves none
pub no_entered : (m : State) (t n : ℕ) → IsConsistent m → find_notice m (is_notice_entered_by t) ≡ None → item_in (invocation_of m t) ≡ Some (item.Notice n) → ⊥
no_entered m t n h f e = go (notice_of m n) refl (h.coherent.notices_entered.notice_entered_back n t e)
  where
    go : (o : Option Notice) → notice_of m n ≡ o → notice_in o ≡ Some (notice.Entered (tid t)) → ⊥
    go None g i = grind arith
    go (Some x) g i = grind (arith, nat_tests, find-none notice_number (is_notice_entered_by t) m.notice_list.notices n x f g)

-- the doors of notices stay where the first that meets a test is changed
pub door_had :
    (test : Notice → Bool) (change : Notice → Notice) → ((x : Notice) → (change x).door ≡ x.door) → (d : ℕ) (xs : List Notice) →
    list_any (is_notice_of d) (change_first test change xs) ≡ list_any (is_notice_of d) xs
door_had test change same d [] = refl
door_had test change same d (x ∷ xs) = grind (arith, same x, door_had test change same d xs)

-- an act that changes a thread, tables, and the stage of the notice that a test finds
pub does_notice :
    (test : Notice → Bool) (z : NoticeStage) (m : State) (t : ℕ) (q : Option Request) (a : Answer) (table : ProcessTable)
    (tables : List (List (Option Obj))) (s : ThreadState) (serves : ℕ → Option Inv) (x : Notice) → IsConsistent m → AreTables m tables →
    Turns m.process_table table t s serves → find_notice m test ≡ Some x →
    IsCoherent
    (record (core m) { role = upd (core m).role t s; serves = serves; notice = upd (core m).notice x.number (Some z) }) →
    NoticeByAct m t q a (after_act m table tables m.call_tree (moved_list m.notice_list test z)) (Some x) (Some (notice_at z x)) →
    Does m t q (act_result (after_act m table tables m.call_tree (moved_list m.notice_list test z)) a)
does_notice test z m t q a table tables s serves x h rows g f k b =
    record {
      consistent = notice_consistent test z m x h f t table tables s serves rows g k;
      arrows = λ c. stays;
      notices =
          at_one (NoticeByAct m t q a (after_act m table tables m.call_tree (moved_list m.notice_list test z))) (λ o. notice_stays) x.number
          (notice_at z x) (Some x) (notice_of m) _ (moved-notice test z m x h f) (notice_found m test x h f) b;
      kept =
          record {
            none_made = λ c e. grind (arith, nat_tests, moved-notice test z m x h f c, notice_found m test x h f);
            had = λ d. door_had test (notice_at z) (λ y. refl) d m.notice_list.notices;
          };
    }

-- a thread accepts the notice that it was given
pub begin_notice_does : (m : State) (t : ℕ) (x : Notice) → IsConsistent m → AcceptsNotice m t x → Does m t None (begin_notice m t x.number x)
begin_notice_does m t x h a =
    let g : state_of m t ≡ is.Given (item.Notice x.number) = a.given in
    does_notice (is_given_notice_as x.number t) (notice.Entered (tid t)) m t None _ _ m.tables is.Running _ x h
    (same_tables m h)
    (enter_thread-turns m.process_table t (item.Notice x.number) (there m t (λ z. grind arith)))
    a.found
    (enter_notice_keeps (core m) t x.number h.coherent g)
    (notice_enters x refl g a.stage refl)

-- the notice that a thread was given is found
pub given_notice_found :
    (m : State) (t c : ℕ) → IsConsistent m → state_of m t ≡ is.Given (item.Notice c) → is_some (find_notice m (is_given_notice_as c t)) ≡ true
given_notice_found m t c h e = go (notice_of m c) refl
  where
    go : (o : Option Notice) → notice_of m c ≡ o → is_some (find_notice m (is_given_notice_as c t)) ≡ true
    go None f = grind (arith, h.coherent.notices_given.notice_given_back c t e)
    go (Some x) f =
        let n : x.number ≡ c = find-number notice_number m.notice_list.notices c x f in
        let given : x.stage ≡ notice.Given (tid t) = grind (arith, h.coherent.notices_given.notice_given_back c t e) in
        ap is_some (find-as notice_number (is_given_notice_as c t) m.notice_list.notices c x (λ y g. grind (arith, nat_tests)) f (grind (arith, nat_tests)))
