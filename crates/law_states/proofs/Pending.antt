-- The items that wait in a state: each is a call that is queued or a notice that waits, and no two are the same.
use Rattle.std.specs.Prelude.{ℕ, ◌≡◌, ◌<◌, ◌≤◌, List, [], ◌∷◌, Bool, true, false, if◌then◌else◌, Some, filter, find, map, nat_le}
use Rattle.std.proofs.Common.{sym, ap, ◌∙◌, inl, inr, ⊎_elim}
use native.Mathlib.Omega.{arith}
use Rattle.dk_base.specs.declared.object.Item.TheVariants as item
use Rattle.spec_records.specs.declared.record.CallStage.TheVariants as stage
use Rattle.spec_records.specs.declared.record.NoticeStage.TheVariants as notice
use Rattle.spec_records.specs.Words.{IsAscending, IsCounted, call_number, is_numbered, is_queued_call, is_waiting_notice, notice_number, waiting_call, waiting_notice, with_notice, with_notices}
use Rattle.spec_records.proofs.NumberedLists.{ascending-filter, counted-ascending, find-slice_get}
use Rattle.spec_kernel.specs.Types.{Call, Item, Notice, Waiting}
use Rattle.spec_kernel.specs.Words.{State, waiting_items}
use Rattle.spec_kernel.proofs.Places.{IsIn, place_of}
use Rattle.spec_kernel.proofs.Waits.{from_waits}
use Rattle.law_states.specs.Records.{notice_of, record_of}
use Rattle.law_states.specs.Invariant.{IsConsistent}

pub data IsPendingItem (m : State) (w : Waiting) : Type 0 where
  a_call : (r : Call) → w ≡ waiting_call r → record_of m r.number ≡ Some r → r.stage ≡ stage.Queued → IsPendingItem m w
  a_notice : (x : Notice) → w ≡ waiting_notice x → notice_of m x.number ≡ Some x → x.stage ≡ notice.Waiting → IsPendingItem m w

abbrev pub AreOthers : Item → List Waiting → Type 0
AreOthers i [] = Unit {0}
AreOthers i (w ∷ ws) = (w.item ≡ i → ⊥) × AreOthers i ws

abbrev pub AreDistinct : List Waiting → Type 0
AreDistinct [] = Unit {0}
AreDistinct (w ∷ ws) = AreOthers w.item ws × AreDistinct ws

pub record Pending (m : State) (ws : List Waiting) : Type 0 where
  pub waits : (v : Waiting) → IsIn v ws → IsPendingItem m v
  pub distinct : AreDistinct ws

pub others_are : (i : Item) (ws : List Waiting) (v : Waiting) → AreOthers i ws → IsIn v ws → v.item ≡ i → ⊥
others_are i [] v o k e = k
others_are i (w ∷ ws) v o (inl k) e = o.0 (ap (λ (u : Waiting). u.item) (sym k) ∙ e)
others_are i (w ∷ ws) v o (inr k) e = others_are i ws v o.1 k e

pub calls_ascend : (m : State) → IsConsistent m → IsAscending call_number 0 m.call_tree.made m.call_tree.calls
calls_ascend m h = counted-ascending call_number m.call_tree.calls 0 m.call_tree.made h.in_order (omega (arith, h.counted))

pub notices_ascend : (m : State) → IsConsistent m → IsAscending notice_number 0 m.notice_list.made m.notice_list.notices
notices_ascend m h =
    counted-ascending notice_number m.notice_list.notices 0 m.notice_list.made h.notices_in_order (omega (arith, h.notices_counted))

-- calls

call_others :
    (c low made : ℕ) (rs : List Call) → c ≤ low → IsAscending call_number low made rs → AreOthers (item.Call c) (map waiting_call rs)
call_others c low made [] l a = tt
call_others c low made (r ∷ rs) l a = (λ e. grind (arith, a.0), call_others c r.number made rs (grind (arith, a.0)) a.2)

calls_distinct : (low made : ℕ) (rs : List Call) → IsAscending call_number low made rs → AreDistinct (map waiting_call rs)
calls_distinct low made [] a = tt
calls_distinct low made (r ∷ rs) a = (call_others r.number r.number made rs (grind arith) a.2, calls_distinct r.number made rs a.2)

no_notice : (n : ℕ) (rs : List Call) → AreOthers (item.Notice n) (map waiting_call rs)
no_notice n [] = tt
no_notice n (r ∷ rs) = (λ e. grind arith, no_notice n rs)

-- and notices among them

others_with : (i : Item) (ws : List Waiting) (n : Waiting) → (n.item ≡ i → ⊥) → AreOthers i ws → AreOthers i (with_notice ws n)
others_with i [] n e h = (e, tt)
others_with i (w ∷ ws) n e h = go (nat_le w.made n.made) (others_with i ws n e h.1)
  where
    go : (b : Bool) → AreOthers i (with_notice ws n) → AreOthers i (if b then w ∷ with_notice ws n else n ∷ w ∷ ws)
    go true ih = (h.0, ih)
    go false ih = (e, h)

distinct_with : (ws : List Waiting) (n : Waiting) → AreOthers n.item ws → AreDistinct ws → AreDistinct (with_notice ws n)
distinct_with [] n o h = (tt, tt)
distinct_with (w ∷ ws) n o h = go (nat_le w.made n.made) (distinct_with ws n o.1 h.1)
  where
    go : (b : Bool) → AreDistinct (with_notice ws n) → AreDistinct (if b then w ∷ with_notice ws n else n ∷ w ∷ ws)
    go true ih = (others_with w.item ws n (λ e. o.0 (sym e)) h.0, ih)
    go false ih = (o, h)

-- each has a greater number than those among the items before it
notices_distinct :
    (low made : ℕ) (xs : List Notice) (ws : List Waiting) → IsAscending notice_number low made xs →
    ((n : ℕ) → low < n → AreOthers (item.Notice n) ws) → AreDistinct ws → AreDistinct (with_notices ws (map waiting_notice xs))
notices_distinct low made [] ws a l h = h
notices_distinct low made (x ∷ xs) ws a l h =
    notices_distinct x.number made xs (with_notice ws (waiting_notice x)) a.2
    (λ n g. others_with (item.Notice n) ws (waiting_notice x) (λ e. grind arith) (l n (omega (arith, a.0, g))))
    (distinct_with ws (waiting_notice x) (l x.number a.0) h)

-- a record of a list is found by its number
found_in :
    {X : Type 0} (number : X → ℕ) (xs : List X) (x : X) → IsCounted number 0 xs → IsIn x xs → find (is_numbered number (number x)) xs ≡ Some x
found_in number xs x h k = let p = place_of x xs k in find-slice_get number xs 0 p.0 x h p.1

pub all_pending : (m : State) → IsConsistent m → Pending m (waiting_items m)
all_pending m h =
    record {
      waits =
          λ v k. ⊎_elim
          (λ r. a_call r.0 r.1.same (found_in call_number m.call_tree.calls r.0 h.in_order r.1.is_in) (grind (arith, r.1.queued)))
          (λ x. a_notice x.0 x.1.same (found_in notice_number m.notice_list.notices x.0 h.notices_in_order x.1.is_in) (grind (arith, x.1.waiting)))
          (from_waits m v k);
      distinct =
          notices_distinct 0 m.notice_list.made (filter is_waiting_notice m.notice_list.notices) _
          (ascending-filter notice_number is_waiting_notice m.notice_list.notices 0 m.notice_list.made (notices_ascend m h))
          (λ n l. no_notice n (filter is_queued_call m.call_tree.calls))
          (calls_distinct 0 m.call_tree.made (filter is_queued_call m.call_tree.calls)
          (ascending-filter call_number is_queued_call m.call_tree.calls 0 m.call_tree.made (calls_ascend m h)));
    }
