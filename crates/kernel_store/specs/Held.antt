-- The items that threads have: each was given one, or is in the invocation of one.
use Rattle.std.specs.Prelude.{ℕ, ◌≡◌, ◌≤◌, ◌||◌, true, List, Option, Some, slice_get}
use Rattle.std.specs.List.{list_any}
use Rattle.dk_base.specs.declared.object.Item.TheVariants as item
use Rattle.spec_records.specs.declared.record.ThreadState.TheVariants as is
use Rattle.spec_records.specs.Words.{Leaving, ProcessTable, invocation_in, is_entered_stage, is_given_stage, state_in, thread_at}
use Rattle.spec_kernel.specs.Types.{Inv, Item, Notice, ThreadState}
use Rattle.spec_kernel.specs.Words.{State}
use Rattle.law_states.specs.Records.{item_in}
use Rattle.unref_notice.specs.Words.{is_notice_item}

abbrev pub held_as : ThreadState → Option Inv → Option Item
held_as (is.Given i) v = Some i
held_as _ v = item_in v

abbrev pub held_at : ProcessTable → ℕ → Option Item
held_at table t = held_as (state_in (thread_at table t)) (invocation_in (thread_at table t))

-- a notice that was given to a thread, or that one has entered, is what the thread has
abbrev pub AreHeldIn : ProcessTable → List Notice → Type 0
AreHeldIn table notices =
    (i t : ℕ) (x : Notice) → slice_get notices i ≡ Some x → (is_given_stage t x.stage || is_entered_stage t x.stage) ≡ true →
    held_at table t ≡ Some (item.Notice x.number)

abbrev pub AreHeld : State → Type 0
AreHeld m = AreHeldIn m.process_table m.notice_list.notices

-- the notices that these threads have are among these items, of the threads up to n
abbrev pub TellsHeld : Leaving → ProcessTable → ℕ → List Item → Type 0
TellsHeld who table n items =
    (t c : ℕ) → t ≤ n → who.ends t ≡ true → held_at table t ≡ Some (item.Notice c) → list_any (is_notice_item c) items ≡ true
