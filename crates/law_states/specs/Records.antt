-- What a state has of a call and of an invocation, answered or not.
use Rattle.std.specs.Prelude.{ℕ, Option, Bool, ◌==◌, Some, None, find}
use Rattle.spec_kernel.specs.Types.{Call, CallStage, Door, Inv, Item, Notice}
use Rattle.spec_kernel.specs.Words.{State, door_of, invocation_of}

abbrev pub has_number : ℕ → Call → Bool
has_number c r = r.number == c

-- the record of a call, answered or not
abbrev pub record_of : State → ℕ → Option Call
record_of m c = find (has_number c) m.call_tree.calls

abbrev pub stage_in : Option Call → Option CallStage
stage_in None = None
stage_in (Some r) = Some r.stage

abbrev pub stage_of : State → ℕ → Option CallStage
stage_of m c = stage_in (record_of m c)

-- the record of a notice, past or not

abbrev pub has_notice_number : ℕ → Notice → Bool
has_notice_number n x = x.number == n

abbrev pub notice_of : State → ℕ → Option Notice
notice_of m n = find (has_notice_number n) m.notice_list.notices

abbrev pub owner_in : Option Door → Option ℕ
owner_in None = None
owner_in (Some d) = Some d.owner.0

abbrev pub door_at : State → Option Call → Option Door
door_at m None = None
door_at m (Some r) = door_of m r.door

-- the door of a call
abbrev pub door_of_call : State → ℕ → Option Door
door_of_call m c = door_at m (record_of m c)

-- the process that made the door of a call
abbrev pub owner_of_call : State → ℕ → Option ℕ
owner_of_call m c = owner_in (door_of_call m c)

abbrev pub item_in : Option Inv → Option Item
item_in None = None
item_in (Some v) = Some v.item

-- what a thread's invocation is of
abbrev pub item_of : State → ℕ → Option Item
item_of m t = item_in (invocation_of m t)
