use Rattle.std.proofs.Common.{◌≡◌, ◌≤◌, ℕ, List, filter, map, take}
use Rattle.std.specs.VecDeque.{deque_capacity, deque_len}
use Rattle.spec_records.specs.declared.record.Door.{Door}
use Rattle.spec_records.specs.Words.{AnswersAs, IsAscending, is_kept_notice, notice_number}
use Rattle.unref_notice.specs.DoorCounts.{CountsDoors, door_in}
use Rattle.unref_notice.specs.Left.{is_kept_among, takes_many_in}
use Rattle.unref_notice.proofs.leave.keep.Given as goal

abbrev pub invariant-loop-item : goal.invariant-loop-item
invariant-loop-item g l = record {
  items :
      (doors : List Door) → AnswersAs (goal.M-post g l.takes_many) (takes_many_in doors) →
      l.notices.items ≡ filter (is_kept_among (is_kept_notice doors) (take l.item-index l.items)) l.initial.notices.items;
  order : (made : ℕ) → IsAscending notice_number 0 made l.initial.notices.items → IsAscending notice_number 0 made l.notices.items;
  counted : CountsDoors l.initial.of_doors.entries (map door_in l.initial.notices.items) → CountsDoors l.of_doors.entries (map door_in l.notices.items);
  spare : l.initial.of_doors.spare ≤ l.of_doors.spare;
  fewer : deque_len l.notices ≤ deque_len l.initial.notices;
  capacity : deque_capacity l.notices ≡ deque_capacity l.initial.notices;
}
