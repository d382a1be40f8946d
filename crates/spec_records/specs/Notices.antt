-- Unreferenced notices (door_create(3C)), in the order in which they were made. A notice is looked up by its stage, with its number or
-- its thread. A writer moves the first such notice to its next stage; where there is none it changes nothing.
use Rattle.std.specs.Prelude.{ℕ, ◌+◌, ◌++◌, List, [], ◌∷◌, Option, Bool, true, false, Some, None, ◌==◌, ◌&&◌, ◌||◌, not, filter}
use Rattle.std.specs.List.{list_any}
use Rattle.dk_base.specs.ByNumber.{at_number}
use Rattle.spec_records.specs.declared.record.Door.{Door}
use Rattle.spec_records.specs.declared.record.Notice.{Notice}
use Rattle.spec_records.specs.declared.record.NoticeStage.{NoticeStage}
use Rattle.spec_records.specs.declared.record.NoticeStage.TheVariants.{Waiting, Given, Entered, Over, Dropped}
use Rattle.spec_records.specs.Doors.{has_unref_multi, is_valid_door, takes_notices}
use Rattle.spec_records.specs.Lists.{change_first}
use Rattle.dk_base.specs.Numbers.{tid}

-- how many notices were made, and their records
pub record NoticeList : Type 0 where
  pub made : ℕ
  pub notices : List Notice

-- stages

abbrev pub is_waiting_stage : NoticeStage → Bool
is_waiting_stage Waiting = true
is_waiting_stage _ = false

abbrev pub is_given_stage : ℕ → NoticeStage → Bool
is_given_stage t (Given u) = u.0 == t
is_given_stage t _ = false

abbrev pub is_entered_stage : ℕ → NoticeStage → Bool
is_entered_stage t (Entered u) = u.0 == t
is_entered_stage t _ = false

-- over, or dropped before a thread took it
abbrev pub is_past_stage : NoticeStage → Bool
is_past_stage Over = true
is_past_stage Dropped = true
is_past_stage _ = false

abbrev pub is_waiting_notice : Notice → Bool
is_waiting_notice n = is_waiting_stage n.stage

abbrev pub notice_at : NoticeStage → Notice → Notice
notice_at s n = record n { stage = s }

-- look-ups

abbrev pub notice_number : Notice → ℕ
notice_number n = n.number

abbrev pub is_waiting_notice_as : ℕ → Notice → Bool
is_waiting_notice_as c n = (n.number == c) && is_waiting_stage n.stage

abbrev pub is_given_notice_as : ℕ → ℕ → Notice → Bool
is_given_notice_as c t n = (n.number == c) && is_given_stage t n.stage

abbrev pub is_notice_entered_by : ℕ → Notice → Bool
is_notice_entered_by t n = is_entered_stage t n.stage

abbrev pub is_notice_of : ℕ → Notice → Bool
is_notice_of d n = n.door == d

-- a door ever had a notice
abbrev pub has_notice : NoticeList → ℕ → Bool
has_notice list d = list_any (is_notice_of d) list.notices

-- the next stage

-- as it is made, at this event
abbrev pub new_notice : ℕ → ℕ → ℕ → Notice
new_notice number made d = record { number = number; made = made; door = d; stage = Waiting }

abbrev pub make_notice : NoticeList → ℕ → ℕ → NoticeList
make_notice list now d = record { made = list.made + 1; notices = list.notices ++ new_notice (list.made + 1) now d ∷ [] }

abbrev pub give_notice : NoticeList → ℕ → ℕ → NoticeList
give_notice list c u = record list { notices = change_first (is_waiting_notice_as c) (notice_at (Given (tid u))) list.notices }

abbrev pub enter_notice : NoticeList → ℕ → ℕ → NoticeList
enter_notice list c t = record list { notices = change_first (is_given_notice_as c t) (notice_at (Entered (tid t))) list.notices }

-- the notice that a thread has entered is over; where it has entered none nothing changes
abbrev pub end_notice : NoticeList → ℕ → NoticeList
end_notice list t = record list { notices = change_first (is_notice_entered_by t) (notice_at Over) list.notices }

-- Of which doors one can be made: a door that is valid and takes notices, where it had one or not. A door without DOOR_UNREF_MULTI has
-- at most one ever.

abbrev pub may_take_notice : Bool → Door → Bool
may_take_notice had d = takes_notices d.attrs && is_valid_door d && (has_unref_multi d.attrs || not had)

abbrev pub may_take_notice_in : Bool → Option Door → Bool
may_take_notice_in had None = false
may_take_notice_in had (Some d) = may_take_notice had d

-- What a kernel keeps: a notice that is past is asked for again only of a door that has at most one, by whether it had it.

abbrev pub has_many : Option Door → Bool
has_many None = false
has_many (Some d) = has_unref_multi d.attrs

abbrev pub is_kept_notice : List Door → Notice → Bool
is_kept_notice doors n = not (is_past_stage n.stage && has_many (at_number doors n.door))

abbrev pub kept_notices : List Door → NoticeList → NoticeList
kept_notices doors list = record list { notices = filter (is_kept_notice doors) list.notices }
