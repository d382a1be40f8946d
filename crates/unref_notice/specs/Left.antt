-- Which notices an exit path changes, as whoever calls it tells.
use Rattle.std.specs.Prelude.{ℕ, ◌≡◌, ◌==◌, ◌||◌, Bool, true, false, if◌then◌else◌, not, List, Option, None, Some, slice_get}
use Rattle.std.specs.List.{list_any}
use Rattle.dk_base.specs.declared.object.Item.{Item}
use Rattle.dk_base.specs.declared.object.Item.TheVariants as item
use Rattle.dk_base.specs.ByNumber.{at_number}
use Rattle.spec_records.specs.declared.record.Door.{Door}
use Rattle.spec_records.specs.declared.record.Notice.{Notice}
use Rattle.spec_records.specs.Words.{Leaving, has_many, is_notice_entered_by, left_notice}

-- who leaves, and the doors that there are
pub record ExitPath : Type 0 where
  pub who : Leaving
  pub doors : List Door

-- this item is notice n
abbrev pub is_notice_item : ℕ → Item → Bool
is_notice_item n (item.Notice m) = n == m
is_notice_item n _ = false

-- the number of the notice that an item is
abbrev pub noticed_by : Item → Option ℕ
noticed_by (item.Notice n) = Some n
noticed_by _ = None

abbrev pub is_notice_as : Item → Notice → Bool
is_notice_as i x = is_notice_item x.number i

abbrev pub is_among : List Item → Notice → Bool
is_among items x = list_any (is_notice_item x.number) items

-- where threads end and doors are lost, all notices but those among these items stay as they are
abbrev pub AreAllLeft : Leaving → List Item → List Notice → Type 0
AreAllLeft who items notices =
    (i : ℕ) (x : Notice) → slice_get notices i ≡ Some x → is_among items x ≡ false → left_notice who x ≡ x

-- a thread that serves this item, if any, has entered no other notice
abbrev pub IsAllEntered : Option Item → ℕ → List Notice → Type 0
IsAllEntered serves t notices =
    (i : ℕ) (x : Notice) → slice_get notices i ≡ Some x → is_notice_entered_by t x ≡ true → serves ≡ Some (item.Notice x.number)

-- whether a door may have more than one notice ever
abbrev pub takes_many_in : List Door → ℕ → Bool
takes_many_in doors d = has_many (at_number doors d)

-- the notices among these items, changed, and those of them kept that are to be

abbrev pub left_among : Leaving → List Item → Notice → Notice
left_among who items x = if is_among items x then left_notice who x else x

abbrev pub is_kept_among : (Notice → Bool) → List Item → Notice → Bool
is_kept_among kept items x = not (is_among items x) || kept x
