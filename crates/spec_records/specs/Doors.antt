-- Doors, numbered from 1 by their places: what door_create(3C) makes, which are valid, their parameters (door_getparam(3C),
-- door_setparam(3C)) and what door_info(3C) tells of them.
use Rattle.std.specs.Prelude.{ℕ, ◌≡◌, ◌+◌, ◌++◌, [], ◌∷◌, List, Option, Bool, false, true, ◌==◌, ◌&&◌, ◌||◌, not, if◌then◌else◌, Some, None, bit_and, bit_or, filter, length, map, nat_lt}
use Rattle.std.specs.List.{list_any}
use Rattle.dk_base.specs.declared.answer.DoorInfo.{DoorInfo}
use Rattle.dk_base.specs.declared.error.Errno.TheVariants.{E2BIG, EBADF, EINVAL, ENFILE, ENOBUFS, ENOTSUP, EPERM}
use Rattle.dk_base.specs.declared.limits.TheConstants.{DATA_MAX, PASS_MAX}
use Rattle.dk_base.specs.declared.number.Pid.{Pid}
use Rattle.dk_base.specs.declared.request.Param.{Param}
use Rattle.dk_base.specs.declared.request.Param.TheVariants as param
use Rattle.dk_base.specs.declared.set.Attrs.{Attrs}
use Rattle.dk_base.specs.declared.set.TheConstants.Attrs.{UNREF, UNREF_MULTI, PRIVATE, LOCAL, REVOKED, IS_UNREF, REFUSE_DESC, NO_CANCEL}
use Rattle.dk_base.specs.ByNumber.{at_number, with_at_number}
use Rattle.spec_records.specs.declared.record.Door.{Door}
use Rattle.dk_base.specs.Numbers.{pid}
use Rattle.spec_records.specs.Refusals.{Test, refused_where}

-- attributes

abbrev pub has_attributes : Attrs → Attrs → Bool
has_attributes a wanted = bit_and a.0 wanted.0 == wanted.0

abbrev pub is_private : Attrs → Bool
is_private a = has_attributes a PRIVATE

abbrev pub has_no_cancel : Attrs → Bool
has_no_cancel a = has_attributes a NO_CANCEL

abbrev pub has_unref_multi : Attrs → Bool
has_unref_multi a = has_attributes a UNREF_MULTI

-- a notice is to be made where the last reference but one goes
abbrev pub takes_notices : Attrs → Bool
takes_notices a = has_attributes a UNREF || has_unref_multi a

abbrev pub refuses_descriptors : Attrs → Bool
refuses_descriptors a = has_attributes a REFUSE_DESC

-- attributes that door_info(3C) tells and door_create(3C) refuses
abbrev pub has_told_attributes : Attrs → Bool
has_told_attributes a = has_attributes a LOCAL || (has_attributes a REVOKED || has_attributes a IS_UNREF)

-- creation

-- the most descriptors of a call, as a door is made
abbrev pub first_desc_max : Attrs → ℕ
first_desc_max a = if refuses_descriptors a then 0 else 2147483647

-- a door of a process, as it is made
abbrev pub new_door : ℕ → ℕ → ℕ → ℕ → Attrs → Door
new_door number p entry cookie attrs =
    record {
      number = number;
      owner = pid p;
      entry = entry;
      cookie = cookie;
      attrs = attrs;
      data_max = 18446744073709551615;
      data_min = 0;
      desc_max = first_desc_max attrs;
      revoked = false;
      owner_ended = false;
    }

abbrev pub with_door : List Door → ℕ → ℕ → ℕ → Attrs → List Door
with_door doors p entry cookie attrs = doors ++ new_door (length doors + 1) p entry cookie attrs ∷ []

-- a door becomes another
abbrev pub change_door_in : List Door → ℕ → (Door → Door) → Option Door → List Door
change_door_in doors d change None = doors
change_door_in doors d change (Some x) = with_at_number doors d (change x)

abbrev pub change_door : List Door → ℕ → (Door → Door) → List Door
change_door doors d change = change_door_in doors d change (at_number doors d)

-- validity

-- a door is valid where it is not revoked and its owner has not ended
abbrev pub is_valid_door : Door → Bool
is_valid_door d = not d.revoked && not d.owner_ended

abbrev pub is_valid_in : Option Door → Bool
is_valid_in None = false
is_valid_in (Some d) = is_valid_door d

abbrev pub entry_of : Option Door → ℕ
entry_of None = 0
entry_of (Some d) = d.entry

abbrev pub cookie_of : Option Door → ℕ
cookie_of None = 0
cookie_of (Some d) = d.cookie

abbrev pub is_private_in : Option Door → Bool
is_private_in None = false
is_private_in (Some d) = is_private d.attrs

abbrev pub no_cancel_of : Option Door → Bool
no_cancel_of None = false
no_cancel_of (Some d) = has_no_cancel d.attrs

abbrev pub is_owned_by : ℕ → Option Door → Bool
is_owned_by p None = false
is_owned_by p (Some d) = d.owner.0 == p

-- the doors of a process that ends
abbrev pub with_owner_ended : ℕ → Door → Door
with_owner_ended p d = if d.owner.0 == p then record d { owner_ended = true } else d

abbrev pub end_owner : List Door → ℕ → List Door
end_owner doors p = map (with_owner_ended p) doors

abbrev pub revoked_door : Door → Door
revoked_door d = record d { revoked = true }

abbrev pub revoke_door : List Door → ℕ → List Door
revoke_door doors d = change_door doors d revoked_door

-- door_revoke(3C) by process p, where a door is named: EBADF for none or an invalid one, EPERM
abbrev pub revoke_tests : ℕ → Option Door → List Test
revoke_tests p o = refused_where (not (is_valid_in o)) EBADF ∷ refused_where (not (is_owned_by p o)) EPERM ∷ []

-- door_bind(3C) by a thread of process p, where a door is named: EBADF for none or an invalid one, EINVAL for one that is not
-- private or is another process's
abbrev pub bind_tests : ℕ → Option Door → List Test
bind_tests p o = refused_where (not (is_valid_in o)) EBADF ∷ refused_where (not (is_private_in o && is_owned_by p o)) EINVAL ∷ []

-- the doors without private that a process ever made, valid or not: its common pool serves them

abbrev pub is_common_of : ℕ → Door → Bool
is_common_of p d = (d.owner.0 == p) && not (is_private d.attrs)

abbrev pub has_common_door : List Door → ℕ → Bool
has_common_door doors p = list_any (is_common_of p) doors

-- the limits of door_call(3C)

abbrev pub has_refused_size : ℕ → Option Door → Bool
has_refused_size size None = false
has_refused_size size (Some d) = nat_lt d.data_max size || nat_lt size d.data_min

abbrev pub refuses_descriptors_in : Option Door → Bool
refuses_descriptors_in None = false
refuses_descriptors_in (Some d) = refuses_descriptors d.attrs

abbrev pub has_too_many : ℕ → Option Door → Bool
has_too_many descriptors None = false
has_too_many descriptors (Some d) = nat_lt d.desc_max descriptors

-- a call of so many bytes and descriptors, where a door is named: EBADF for none or an invalid one, ENOBUFS, ENOTSUP,
-- ENFILE, E2BIG
abbrev pub limit_tests : Option Door → ℕ → ℕ → List Test
limit_tests o size descriptors =
    refused_where (not (is_valid_in o)) EBADF
    ∷ refused_where (has_refused_size size o) ENOBUFS
    ∷ refused_where (nat_lt 0 descriptors && refuses_descriptors_in o) ENOTSUP
    ∷ refused_where (has_too_many descriptors o) ENFILE
    ∷ refused_where (nat_lt DATA_MAX size || nat_lt PASS_MAX descriptors) E2BIG
    ∷ []

-- parameters

abbrev pub param_of : Param → Door → ℕ
param_of param.DataMax d = d.data_max
param_of param.DataMin d = d.data_min
param_of param.DescMax d = d.desc_max

abbrev pub param_in : Param → Option Door → ℕ
param_in x None = 0
param_in x (Some d) = param_of x d

abbrev pub with_param : Param → ℕ → Door → Door
with_param param.DataMax value d = record d { data_max = value }
with_param param.DataMin value d = record d { data_min = value }
with_param param.DescMax value d = record d { desc_max = value }

abbrev pub set_param : List Door → ℕ → Param → ℕ → List Door
set_param doors d x value = change_door doors d (with_param x value)

abbrev pub is_of_descriptors : Param → Bool
is_of_descriptors param.DescMax = true
is_of_descriptors _ = false

-- the least size of a call is above the greatest
abbrev pub has_no_size : Door → Bool
has_no_size d = nat_lt d.data_max d.data_min

abbrev pub would_have_no_size : Param → ℕ → Option Door → Bool
would_have_no_size x value None = false
would_have_no_size x value (Some d) = has_no_size (with_param x value d)

-- door_setparam(3C) by process p, where a door is named: EBADF for none or an invalid one, EPERM, ENOTSUP, EINVAL
abbrev pub set_param_tests : ℕ → Option Door → Param → ℕ → List Test
set_param_tests p o x value =
    refused_where (not (is_valid_in o)) EBADF
    ∷ refused_where (not (is_owned_by p o)) EPERM
    ∷ refused_where (is_of_descriptors x && (not (value == 0) && refuses_descriptors_in o)) ENOTSUP
    ∷ refused_where (would_have_no_size x value o) EINVAL
    ∷ []

-- information

-- the process that serves a door
abbrev pub target_of : Door → Option Pid
target_of d = if d.owner_ended then None else Some d.owner

abbrev pub attributes_where : Bool → Attrs → ℕ
attributes_where holds a = if holds then a.0 else 0

-- those of creation, DOOR_LOCAL for its own process, DOOR_REVOKED, DOOR_IS_UNREF where one reference is left
abbrev pub told_attributes : ℕ → ℕ → Door → Attrs
told_attributes p refs d =
    record {
      0 =
          bit_or
          d.attrs.0
          (bit_or
          (attributes_where (d.owner.0 == p) LOCAL)
          (bit_or (attributes_where d.revoked REVOKED) (attributes_where (refs == 1) IS_UNREF)));
    }

-- what process p is told of a door that has so many references
abbrev pub info_of : ℕ → ℕ → Door → DoorInfo
info_of p refs d =
    record {
      target = target_of d;
      entry = d.entry;
      cookie = d.cookie;
      attrs = told_attributes p refs d;
      unique = d.number;
    }

-- of a number that no door has nothing is told
abbrev pub no_info : DoorInfo
no_info = record { target = None; entry = 0; cookie = 0; attrs = record { 0 = 0 }; unique = 0 }

abbrev pub info_in : ℕ → ℕ → Option Door → DoorInfo
info_in p refs None = no_info
info_in p refs (Some d) = info_of p refs d

-- the doors of a process that are valid, in order

abbrev pub is_valid_of : ℕ → Door → Bool
is_valid_of p d = (d.owner.0 == p) && is_valid_door d

abbrev pub number_of_door : Door → ℕ
number_of_door d = d.number

-- the number of each door is its place
abbrev pub AreNumbered : List Door → Type 0
AreNumbered doors = (d : ℕ) (x : Door) → at_number doors d ≡ Some x → x.number ≡ d

abbrev pub valid_doors_of : ℕ → List Door → List ℕ
valid_doors_of p doors = map number_of_door (filter (is_valid_of p) doors)

-- the doors of which notices can be made, in order

abbrev pub is_notice_door : Door → Bool
is_notice_door d = takes_notices d.attrs

abbrev pub takes_notices_in : Option Door → Bool
takes_notices_in None = false
takes_notices_in (Some d) = is_notice_door d

abbrev pub notice_doors : List Door → List ℕ
notice_doors doors = map number_of_door (filter is_notice_door doors)
