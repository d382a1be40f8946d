-- What a Call and a Return are refused with.
use Rattle.std.specs.Prelude.{ℕ, ◌≡◌, ◌<◌, ◌≤◌, ◌⊎◌, List, length, Option, true, false, Some, None, slice_get}
use Rattle.spec_kernel.specs.Types.{Call, Door, Errno, Obj, Pass}
use Rattle.dk_base.specs.declared.error.Errno.TheVariants.{E2BIG, EAGAIN, EBADF, EINVAL, ENFILE, ENOBUFS, ENOTSUP}
use Rattle.dk_base.specs.declared.object.Obj.TheVariants as obj
use Rattle.spec_records.specs.declared.record.CallStage.TheVariants as stage
use Rattle.spec_records.specs.Words.{tid}
use Rattle.spec_kernel.specs.Words.{State, door_of, is_valid, object_at}
use Rattle.law_states.specs.Records.{record_of}
use Rattle.law_places.specs.Counts.{calls_in_pool, has_attribute}

-- The limits of a door, by its record alone; the step's own tests are not used.

-- more bytes than the door's greatest size, or fewer than its least
abbrev pub HasRefusedSize : ℕ → Option Door → Type 0
HasRefusedSize size None = ⊥
HasRefusedSize size (Some d) = (d.data_max < size) ⊎ (size < d.data_min)

-- descriptors are passed, and the door takes none: it has the attribute DOOR_REFUSE_DESC, 64
abbrev pub RefusesPassed : ℕ → Option Door → Type 0
RefusesPassed descriptors None = ⊥
RefusesPassed descriptors (Some d) = (0 < descriptors) × (has_attribute 64 d.attrs ≡ true)

-- more descriptors than the most that the door takes
abbrev pub HasTooMany : ℕ → Option Door → Type 0
HasTooMany descriptors None = ⊥
HasTooMany descriptors (Some d) = d.desc_max < descriptors

-- Of descriptors that are passed, by a thread of process p: one names nothing, or one number is passed twice and one of the two
-- is released.
pub data CannotPass (m : State) (p : ℕ) (pass : List Pass) : Type 0 where
  not_open : (k : ℕ) (y : Pass) → slice_get pass k ≡ Some y → object_at m p y.fd ≡ None → CannotPass m p pass
  released_twice :
      (k l : ℕ) (y z : Pass) → k < l → slice_get pass k ≡ Some y → slice_get pass l ≡ Some z → y.fd ≡ z.fd →
      (y.release ≡ true) ⊎ (z.release ≡ true) → CannotPass m p pass

-- Why a Call of a thread of process p, of so many bytes and with these descriptors, is refused, by what its descriptor names: a
-- constructor for each test of door_call(3C), in their order; where one holds, those before it do not.
pub data Refusal (m : State) (p size : ℕ) (pass : List Pass) (o : Option Obj) : Errno → Type 0 where
  no_door : ((d : ℕ) → o ≡ Some (obj.Door d) → ⊥) → Refusal m p size pass o EBADF
  not_valid : (d : ℕ) → o ≡ Some (obj.Door d) → is_valid m d ≡ false → Refusal m p size pass o EBADF
  refused_size :
      (d : ℕ) → o ≡ Some (obj.Door d) → is_valid m d ≡ true → HasRefusedSize size (door_of m d) →
      Refusal m p size pass o ENOBUFS
  takes_none :
      (d : ℕ) → o ≡ Some (obj.Door d) → is_valid m d ≡ true → (HasRefusedSize size (door_of m d) → ⊥) →
      RefusesPassed (length pass) (door_of m d) → Refusal m p size pass o ENOTSUP
  too_many :
      (d : ℕ) → o ≡ Some (obj.Door d) → is_valid m d ≡ true → (HasRefusedSize size (door_of m d) → ⊥) →
      (RefusesPassed (length pass) (door_of m d) → ⊥) → HasTooMany (length pass) (door_of m d) →
      Refusal m p size pass o ENFILE
  too_long :
      (d : ℕ) → o ≡ Some (obj.Door d) → is_valid m d ≡ true → (HasRefusedSize size (door_of m d) → ⊥) →
      (RefusesPassed (length pass) (door_of m d) → ⊥) → (HasTooMany (length pass) (door_of m d) → ⊥) →
      (4096 < size) ⊎ (16 < length pass) → Refusal m p size pass o E2BIG
  cannot_pass :
      (d : ℕ) → o ≡ Some (obj.Door d) → is_valid m d ≡ true → (HasRefusedSize size (door_of m d) → ⊥) →
      (RefusesPassed (length pass) (door_of m d) → ⊥) → (HasTooMany (length pass) (door_of m d) → ⊥) → size ≤ 4096 →
      length pass ≤ 16 → CannotPass m p pass → Refusal m p size pass o EINVAL
  full_pool :
      (d : ℕ) → o ≡ Some (obj.Door d) → is_valid m d ≡ true → (HasRefusedSize size (door_of m d) → ⊥) →
      (RefusesPassed (length pass) (door_of m d) → ⊥) → (HasTooMany (length pass) (door_of m d) → ⊥) → size ≤ 4096 →
      length pass ≤ 16 → (CannotPass m p pass → ⊥) → 32 ≤ calls_in_pool m d →
      Refusal m p size pass o EAGAIN

-- thread t has a client: it has entered a call that its caller has not left
pub record HasClient (m : State) (t : ℕ) : Type 0 where
  pub number : ℕ
  pub call : Call
  pub there : record_of m number ≡ Some call
  pub entered : call.stage ≡ stage.Entered (tid t)
  pub not_abandoned : call.abandoned ≡ false

-- Why a Return of thread t of process p, of so many bytes and with these descriptors, is refused: a constructor for each test of
-- door_return(3C), in their order. Without a client no length is too long, since the results go nowhere.
pub data ReturnRefusal (m : State) (t p size : ℕ) (pass : List Pass) : Errno → Type 0 where
  too_long : HasClient m t → (4096 < size) ⊎ (16 < length pass) → ReturnRefusal m t p size pass E2BIG
  cannot_pass :
      (HasClient m t → (4096 < size) ⊎ (16 < length pass) → ⊥) → CannotPass m p pass →
      ReturnRefusal m t p size pass EINVAL
