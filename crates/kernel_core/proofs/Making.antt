-- Notices that are made one by one: where the doors, processes and notices are, and the room that is left.
use Rattle.std.proofs.Common.{◌≡◌, ℕ, zero, suc, ◌+◌, true, true≢false, List, [], ◌∷◌, ◌++◌, Option, None, Some, is_some, slice_get, refl, sym, subst}
use Rattle.spec_kernel.specs.Types.{Door, Notice}
use Rattle.spec_records.specs.Words.{new_notice}
use Rattle.spec_kernel.specs.Words.{State, door_of, now}
use Rattle.spec_kernel.proofs.Settling.{with_notice_of}
use Rattle.kernel_store.specs.Words.{ArePlaced, may_have_notice_in}

-- places

pushed_is :
    (ns : List Notice) (x : Notice) (P : Notice → Type 0) → P x → ((i : ℕ) (n : Notice) → slice_get ns i ≡ Some n → P n) → (i : ℕ) (n : Notice) →
    slice_get (ns ++ x ∷ []) i ≡ Some n → P n
pushed_is [] x P h k zero n e = let same : x ≡ n = cc in subst P same h
pushed_is [] x P h k (suc i) n e = cc
pushed_is (y ∷ ns) x P h k zero n e = k 0 n e
pushed_is (y ∷ ns) x P h k (suc i) n e = pushed_is ns x P h (λ j z f. k (suc j) z f) i n e

pub placed-with_notice_of : (m : State) (d : ℕ) → is_some (door_of m d) ≡ true → ArePlaced m → ArePlaced (with_notice_of m d)
placed-with_notice_of m d there h =
    record {
      thread_number = h.thread_number;
      process_there = h.process_there;
      owner_there = h.owner_there;
      door_number = h.door_number;
      bound_private = h.bound_private;
      bound_own = h.bound_own;
      given_not_lost = h.given_not_lost;
      queued_door = h.queued_door;
      notice_door =
          pushed_is m.notice_list.notices (new_notice (m.notice_list.made + 1) (now m) d) (λ n. is_some (door_of m n.door) ≡ true) there
          h.notice_door;
    }

-- a door is there of which a notice may be made
pub may_have_there : (m : State) (d : ℕ) (o : Option Door) → may_have_notice_in m d o ≡ true → is_some o ≡ true
may_have_there m d None e = absurd (true≢false (sym e))
may_have_there m d (Some x) e = refl
