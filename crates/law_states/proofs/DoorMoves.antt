-- The changes of the core that concern doors alone: a door is made, or its parameters change. Each keeps what holds of a core.
use Rattle.std.specs.Prelude.{ℕ, ◌≡◌, ◌≤◌, Option, not, true, false, Some, None, is_some, option_map}
use Rattle.std.proofs.Common.{sym, ◌∙◌}
use native.Mathlib.Omega.{arith}
use Rattle.std.proofs.lemmas.Bool.Decides.{nat_tests}
use Rattle.spec_kernel.specs.Types.{Door}
use Rattle.spec_records.specs.declared.pool.TheConstants.{LOST_DOOR}
use Rattle.spec_records.specs.Words.{is_live_in, is_private_in, is_unborn_in, is_valid_in, no_cancel_of}
use Rattle.law_states.specs.Core.{Core, door_in}
use Rattle.law_states.specs.Coherent.{AreDoors, IsCoherent}
use Rattle.law_states.specs.Records.{owner_in}
use Rattle.law_states.proofs.Cores.{upd}

-- what calls, notices and bindings read of doors holds as before
pub record KeepsDoors (door after : ℕ → Option Door) : Type 0 where
  pub there : (d : ℕ) → is_some (door d) ≡ true → is_some (after d) ≡ true
  pub valid : (d : ℕ) → is_valid_in (door d) ≡ true → is_valid_in (after d) ≡ true
  pub owner : (d p : ℕ) → owner_in (door d) ≡ Some p → owner_in (after d) ≡ Some p
  pub private : (d : ℕ) → is_some (door d) ≡ true → is_private_in (after d) ≡ is_private_in (door d)
  pub no_cancel : (d : ℕ) → is_some (door d) ≡ true → no_cancel_of (after d) ≡ no_cancel_of (door d)

pub doors_keep :
    (k : Core) (after : ℕ → Option Door) → IsCoherent k → KeepsDoors k.door after → AreDoors after k.proc →
    IsCoherent (record k { door = after })
doors_keep k after h s doors =
    record {
      waits = h.waits;
      invocations = h.invocations;
      notices_given = h.notices_given;
      notices_entered = h.notices_entered;
      notices_at_doors =
          record {
            notice_door = λ n e. s.there (k.noticed_door n) (h.notices_at_doors.notice_door n e);
            notice_valid = λ n e. s.valid (k.noticed_door n) (h.notices_at_doors.notice_valid n e);
            notice_given_owner = λ n u e. s.owner (k.noticed_door n) _ (h.notices_at_doors.notice_given_owner n u e);
            notice_given_bound =
                λ n u e. grind (arith, h.notices_at_doors.notice_given_bound n u, h.notices_at_doors.notice_door n, s.private (k.noticed_door n));
            notice_entered_owner = λ n u e. s.owner (k.noticed_door n) _ (h.notices_at_doors.notice_entered_owner n u e);
          };
      servers = h.servers;
      calls = h.calls;
      at_doors =
          record {
            door_there = λ c r e. s.there r.door (h.at_doors.door_there c r e);
            no_cancel = λ c r e. h.at_doors.no_cancel c r e ∙ sym (s.no_cancel r.door (h.at_doors.door_there c r e));
            waiting_valid = λ c e. s.valid (door_in (k.call c)) (h.at_doors.waiting_valid c e);
            given_owner = λ c v e. s.owner (door_in (k.call c)) _ (h.at_doors.given_owner c v e);
            given_bound =
                λ c v e. grind (arith, h.at_doors.given_bound c v, h.at_doors.door_there c, s.private (door_in (k.call c)));
            entered_owner = λ c v e. s.owner (door_in (k.call c)) _ (h.at_doors.entered_owner c v e);
          };
      doors = doors;
      bindings =
          record {
            bound_own = λ v d e l. s.owner d _ (h.bindings.bound_own v d e l);
            bound_private = λ v d e l. grind (arith, s.private d, h.bindings.bound_private v d e l);
            idle_not_lost = h.bindings.idle_not_lost;
          };
      processes = h.processes;
      threads = h.threads;
      has_fit_state = h.has_fit_state;
    }

-- one door more
pub door_keeps :
    (k : Core) (d : Door) (after : ℕ → Option Door) → IsCoherent k → k.door d.number ≡ None → 1 ≤ d.number →
    d.owner_ended ≡ not (is_live_in (k.proc d.owner.0)) → is_unborn_in (k.proc d.owner.0) ≡ false → ((e : ℕ) → after e ≡ upd k.door d.number (Some d) e) →
    IsCoherent (record k { door = after })
door_keeps k d after h p l q b a =
    doors_keep k after h
    (record {
      there = λ e f. grind (arith, nat_tests, a e);
      valid = λ e f. grind (arith, nat_tests, a e);
      owner = λ e u f. grind (arith, nat_tests, a e);
      private = λ e f. grind (arith, nat_tests, a e);
      no_cancel = λ e f. grind (arith, nat_tests, a e);
    })
    (record {
      none_lost = a LOST_DOOR ∙ grind (arith, nat_tests, h.doors.none_lost, l);
      door_number = λ e x f. grind (arith, nat_tests, a e, h.doors.door_number e x);
      owner_ended = λ e x f. grind (arith, nat_tests, a e, h.doors.owner_ended e x);
      owner_begun = λ e x f. grind (arith, nat_tests, a e, h.doors.owner_begun e x, b);
    })

-- what a change of a door's parameters leaves
pub record IsSameButLimits (x y : Door) : Type 0 where
  pub number : y.number ≡ x.number
  pub owner : y.owner ≡ x.owner
  pub attrs : y.attrs ≡ x.attrs
  pub revoked : y.revoked ≡ x.revoked
  pub owner_ended : y.owner_ended ≡ x.owner_ended

pub limits_keep :
    (k : Core) (d : ℕ) (change : Door → Door) (after : ℕ → Option Door) → IsCoherent k → ((x : Door) → IsSameButLimits x (change x)) →
    ((e : ℕ) → after e ≡ upd k.door d (option_map change (k.door d)) e) → IsCoherent (record k { door = after })
limits_keep k d change after h s a =
    doors_keep k after h
    (record {
      there = λ e f. grind (arith, nat_tests, a e);
      valid = λ e f. grind (arith, nat_tests, a e, λ (x : Door). (s x).revoked, λ (x : Door). (s x).owner_ended);
      owner = λ e u f. grind (arith, nat_tests, a e, λ (x : Door). (s x).owner);
      private = λ e f. grind (arith, nat_tests, a e, λ (x : Door). (s x).attrs);
      no_cancel = λ e f. grind (arith, nat_tests, a e, λ (x : Door). (s x).attrs);
    })
    (record {
      none_lost = a LOST_DOOR ∙ grind (arith, nat_tests, h.doors.none_lost);
      door_number = λ e z f. grind (arith, nat_tests, a e, h.doors.door_number e, λ (x : Door). (s x).number);
      owner_ended =
          λ e z f. grind (arith, nat_tests, a e, h.doors.owner_ended e, λ (x : Door). (s x).owner, λ (x : Door). (s x).owner_ended);
      owner_begun = λ e z f. grind (arith, nat_tests, a e, h.doors.owner_begun e, λ (x : Door). (s x).owner);
    })
