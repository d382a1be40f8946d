use Rattle.std.proofs.Common.{◌≡◌, ◌+◌, ◌≤◌, ap, arith, length, rules, subst, ◌∙◌}
use Rattle.std.proofs.lemmas.List.Sums.{count_by-le-length, length-filter}
use Rattle.spec_records.specs.Words.{notice_doors}
use Rattle.kernel_store.specs.Words.{HasRoomToTell, stored_state}
use Rattle.kernel_core.specs.Watched.{is_watched, watched}
use Rattle.spec_kernel.specs.Words.{State, timers_in}
use Rattle.kernel_core.proofs.Finishing.{rest_reserved, rest_started}
use Rattle.kernel_core.proofs.event.Parts.reserve.Goals as goal

pub returns-in_err-reserve_notices-clause-rest : goal.returns-in_err-reserve_notices-clause-rest
returns-in_err-reserve_notices-clause-rest c = λ h.
    rest_reserved c.reserve_notices.ensures.state c.reserve_notices.ensures.keeps
    (rest_reserved c.reserve.ensures.state c.reserve.ensures.keeps
    (rest_started c.args.self.now.store c.start_step.new.self c.start_step.ensures.same h))

pub returns-in_err-reserve-2-clause-rest : goal.returns-in_err-reserve-2-clause-rest
returns-in_err-reserve-2-clause-rest c = λ h.
    rest_reserved c.reserve_notices.ensures.state c.reserve_notices.ensures.keeps
    (rest_reserved c.reserve.ensures.state c.reserve.ensures.keeps
    (rest_started c.args.self.now.store c.start_step.new.self c.start_step.ensures.same h))

pub returns-in_err-reserve-3-clause-rest : goal.returns-in_err-reserve-3-clause-rest
returns-in_err-reserve-3-clause-rest c = λ h.
    rest_reserved c.reserve_notices.ensures.state c.reserve_notices.ensures.keeps
    (rest_reserved c.reserve.ensures.state c.reserve.ensures.keeps
    (rest_started c.args.self.now.store c.start_step.new.self c.start_step.ensures.same h))

pub returns-in_err-reserve-4-clause-rest : goal.returns-in_err-reserve-4-clause-rest
returns-in_err-reserve-4-clause-rest c = λ h.
    rest_reserved c.reserve_notices.ensures.state c.reserve_notices.ensures.keeps
    (rest_reserved c.reserve.ensures.state c.reserve.ensures.keeps
    (rest_started c.args.self.now.store c.start_step.new.self c.start_step.ensures.same h))

pub returns-clause-rest : goal.returns-clause-rest
returns-clause-rest c = λ h.
    rest_reserved c.reserve_notices.ensures.state c.reserve_notices.ensures.keeps
    (rest_reserved c.reserve.ensures.state c.reserve.ensures.keeps
    (rest_started c.args.self.now.store c.start_step.new.self c.start_step.ensures.same h))

pub returns-clause-ready : goal.returns-clause-ready
returns-clause-ready c =
    let n = stored_state c.reserve_notices.new.self in
    let fewer : length (watched n) ≤ length (notice_doors n.doors) =
    omega (arith, length-filter (is_watched n) (notice_doors n.doors), count_by-le-length (is_watched n) (notice_doors n.doors)) in
    let all : c.notice_doors.result.now ≡ notice_doors n.doors = search rules in
    let here = ap length all in
    let room = c.in_ok-reserve-2.ensures.spare in
    record {
      were = search rules;
      few = search rules;
      woken = search rules;
      fallen = omega (arith, fewer, here, room);
      notices = c.in_ok-reserve_notices.ensures.room;
      opened = search rules;
      agreed = search rules;
      rooms =
          subst (λ k. HasRoomToTell c.reserve-4.new.self (k + 1) (length (timers_in n) + 1)) c.association_count.ensures.len
          (subst (λ k. HasRoomToTell c.reserve-4.new.self (c.association_count.result + 1) (k + 1)) c.timer_count.ensures.len c.in_ok-reserve-4.ensures.room);
    }

pub reserve_notices-requires : goal.reserve_notices-requires
reserve_notices-requires c =
    let state = c.reserve.ensures.state ∙ ap stored_state c.start_step.ensures.same in
    omega (arith, ap (λ (k : State). k.notice_list.made) state, c.requires.numbers.notices)
