use Rattle.std.proofs.Common.{sym, ap, ◌∙◌, le_refl}
use Rattle.spec_records.specs.Words.{is_dormant, is_idle}
use Rattle.law_pools.proofs.Stacks.{agrees_ended}
use Rattle.law_pools.proofs.Unparking.{agrees_not_spare, agrees_unparked}
use Rattle.exit_paths.proofs.Fated.{above_unparked, keeps_self, keeps_spares, keeps_threads, not_dormant, not_idle, room_unparked}
use Rattle.server_pool.specs.Words.{thread_room_in, without_spare, without_thread}
use Rattle.exit_paths.proofs.fates.take_out.Goals as goal

pub returns-in-Idle-clause-agreed : goal.returns-in-Idle-clause-agreed
returns-in-Idle-clause-agreed c = λ n doors tree list h.
    rw c.unpark.ensures.pool
    (agrees_unparked h c.args.t.0 c.own_pool-pool.result c.own_pool-pool.ensures (ap is_idle (sym c.state.ensures ∙ c.in-Idle.is)))

pub returns-in-Idle-clause-room : goal.returns-in-Idle-clause-room
returns-in-Idle-clause-room c = λ pool.
    rw c.unpark.ensures.pool (room_unparked c.args.pools.now c.own_pool-pool.result c.args.t.0 pool)

pub returns-in-Idle-clause-keeps : goal.returns-in-Idle-clause-keeps
returns-in-Idle-clause-keeps c =
    keeps_threads c.args.pools.now c.own_pool-pool.result (without_thread c.args.t.0) c.unpark.new.self c.unpark.ensures.pool

pub returns-in-Dormant-clause-keeps : goal.returns-in-Dormant-clause-keeps
returns-in-Dormant-clause-keeps c =
    keeps_spares c.args.pools.now c.withdraw_spare.new.self c.process_of.result.0 (without_spare c.args.t.0) c.withdraw_spare.ensures

pub returns-in-Idle-clause-above : goal.returns-in-Idle-clause-above
returns-in-Idle-clause-above c = λ pool x a.
    rw c.unpark.ensures.pool (above_unparked c.args.pools.now c.own_pool-pool.result c.args.t.0 pool x a)

pub returns-in-Dormant-clause-agreed : goal.returns-in-Dormant-clause-agreed
returns-in-Dormant-clause-agreed c = λ n doors tree list h.
    rw c.withdraw_spare.ensures
    (agrees_not_spare h c.args.t.0 c.process_of.result.0 c.process_of.ensures (ap is_dormant (sym c.state.ensures ∙ c.in-Dormant.is)))

pub returns-in_default : goal.returns-in_default
returns-in_default c =
    record {
      agreed =
          λ n doors tree list h.
          agrees_ended h c.args.t.0 (ap is_idle (sym c.state.ensures) ∙ not_idle c.state.result.now c.in_default.not-Idle)
          (ap is_dormant (sym c.state.ensures) ∙ not_dormant c.state.result.now c.in_default.not-Dormant);
      keeps = keeps_self c.args.pools.now;
      room = λ pool. le_refl (thread_room_in c.args.pools.now pool);
      above = λ pool x a. a;
    }
