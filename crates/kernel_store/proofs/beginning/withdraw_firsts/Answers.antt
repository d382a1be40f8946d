use Rattle.std.proofs.Common.{◌≡◌, ℕ, ◌==◌, Bool, false, true, if◌then◌else◌, ap, arith, length, sym, ◌∙◌}
use Rattle.server_pool.specs.Words.{change_spares, without_spare}
use Rattle.dk_base.specs.declared.thread_set.ThreadSet.{ThreadSet}
use Rattle.dk_base.specs.Words.{has, with_thread}
use Rattle.dk_base.proofs.ThreadMembers.{first_taken}
use Rattle.kernel_store.proofs.Forking.{all_withdrawn, none_withdrawn, one_stays, one_withdrawn}
use Rattle.kernel_store.proofs.beginning.withdraw_firsts.Goals as goal

-- what is left was there
left_there : (rest later : ThreadSet) (t u : ℕ) → has later u ≡ with_thread rest t false u → has later u ≡ true → has rest u ≡ true
left_there rest later t u e here = go (u == t) (sym e ∙ here)
  where
    go : (b : Bool) → (if b then false else has rest u) ≡ true → has rest u ≡ true
    go true f = cc
    go false f = f

pub loop-t-init : goal.loop-t-init
loop-t-init c =
    record {
      pools = none_withdrawn c.args.pools.now c.args.processes.now c.args.child.0 c.threads_of-rest.result c.threads_of-rest.ensures;
      own = λ t e. sym (c.threads_of-rest.ensures t) ∙ e;
    }

pub loop-t-smaller : goal.loop-t-smaller
loop-t-smaller c =
    let t = c.in-Some.ensures in
    omega (arith, ap length (first_taken c.loop-t.rest c.put.new.self c.in-Some.t.0 t.first c.put.ensures t.within.0 t.within.1))

pub loop-t-smaller-then-not-is_spare : goal.loop-t-smaller-then-not-is_spare
loop-t-smaller-then-not-is_spare c =
    let t = c.in-Some.ensures in
    omega (arith, ap length (first_taken c.loop-t.rest c.put.new.self c.in-Some.t.0 t.first c.put.ensures t.within.0 t.within.1))

pub loop-t-preserved-then-not-is_spare : goal.loop-t-preserved-then-not-is_spare
loop-t-preserved-then-not-is_spare c =
    let rest = c.loop-t.rest in
    let here = c.in-Some.ensures.first.here in
    record {
      pools =
          c.withdraw_spare.ensures ∙ ap (λ w. change_spares w c.args.child.0 (without_spare c.in-Some.t.0)) c.loop-t.invariant.pools
          ∙ one_withdrawn c.args.pools.now c.args.processes.now c.args.child.0 rest c.put.new.self c.in-Some.t.0 c.put.ensures here (c.loop-t.invariant.own c.in-Some.t.0 here)
          (sym c.is_spare.ensures ∙ c.if-not-is_spare.true);
      own = λ u e. c.loop-t.invariant.own u (left_there rest c.put.new.self c.in-Some.t.0 u (c.put.ensures u) e);
    }

pub loop-t-preserved : goal.loop-t-preserved
loop-t-preserved c =
    let rest = c.loop-t.rest in
    let here = c.in-Some.ensures.first.here in
    record {
      pools =
          c.loop-t.invariant.pools
          ∙ one_stays c.args.pools.now c.args.processes.now c.args.child.0 rest c.put.new.self c.in-Some.t.0 c.put.ensures here (c.loop-t.invariant.own c.in-Some.t.0 here)
          (sym c.is_spare.ensures ∙ c.if-not-is_spare.false);
      own = λ u e. c.loop-t.invariant.own u (left_there rest c.put.new.self c.in-Some.t.0 u (c.put.ensures u) e);
    }

pub returns : goal.returns
returns c = c.loop-t.invariant.pools ∙ all_withdrawn c.args.pools.now c.args.processes.now c.args.child.0 c.loop-t.rest (c.in_default.ensures.none)
