use Rattle.std.proofs.Common.{◌||◌, ◌&&◌, not, option_map, ap, ap₂, sym, ◌∙◌}
use Rattle.spec_records.specs.declared.pool.Pool.TheVariants.{Common}
use Rattle.spec_records.specs.Words.{is_pool, pid}
use Rattle.law_pools.specs.Words.{is_this}
use Rattle.kernel_store.proofs.store.Store.give_and_tell.Goals as goal

pub returns : goal.returns
returns c =
    let first = option_map (λ p. p.0) c.args.first in
    record {
      given = c.give_pool.ensures.given;
      agreed = c.has_idle-had.ensures.agreed;
      either =
          λ p.
          ap (λ b. is_this p first || b)
          (ap₂ (λ had has. is_pool c.args.pool (Common (pid p)) && (had && not has)) (sym c.has_idle-had.ensures.idle) (sym c.has_idle-has.ensures.idle)
          ∙ sym (c.last_given.ensures p))
          ∙ c.other_than.ensures.either p;
      apart = c.other_than.ensures.apart;
    }
