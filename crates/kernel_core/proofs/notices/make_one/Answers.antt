use Rattle.std.proofs.Common.{◌≡◌, rules, true, sym, subst, ◌∙◌}
use Rattle.std.specs.Prelude.{is_some}
use Rattle.spec_kernel.specs.Words.{door_of}
use Rattle.kernel_store.specs.Words.{ArePlaced, stored_state}
use Rattle.kernel_core.proofs.Making.{placed-with_notice_of, may_have_there}
use Rattle.kernel_core.proofs.notices.make_one.Goals as goal

pub returns-clause-within : goal.returns-clause-within
returns-clause-within c =
    let m = stored_state c.args.store.now in
    let there : is_some (door_of m c.args.d) ≡ true =
    may_have_there m c.args.d (door_of m c.args.d) (sym c.may_have_notice.ensures ∙ c.if-not-may_have_notice.false) in
    record {
      few = search rules;
      placed = subst ArePlaced (sym c.make_notice.ensures.state) (placed-with_notice_of m c.args.d there c.requires.within.placed);
      latest = search rules;
    }
