use Rattle.std.proofs.Common.{rules, subst, sym}
use Rattle.proc_table.specs.Crews.{AreCrews}
use Rattle.spec_records.specs.Words.{begun_thread}
use Rattle.proc_table.proofs.Members.{crews_begun, put_back}
use Rattle.proc_table.proofs.procs.Procs.begin.Goals as goal

pub invariant_of-self : goal.invariant_of-self
invariant_of-self c = (
  c.self.invariant.0,
  c.self.invariant.1,
  search rules,
  search rules,
  subst (AreCrews c.self.inside.crews)
      (sym (put_back (begun_thread c.args.child.0) c.self.inside.threads.items c.deref_mut.result.now c.begin_threads.new.threads c.self.inside.threads.len c.begin_threads.ensures c.deref_mut.ensures.value c.deref_mut.ensures.len))
      (crews_begun c.self.invariant.4 c.args.child.0),
)
