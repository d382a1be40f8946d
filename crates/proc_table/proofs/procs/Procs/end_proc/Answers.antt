use Rattle.std.proofs.Common.{rules, subst, sym}
use Rattle.proc_table.specs.Crews.{AreCrews}
use Rattle.proc_table.specs.Ends.{ended_where_of}
use Rattle.proc_table.proofs.Members.{crews_ended, put_back}
use Rattle.proc_table.proofs.procs.Procs.end_proc.Goals as goal

pub invariant_of-self : goal.invariant_of-self
invariant_of-self c = (
  c.self.invariant.0,
  c.self.invariant.1,
  search rules,
  search rules,
  subst (AreCrews c.self.inside.crews)
      (sym (put_back (ended_where_of c.args.p.0) c.self.inside.threads.items c.deref_mut.result.now c.end_threads.new.threads c.self.inside.threads.len c.end_threads.ensures c.deref_mut.ensures.value c.deref_mut.ensures.len))
      (crews_ended c.self.invariant.4 c.args.p.0),
)
