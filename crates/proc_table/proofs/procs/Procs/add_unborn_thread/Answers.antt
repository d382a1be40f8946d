use Rattle.std.proofs.Common.{◌+◌, refl, subst, sym, arith}
use Rattle.proc_table.specs.Crews.{AreCrews}
use Rattle.proc_table.specs.Standing.{AreNoted}
use Rattle.proc_table.proofs.Members.{crews_more}
use Rattle.proc_table.proofs.Noting.{noted_push}
use Rattle.proc_table.proofs.procs.Procs.add_unborn_thread.Goals as goal

pub invariant_of-self : goal.invariant_of-self
invariant_of-self c =
    let n = c.len-count.result + 1 in
    let count = c.len-count.ensures in (
      c.self.invariant.0,
      c.self.invariant.1,
      omega (arith, c.in-Ok.ensures.len, c.if-count-eq-THREADS_MAX.false, count, c.self.invariant.2),
      subst (AreNoted c.note.new.self) (sym c.in-Ok.ensures.items)
          (noted_push c.self.invariant.3 n _ (omega (arith, count)) c.note.ensures),
      subst (AreCrews c.add.new.self) (sym c.in-Ok.ensures.items) (crews_more c.self.invariant.4 c.args.p.0 n _ (omega (arith, count)) refl refl c.add.ensures),
    )
