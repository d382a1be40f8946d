use Rattle.std.proofs.Common.{None}
use Rattle.script_lang.specs.Words.{canonical_text}
use Rattle.thread_machine.specs.Machines.{body_of}
use Rattle.thread_machine.proofs.Frames.{stands-first}
use Rattle.thread_machine.proofs.ScriptBodies.{spelled-body}
use Rattle.thread_machine.proofs.machine.Machine.new.Goals as goal

pub settle-requires : goal.settle-requires
settle-requires c =
    record {
      first = c.requires.first;
      declared = c.requires.declared;
      entry = tt;
      stands =
          rw (c.new.ensures)
          (stands-first
          (body_of c.args.script.now c.args.thread.0 None)
          (spelled-body (canonical_text c.args.script.now) c.args.script.now c.args.thread.0 None c.is_spelled.ensures.spelled));
    }
