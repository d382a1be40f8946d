use Rattle.std.proofs.Common.{ℕ, Bool, if◌then◌else◌, find, sym, ap, ap₂, ◌∙◌}
use Rattle.spec_records.specs.Words.{deserted_in, ended_thread, interrupted_where, is_served_by, leaving_of}
use Rattle.spec_kernel.specs.Types.{Thread}
use Rattle.dk_base.specs.Words.{has}
use Rattle.exit_paths.specs.Words.{deserted_as, with_interrupted}
use Rattle.exit_paths.proofs.fates.fate_of.Goals as goal

pub returns-clause-fate : goal.returns-clause-fate
returns-clause-fate c = λ doors now x n.
    let who = with_interrupted (has c.args.interrupted) (leaving_of c.args.processes.now doors c.args.who) in
    let calls = c.args.calls.now.tree.calls in
    ap (λ (k : ℕ). if who.ends k then ended_thread x else deserted_in who now (find (is_served_by k) calls) (interrupted_where (has c.args.interrupted k) x)) n
    ∙ ap₂ (λ (b : Bool) (y : Thread). if b then ended_thread x else y) (sym (c.ends.ensures doors))
    (c.desertion_of.ensures.left doors now (interrupted_where (has c.args.interrupted c.args.t.0) x)
    ∙ ap (λ (b : Bool). deserted_as now c.desertion_of.result (interrupted_where b x)) (sym c.has.ensures))
