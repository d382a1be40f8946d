use Rattle.std.proofs.Common.{◌+◌, ◌∷◌, ap, add-one, drop, get_or, sym, ◌∙◌}
use Rattle.std.proofs.Math.Seq.{drop-cons}
use Rattle.law_channels.specs.Ended.{rows_ended}
use Rattle.dk_base.specs.declared.number.Fd.{Fd}
use Rattle.kernel_store.specs.Telling.{channels_in, is_empty_in}
use Rattle.kernel_store.proofs.PortsTold.{rows_left}
use Rattle.kernel_store.proofs.telling.end_empty.Goals as goal

pub loop-fd-preserved : goal.loop-fd-preserved
loop-fd-preserved c = λ pipes.
    let fds = c.args.fds.now in
    let i = c.loop-fd.fd-index in
    let fd : Fd = get_or fds i (record { 0 = 0 }) in
    rows_left c.args.held.now.tables c.args.process.0 (channels_in pipes c.loop-fd.ports) (channels_in pipes c.end_if_empty.new.ports) _ fd (drop i fds) (drop (i + 1) fds)
    (drop-cons fds i (record { 0 = 0 }) c.loop-fd-test.true ∙ ap (λ k. fd ∷ drop k fds) (sym (add-one i)))
    (c.end_if_empty.ensures pipes) (c.loop-fd.invariant pipes)
