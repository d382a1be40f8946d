use Rattle.std.proofs.lemmas.List.Elements.{All-push}
use Rattle.spec_records.specs.Words.{ready_object}
use Rattle.kernel_ports.specs.Words.{IsSaid}
use Rattle.kernel_ports.proofs.Others.{watched_more}
use Rattle.kernel_ports.proofs.listing.list_object.Goals as goal

pub returns-clause-said : goal.returns-clause-said
returns-clause-said c =
    λ refs others before.
    rw c.push.ensures.items (All-push (IsSaid (ready_object c.args.pipes.now.items refs)) c.args.into.now.items _ before (c.ready_object.ensures refs others))

pub returns-clause-watched : goal.returns-clause-watched
returns-clause-watched c = λ a. rw c.push.ensures.items (watched_more c.args.into.now.items _ a)
