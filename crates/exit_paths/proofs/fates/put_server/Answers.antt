use Rattle.std.proofs.Common.{◌≡◌, true, is_some, sym, ◌∙◌}
use Rattle.spec_records.specs.Words.{thread_at}
use Rattle.exit_paths.proofs.Walked.{put_here, put_more, put_there, put_within}
use Rattle.exit_paths.proofs.fates.put_server.Goals as goal

pub put-requires : goal.put-requires
put-requires c =
    let there : is_some (thread_at c.args.processes.now c.in-Some.deserted.server.0) ≡ true = sym c.is_there.ensures ∙ c.if-not-is_there.false in
    put_within c.args.processes.now.threads c.in-Some.deserted.server.0 c.are_few.ensures there

pub returns-clause-more : goal.returns-clause-more
returns-clause-more c = λ u e. put_more c.args.touched.now c.put.new.self c.in-Some.deserted.server.0 c.put.ensures u e

pub returns-clause-there : goal.returns-clause-there
returns-clause-there c = λ all.
    let there : is_some (thread_at c.args.processes.now c.in-Some.deserted.server.0) ≡ true = sym c.is_there.ensures ∙ c.if-not-is_there.false in
    put_there c.args.touched.now c.put.new.self c.in-Some.deserted.server.0 c.put.ensures (λ u. is_some (thread_at c.args.processes.now u) ≡ true) all there

pub returns-clause-server : goal.returns-clause-server
returns-clause-server c = rw c.in-Some.is (λ there. put_here c.args.touched.now c.put.new.self c.in-Some.deserted.server.0 c.put.ensures)
