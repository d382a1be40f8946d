use Rattle.spec_histories.specs.Histories.{end}
use Rattle.doorlab.proofs.Waiting.{few_waiting}
use Rattle.doorlab.proofs.kernel.RecordedRecordsHistory.waiting.Goals as goal

pub returns-clause-few : goal.returns-clause-few
returns-clause-few c = few_waiting _ (end c.args.self.now.held) c.threads.result c.threads.ensures.count c.threads.ensures.few c.waiting.ensures
