use Rattle.std.proofs.Common.{ap}
use Rattle.spec_kernel.specs.Words.{State}
use Rattle.kernel_core.proofs.Finishing.{rest_counted}
use Rattle.kernel_core.proofs.event.Parts.count_line.Goals as goal

pub returns-clause-made : goal.returns-clause-made
returns-clause-made c = ap (λ (m : State). m.notice_list.made) c.count.ensures.state

pub returns-clause-rest : goal.returns-clause-rest
returns-clause-rest c = rest_counted c.args.self.now.store c.count.new.self c.count.ensures.state c.count.ensures.keeps
