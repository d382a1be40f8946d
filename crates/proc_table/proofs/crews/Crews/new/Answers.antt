use Rattle.proc_table.proofs.Members.{none_in}
use Rattle.proc_table.proofs.crews.Crews.new.Goals as goal

pub returns : goal.returns
returns c = λ p t. none_in c.new-none.result c.new-none.ensures 65 p t
