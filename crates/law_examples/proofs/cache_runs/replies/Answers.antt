use Rattle.std.proofs.Common.{refl}
use Rattle.std.specs.Fmt.{digits}
use Rattle.ncd_app.specs.Definition.{found_from}
use Rattle.spec_kernel.specs.Words.{step}
use Rattle.spec_events.specs.Words.{cache_reply}
use Rattle.law_examples.proofs.cache_runs.replies.Goals as goal

pub returns-clause-taken : goal.returns-clause-taken
unfolding step cache_reply found_from digits
returns-clause-taken c = refl

pub returns-clause-shown : goal.returns-clause-shown
unfolding step cache_reply found_from digits
returns-clause-shown c = refl

pub returns-clause-over : goal.returns-clause-over
unfolding step cache_reply found_from digits
returns-clause-over c = refl

pub returns-clause-lines : goal.returns-clause-lines
unfolding step cache_reply found_from digits
returns-clause-lines c = refl

pub returns-clause-by_law : goal.returns-clause-by_law
unfolding step cache_reply found_from digits
returns-clause-by_law c = refl
