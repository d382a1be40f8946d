-- What is counted of events.
use Rattle.std.specs.Prelude.{ℕ, ◌≡◌, List, count_by, length}
use Rattle.spec_requests.specs.Types.{Event}
use Rattle.load_gen.specs.Summaries.{collects_results, makes_call}
use Rattle.load_gen.specs.declared.summary_line.Tally.{Tally}

pub record IsTallyOf (tally : Tally) (es : List Event) : Type 0 where
  pub calls : tally.calls ≡ count_by makes_call es
  pub results : tally.results ≡ count_by collects_results es
  pub events : tally.events ≡ length es
