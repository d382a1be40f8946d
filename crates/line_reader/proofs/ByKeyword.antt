-- The reader of a keyword that is known.
use Rattle.std.proofs.Common.{◌≡◌, ℕ, Result, sym, subst}
use Rattle.line_reader.specs.declared.fault.Fault.{Fault}
use Rattle.line_reader.specs.Types.{Keyword, Line}
use Rattle.line_reader.specs.Commands.{line_with}
use Rattle.line_reader.specs.Combinators.{Rest}
use Rattle.line_reader.specs.OperandContracts.{Reads}
use Rattle.line_forms.specs.Words.{Tables}

pub at_keyword : (tables : Tables) (process : ℕ) (old : Rest) (result : Result Line Fault) (new : Rest) (keyword known : Keyword) → keyword ≡ known → Reads (line_with tables process known) old result new → Reads (line_with tables process keyword) old result new
at_keyword tables process old result new keyword known is reads =
    let P : Keyword → Type 0 = λ k. Reads (line_with tables process k) old result new in
    subst P (sym is) reads
