-- The reading of a request, by what is asked for.
use Rattle.std.proofs.Common.{◌≡◌, ℕ, Bool, Result, Ok, Err, refl, sym, ap, subst, ◌∙◌}
use Rattle.dk_base.specs.declared.event.What.{What}
use Rattle.dk_base.specs.declared.request.Request.{Request}
use Rattle.line_reader.specs.declared.fault.Fault.{Fault}
use Rattle.line_reader.specs.declared.fault.Fault.TheVariants.{Bad}
use Rattle.line_reader.specs.Combinators.{Reader, Rest, misspelling, pure}
use Rattle.line_reader.specs.OperandContracts.{Reads}
use Rattle.line_reader.specs.Types.{Reason}
use Rattle.line_forms.specs.declared.reason.Reason.TheVariants.{Form}
use Rattle.history_text.specs.Names.{Names}
use Rattle.history_text.specs.Requests.{request_with}

pub at_what : (names : Names) (of : ℕ) (late : Bool) (old : Rest) (result : Result Request Fault) (new : Rest) (what other : What)
    → what ≡ other → Reads (request_with names of late other) old result new → Reads (request_with names of late what) old result new
at_what names of late old result new what other is reads =
    let P : What → Type 0 = λ w. Reads (request_with names of late w) old result new in subst P (sym is) reads

-- a request without operands
pub read_at : (names : Names) (of : ℕ) (late : Bool) (old : Rest) (request : Request) (what other : What)
    → what ≡ other → ((rest : Rest) → request_with names of late other rest ≡ pure request rest) → Reads (request_with names of late what) old (Ok request) old
read_at names of late old request what other is same = at_what names of late old (Ok request) old what other is (same old)

-- what is no request
pub misspelled_at : (names : Names) (of : ℕ) (late : Bool) (old : Rest) (what other : What)
    → what ≡ other → ((rest : Rest) → request_with names of late other rest ≡ Err Form) → Reads (request_with names of late what) old (Err (Bad Form)) old
misspelled_at names of late old what other is same = at_what names of late old (Err (Bad Form)) old what other is (λ reason e. same old ∙ cc)
