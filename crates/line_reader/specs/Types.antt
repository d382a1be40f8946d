-- The types that the crates below declare, from one place, for the definitions here and above.
pub use Rattle.line_forms.specs.declared.keyword.Keyword.{Keyword}
pub use Rattle.line_forms.specs.declared.line.Cond.{Cond}
pub use Rattle.line_forms.specs.declared.line.FdArg.{FdArg}
pub use Rattle.line_forms.specs.declared.line.Line.{Line}
pub use Rattle.line_forms.specs.declared.line.PassArg.{PassArg}
pub use Rattle.line_forms.specs.declared.line.Piece.{Piece}
pub use Rattle.line_forms.specs.declared.reason.Reason.{Reason}
