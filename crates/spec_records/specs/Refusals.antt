-- The tests of an entry, in order: it is refused by the first that holds.
use Rattle.std.specs.Prelude.{List, [], ◌∷◌, Option, Bool, if◌then◌else◌, Some, None, Result, Ok, Err}
use Rattle.dk_base.specs.declared.error.Errno.{Errno}

-- a test of an entry, and the error where it holds; those after the first that holds do not count
pub record Test : Type 0 where
  pub holds : Bool
  pub error : Errno

-- where this holds the entry is refused with this error
abbrev pub refused_where : Bool → Errno → Test
refused_where holds error = record { holds = holds; error = error }

abbrev pub first_refusal : List Test → Option Errno
first_refusal [] = None
first_refusal (x ∷ xs) = if x.holds then Some x.error else first_refusal xs

-- what a call answers that is refused with this error, if it is
abbrev pub unless_refused_with : Option Errno → Result Unit Errno
unless_refused_with None = Ok tt
unless_refused_with (Some e) = Err e
