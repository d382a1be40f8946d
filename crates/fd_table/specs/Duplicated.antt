-- dup(2): the lowest free descriptor names what another one names.
use Rattle.std.specs.Prelude.{List, [], ◌∷◌, Option, Some, None, is_none}
use Rattle.dk_base.specs.declared.error.Errno.TheVariants.{EBADF, EMFILE}
use Rattle.dk_base.specs.declared.number.Fd.{Fd}
use Rattle.dk_base.specs.declared.object.Obj.{Obj}
use Rattle.spec_records.specs.Words.{Test, insert_row, lowest_free, object_named, refused_where}

abbrev pub dup_tests : List (Option Obj) → Fd → List Test
dup_tests table fd =
    refused_where (is_none (object_named table fd)) EBADF ∷ refused_where (is_none (lowest_free table)) EMFILE ∷ []

-- the table with an object, if there is one, at its lowest free descriptor
abbrev pub insert_if_some : List (Option Obj) → Option Obj → List (Option Obj)
insert_if_some table None = table
insert_if_some table (Some o) = insert_row table o

abbrev pub dup_row : List (Option Obj) → Fd → List (Option Obj)
dup_row table fd = insert_if_some table (object_named table fd)
