-- What maps find associations and objects by.
use Rattle.std.specs.Prelude.{ℕ, Bool}
use Rattle.dk_base.specs.declared.number.Fd.{Fd}
use Rattle.dk_base.specs.declared.object.Obj.{Obj}
use Rattle.dk_base.specs.declared.object.Obj.TheVariants as obj
use Rattle.spec_records.specs.declared.association.AssocKey.{AssocKey}
use Rattle.spec_records.specs.Words.{descriptor, pid}
use Rattle.port_assoc.specs.declared.key.Key.{Key}
use Rattle.port_assoc.specs.declared.key.ObjectKey.{ObjectKey}
use Rattle.port_assoc.specs.declared.key.Row.{Row}
use Rattle.port_assoc.specs.declared.key.ObjectKey.TheVariants as object
use Rattle.port_assoc.specs.contracts.key.KeyPartialEq.TheImpl as key_eq
use Rattle.port_assoc.specs.contracts.key.ObjectKeyPartialEq.TheImpl as object_key_eq
use Rattle.port_assoc.specs.contracts.key.RowPartialEq.TheImpl as row_eq

abbrev pub key_of : AssocKey → Key
key_of k = record { port = k.port; process = k.process.0; fd = k.fd.0 }

abbrev pub association_key : Key → AssocKey
association_key k = record { port = k.port; process = pid k.process; fd = descriptor k.fd }

abbrev pub same_key : Key → Key → Bool
same_key = (key_eq.ghosts).eq

abbrev pub row_at : ℕ → Fd → Row
row_at process fd = record { process = process; fd = fd.0 }

abbrev pub same_row : Row → Row → Bool
same_row = (row_eq.ghosts).eq

abbrev pub object_key : Obj → ObjectKey
object_key (obj.Door d) = object.Door d
object_key (obj.Port p) = object.Port p
object_key (obj.PipeIn p) = object.PipeIn p
object_key (obj.PipeOut p) = object.PipeOut p

abbrev pub same_object_key : ObjectKey → ObjectKey → Bool
same_object_key = (object_key_eq.ghosts).eq
