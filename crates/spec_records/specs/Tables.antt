-- The descriptors of a process: a place for each that it may have. The tables stand at the places of their processes.
use Rattle.std.specs.Prelude.{ℕ, List, [], ◌∷◌, Option, Bool, false, ◌==◌, Some, None, count_by, filter_map, is_none, map, position, replicate, slice_get, slice_set, unwrap_or}
use Rattle.dk_base.specs.declared.number.Fd.{Fd}
use Rattle.dk_base.specs.declared.object.Obj.{Obj}
use Rattle.dk_base.specs.declared.object.Obj.TheVariants as obj
use Rattle.dk_base.specs.ByNumber.{at_number, with_at_number}
use Rattle.dk_base.specs.Numbers.{descriptor}

abbrev pub empty_table : ℕ → List (Option Obj)
empty_table limit = replicate limit None

abbrev pub object_in : Option (Option Obj) → Option Obj
object_in None = None
object_in (Some o) = o

-- what a descriptor names
abbrev pub object_named : List (Option Obj) → Fd → Option Obj
object_named table fd = object_in (slice_get table fd.0)

-- the lowest descriptor that is free
abbrev pub lowest_free : List (Option Obj) → Option ℕ
lowest_free table = position is_none table

-- the same, 0 where none is free
abbrev pub free_place : List (Option Obj) → ℕ
free_place table = unwrap_or (lowest_free table) 0

-- the table with this object, or none, at a place
abbrev pub with_row : List (Option Obj) → ℕ → Option Obj → List (Option Obj)
with_row table place o = slice_set table place o

-- the table with this object at its lowest free descriptor
abbrev pub insert_row : List (Option Obj) → Obj → List (Option Obj)
insert_row table o = with_row table (free_place table) (Some o)

-- the same for several, one after the other
abbrev pub insert_rows : List (Option Obj) → List Obj → List (Option Obj)
insert_rows table [] = table
insert_rows table (o ∷ os) = insert_rows (insert_row table o) os

-- the descriptors that they get
abbrev pub new_descriptors : List (Option Obj) → List Obj → List Fd
new_descriptors table [] = []
new_descriptors table (o ∷ os) = descriptor (free_place table) ∷ new_descriptors (insert_row table o) os

-- the table with a descriptor closed; every closing of one descriptor is this
abbrev pub close_row : List (Option Obj) → ℕ → List (Option Obj)
close_row table place = with_row table place None

-- how many descriptors are free
abbrev pub free_rows : List (Option Obj) → ℕ
free_rows table = count_by is_none table

abbrev pub row_object : Option Obj → Option Obj
row_object row = row

-- what is named, in order of descriptor
abbrev pub objects_of : List (Option Obj) → List Obj
objects_of table = filter_map row_object table

abbrev pub free_row : Option Obj → Option Obj
free_row o = None

-- the table with every row closed
abbrev pub close_table : List (Option Obj) → List (Option Obj)
close_table table = map free_row table

abbrev pub table_in : List (List (Option Obj)) → ℕ → List (Option Obj)
table_in tables p = unwrap_or (at_number tables p) []

abbrev pub with_table : List (List (Option Obj)) → ℕ → List (Option Obj) → List (List (Option Obj))
with_table tables p table = with_at_number tables p table

-- objects

abbrev pub is_object : Obj → Obj → Bool
is_object (obj.Door a) (obj.Door b) = a == b
is_object (obj.Port a) (obj.Port b) = a == b
is_object (obj.PipeIn a) (obj.PipeIn b) = a == b
is_object (obj.PipeOut a) (obj.PipeOut b) = a == b
is_object _ _ = false

-- how many of these objects are this one
abbrev pub count_object : Obj → List Obj → ℕ
count_object o os = count_by (is_object o) os
