-- The ends of pipes.
use Rattle.dk_base.specs.declared.object.Obj.{Obj}
use Rattle.dk_base.specs.declared.object.Obj.TheVariants as obj

-- the other end of a pipe; of what is no pipe the object itself
abbrev pub other_end : Obj → Obj
other_end (obj.PipeIn p) = obj.PipeOut p
other_end (obj.PipeOut p) = obj.PipeIn p
other_end o = o
