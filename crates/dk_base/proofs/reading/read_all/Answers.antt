use Rattle.std.proofs.Common.{◌++◌, take}
use Rattle.std.proofs.KnownBytes.{Consumes-trans}
use Rattle.dk_base.proofs.reading.read_all.Goals as goal

-- the last read gave bytes that could not be kept
pub returns-in_err-append-clause-rest : goal.returns-in_err-append-clause-rest
returns-in_err-append-clause-rest g c = (
  c.loop-chunk.bytes ++ take c.in_ok-count.count c.read.new.buf,
  Consumes-trans _ (g.S.Source.left c.loop-chunk.source) _ _ _ c.loop-chunk.invariant.1 c.in_ok-count.ensures.bytes.0,
)
