-- `Writer::low_byte` meets its contract. Assumes nothing.
use Rattle.formats.specs.Bytes.{bytes_of}
use Rattle.bytes_out.proofs.writer.Writer.low_byte.Goals as goal

pub byte-requires : goal.byte-requires
unfolding bytes_of
byte-requires c = record { fits = c.requires.fits }

pub returns : goal.returns
unfolding bytes_of
returns c = c.byte.ensures
