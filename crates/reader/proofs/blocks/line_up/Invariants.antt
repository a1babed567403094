use Rattle.reader.proofs.PlaceLaws.{Lining}
use Rattle.reader.specs.Places.{words_in, bytes_in}
use Rattle.reader.proofs.blocks.line_up.Given as goal

abbrev pub invariant-loop-size : goal.invariant-loop-size
invariant-loop-size l = Lining l.initial.words (words_in l.initial.sizes) (words_in l.sizes) l.words l.size-index × Lining l.initial.bytes (bytes_in l.initial.sizes) (bytes_in l.sizes) l.bytes l.size-index
