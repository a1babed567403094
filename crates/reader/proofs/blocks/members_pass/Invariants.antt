use Rattle.tokens.specs.Promise.{stream}
use Rattle.notation.specs.Parser.{size}
use Rattle.parser.specs.Storing.{Kept}
use Rattle.reader.specs.Places.{words_in, bytes_in}
use Rattle.reader.proofs.Spreading.{Spreading}
use Rattle.reader.proofs.blocks.members_pass.Given as goal

abbrev pub invariant-loop-after : goal.invariant-loop-after
invariant-loop-after l =
    record {
      kept : Kept l.initial.store l.store;
      spreading : Spreading l.block l.source l.initial.t (words_in l.initial.places) (bytes_in l.initial.places) (words_in l.places) (bytes_in l.places) l.initial.store.records.now l.initial.store.texts.now l.store.records.now l.store.texts.now l.t
          l.words l.bytes l.turns l.count l.free;
    }

abbrev pub decreases-loop-after : goal.decreases-loop-after
decreases-loop-after l = size (stream l.source l.t)
