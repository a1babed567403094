use Rattle.notation.specs.Parser.{size}
use Rattle.tokens.specs.Promise.{stream}
use Rattle.parser.specs.Storing.{Kept}
use Rattle.reader.specs.Places.{words_in, bytes_in}
use Rattle.reader.proofs.Passing.{Passing}
use Rattle.reader.proofs.whole.pass.Given as goal

abbrev pub invariant-loop-t : goal.invariant-loop-t
invariant-loop-t l =
    record {
      kept : Kept l.initial.store l.store;
      passing : Passing l.source l.initial.t (words_in l.initial.places) (bytes_in l.initial.places) (words_in l.places) (bytes_in l.places) l.initial.store.records.now l.initial.store.texts.now
          l.store.records.now l.store.texts.now l.t l.words l.bytes l.count l.noted;
    }

abbrev pub decreases-loop-t : goal.decreases-loop-t
decreases-loop-t l = size (stream l.source l.t)
