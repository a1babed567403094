-- The line is put together and then written. Assumes nothing.
use Rattle.std.proofs.Common.{arith, ◌∙◌, sym}
use Rattle.std.proofs.Output.{has_written_of_eq}
use Rattle.std.proofs.Math.Seq.{length-take-le}
use Rattle.error.specs.Promise.{refusal_of}
use Rattle.printing.proofs.Lines.{front-written, line-few, line-utf8}
use Rattle.printing.proofs.LineDisplay.fmt.Goals as goal

pub slice_bounds-line-end : goal.slice_bounds-line-end
slice_bounds-line-end g c = omega (arith, c.put_refusal-n.ensures.counts, c.put_refusal-n.ensures.same, line-few (refusal_of c.args.self.now.0))

pub slice_bounds-from_utf8-end : goal.slice_bounds-from_utf8-end
slice_bounds-from_utf8-end g c =
    sym (length-take-le _ c.put_refusal-n.new.out (omega (arith, c.put_refusal-n.ensures.counts, c.put_refusal-n.ensures.same, line-few (refusal_of c.args.self.now.0))))

pub unreachable-requires : goal.unreachable-requires
unreachable-requires g c =
    c.in_default.ensures.cases.0
    (rw (front-written c.put_refusal-n.ensures (omega (arith, c.put_refusal-n.ensures.counts, line-few (refusal_of c.args.self.now.0))))
    (line-utf8 (refusal_of c.args.self.now.0)))

pub returns-clause-writes : goal.returns-clause-writes
returns-clause-writes g c plain ok =
    has_written_of_eq _ _ _ _ _
    (c.in-Ok.ensures.cases.0 ∙ front-written c.put_refusal-n.ensures (omega (arith, c.put_refusal-n.ensures.counts, line-few (refusal_of c.args.self.now.0))))
    (c.write_str.ensures.writes plain ok)
