use Rattle.std.proofs.Common.{rules}
use Rattle.printing.proofs.Inputs.{taken-more}
use Rattle.printing.proofs.read_all.Goals as goal

pub loop-n-preserved : goal.loop-n-preserved
loop-n-preserved g c = record {
  within = search rules;
  taken = taken-more c.loop-n.n c.in_ok-more.more c.loop-n.buf c.read.new.buf c.loop-n.invariant.within c.in_ok-more.ensures.bound.0 _ _ _ c.loop-n.invariant.taken c.in_ok-more.ensures.bytes.0;
}
