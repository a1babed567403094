use Rattle.output.specs.Promise.{Wrote}
use Rattle.output.proofs.Digits.{first_digits}
use Rattle.output.proofs.put_hex.Given as goal

abbrev pub invariant-loop-unit : goal.invariant-loop-unit
invariant-loop-unit l = Wrote (first_digits l.code l.unit-index) l.fn.out l.out l.n
