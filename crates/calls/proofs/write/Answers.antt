-- `write` meets its contract.
-- Assumes nothing.
use Rattle.std.proofs.Common.{rules}
use Rattle.writer.specs.Promise.{WroteNormalWithin}
use Rattle.calls.specs.Promise.{WriteTo}
use Rattle.calls.proofs.Mapped.{with_other_error}
use Rattle.calls.proofs.NormalLaws.{write_done, write_full}
use Rattle.grammar.specs.Reading.{longest}
use Rattle.calls.proofs.write.Goals as goal

pub returns : goal.returns
unfolding longest
returns c =
    with_other_error (λ o. WroteNormalWithin c.args.tree.records.now c.args.tree.texts.now longest c.args.output.now c.write_normal_text.new.out o)
    (λ r. WriteTo c.args.text.now c.args.tree.records.now c.args.tree.texts.now c.args.output.now r c.write_normal_text.new.out) _ _ c.map_err.ensures.cases
    (λ x k. write_done _ k) (λ e f l k. write_full _ k f (search rules)) c.write_normal_text.ensures
