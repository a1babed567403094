-- `props::parse_value` meets its contract.
-- Assumes nothing.
use native.Mathlib.Omega.{arith}
use mathlib.Core.Path.{refl}
use Rattle.tree.specs.Stored.{part_branch}
use Rattle.notation.specs.Parser.{loop}
use Rattle.notation.specs.Expressions.{parse_part}
use Rattle.parser.specs.Storing.{nodes_of}
use Rattle.parser.specs.Steps.{parse_value}
use Rattle.parser.specs.Lists.{Marked, stored_all}
use Rattle.parser.proofs.ByNodes.{all-stored, optional_back}
use Rattle.parser.proofs.props.parse_value.Goals as goal

abbrev parts : Marked
parts = record { mark = "="; inside = stored_all (nodes_of part_branch) (loop parse_part) }

pub optional-requires : goal.optional-requires
optional-requires c =
    record {
      ready = c.requires;
      calls = λ b t m e h. rw e h;
      reads = (parts, record { is = refl; some = omega arith; all = λ b t m r n e h p. all-stored (nodes_of part_branch) 0 (loop parse_part) _ b t m n r e p.1.0 p.1.1 });
    }

pub returns-clause-parses : goal.returns-clause-parses
unfolding parse_value
returns-clause-parses c =
    optional_back (nodes_of part_branch) "=" (loop parse_part) c.args.source.now c.args.token 0 _ _ c.optional.result
    (c.optional.ensures.parses parts (record { is = refl; some = omega arith; all = λ b t m r n e h p. all-stored (nodes_of part_branch) 0 (loop parse_part) _ b t m n r e p.1.0 p.1.1 }))
