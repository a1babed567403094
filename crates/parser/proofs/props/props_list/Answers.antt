-- `props::props_list` meets its contract.
-- Assumes nothing.
use native.Mathlib.Omega.{arith}
use mathlib.Core.Path.{refl}
use Rattle.notation.specs.Parser.{eat}
use Rattle.notation.specs.Expressions.{parse_prop}
use Rattle.tree.specs.Stored.{prop_branch}
use Rattle.parser.specs.Storing.{nodes_of}
use Rattle.parser.specs.Steps.{between_by}
use Rattle.parser.specs.Lists.{Listed, stored}
use Rattle.parser.specs.declared.props.Comma.TheVariants.{Must}
use Rattle.parser.proofs.ByNodes.{one-stored, list_back}
use Rattle.parser.proofs.props.props_list.Goals as goal

abbrev props : Listed
props = record { mark = "]"; item = stored (nodes_of prop_branch) parse_prop }

pub until-requires : goal.until-requires
until-requires c =
    record {
      ready = c.requires;
      calls = λ b t m e h. rw e h;
      reads = (props, record { is = refl; some = omega arith; each = λ b t m r n e h p. one-stored (nodes_of prop_branch) parse_prop _ b t m n r e p.1.0 p.1.1 });
    }

pub returns-clause-parses : goal.returns-clause-parses
returns-clause-parses c =
    list_back (nodes_of prop_branch) (eat "]") (between_by Must) parse_prop c.args.source.now c.args.token 1 _ _ c.until.result
    (c.until.ensures.parses props (record { is = refl; some = omega arith; each = λ b t m r n e h p. one-stored (nodes_of prop_branch) parse_prop _ b t m n r e p.1.0 p.1.1 }))
