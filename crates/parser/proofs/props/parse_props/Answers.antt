-- `props::parse_props` meets its contract.
-- Assumes nothing.
use native.Mathlib.Omega.{arith}
use mathlib.Core.Path.{refl}
use Rattle.tree.specs.Stored.{prop_branch}
use Rattle.notation.specs.Expressions.{parse_props}
use Rattle.parser.specs.Storing.{nodes_of}
use Rattle.parser.specs.Steps.{props_list}
use Rattle.parser.specs.Lists.{Marked, stored_all}
use Rattle.parser.proofs.ByNodes.{all-stored, optional_back}
use Rattle.parser.proofs.props.parse_props.Goals as goal

abbrev props : Marked
props = record { mark = "["; inside = stored_all (nodes_of prop_branch) props_list }

pub optional-requires : goal.optional-requires
optional-requires c =
    record {
      ready = c.requires;
      calls = λ b t m e h. rw e h;
      reads = (props, record { is = refl; some = omega arith; all = λ b t m r n e h p. all-stored (nodes_of prop_branch) 1 props_list _ b t m n r e p.1.0 p.1.1 });
    }

pub returns-clause-parses : goal.returns-clause-parses
unfolding parse_props
returns-clause-parses c =
    optional_back (nodes_of prop_branch) "[" props_list c.args.source.now c.args.token 0 _ _ c.optional.result
    (c.optional.ensures.parses props (record { is = refl; some = omega arith; all = λ b t m r n e h p. all-stored (nodes_of prop_branch) 1 props_list _ b t m n r e p.1.0 p.1.1 }))
