-- `parts::parse_params` meets its contract.
-- Assumes nothing.
use native.Mathlib.Omega.{arith}
use mathlib.Core.Path.{refl}
use Rattle.tree.specs.Stored.{name_branch}
use Rattle.parser.specs.Storing.{nodes_of}
use Rattle.parser.specs.Shapes.{params_list, parse_params}
use Rattle.parser.specs.Lists.{Marked, stored_all}
use Rattle.parser.proofs.ByNodes.{all-stored, optional_back}
use Rattle.parser.proofs.parts.parse_params.Goals as goal

abbrev params : Marked
params = record { mark = "<"; inside = stored_all (nodes_of (name_branch 4)) params_list }

pub optional-requires : goal.optional-requires
optional-requires c =
    record {
      ready = c.requires;
      calls = λ b t m e h. rw e h;
      reads = (params, record { is = refl; some = omega arith; all = λ b t m r n e h p. all-stored (nodes_of (name_branch 4)) 1 params_list _ b t m n r e p.1.0 p.1.1 });
    }

pub returns-clause-parses : goal.returns-clause-parses
unfolding parse_params
returns-clause-parses c =
    optional_back (nodes_of (name_branch 4)) "<" params_list c.args.source.now c.args.token 0 _ _ c.optional.result
    (c.optional.ensures.parses params (record { is = refl; some = omega arith; all = λ b t m r n e h p. all-stored (nodes_of (name_branch 4)) 1 params_list _ b t m n r e p.1.0 p.1.1 }))
