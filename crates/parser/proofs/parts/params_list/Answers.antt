-- `parts::params_list` meets its contract.
-- Assumes nothing.
use native.Mathlib.Omega.{arith}
use mathlib.Core.Path.{refl}
use Rattle.std.proofs.Common.{rules}
use Rattle.tree.specs.Stored.{name_branch}
use Rattle.notation.specs.Parser.{eat, parse_identifier}
use Rattle.tokens.specs.Promise.{stream}
use Rattle.parser.specs.Storing.{lent_of, Kept, nodes_of}
use Rattle.parser.specs.Steps.{Parses, between_by}
use Rattle.parser.specs.Lists.{Listed, stored}
use Rattle.parser.specs.declared.props.Comma.TheVariants.{Must}
use Rattle.parser.proofs.ByNodes.{one-stored, list_back}
use Rattle.parser.proofs.parts.params_list.Goals as goal

abbrev params : Listed
params = record { mark = ">"; item = stored (nodes_of (name_branch 4)) parse_identifier }

pub until-requires : goal.until-requires
until-requires c =
    record {
      ready = c.requires;
      calls = λ b t m e h. search rules;
      reads = (
        params,
        record {
          is = refl;
          some = omega arith;
          each = λ b t m r n e h p.
              let q : Kept m.now n.now × Parses (parse_identifier (stream b.now t)) (nodes_of (name_branch 4)) b.now t (lent_of m.now) (lent_of n.now) r = search rules in
              one-stored (nodes_of (name_branch 4)) parse_identifier _ b t m n r e q.0 q.1;
        },
      );
    }

pub returns-clause-parses : goal.returns-clause-parses
returns-clause-parses c =
    list_back (nodes_of (name_branch 4)) (eat ">") (between_by Must) parse_identifier c.args.source.now c.args.token 1 _ _ c.until.result
    (c.until.ensures.parses params (record {
      is = refl;
      some = omega arith;
      each = λ b t m r n e h p.
          let q : Kept m.now n.now × Parses (parse_identifier (stream b.now t)) (nodes_of (name_branch 4)) b.now t (lent_of m.now) (lent_of n.now) r = search rules in
          one-stored (nodes_of (name_branch 4)) parse_identifier _ b t m n r e q.0 q.1;
    }))
