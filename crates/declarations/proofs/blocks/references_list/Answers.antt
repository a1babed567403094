-- `blocks::references_list` meets its contract.
-- Assumes nothing.
use native.Mathlib.Omega.{arith}
use mathlib.Core.Path.{refl}
use Rattle.std.proofs.Common.{rules}
use Rattle.error.specs.Causes.{bad_precedence}
use Rattle.tree.specs.Stored.{reference_branch}
use Rattle.notation.specs.Parser.{eat}
use Rattle.notation.specs.Declarations.{parse_token_reference}
use Rattle.tokens.specs.Promise.{stream}
use Rattle.parser.specs.Storing.{lent_of, Kept, nodes_of}
use Rattle.parser.specs.Steps.{Parses, between_by}
use Rattle.parser.specs.Lists.{Listed, stored}
use Rattle.parser.specs.declared.props.Comma.TheVariants.{May}
use Rattle.parser.proofs.ByNodes.{one-stored, list_back}
use Rattle.declarations.proofs.blocks.references_list.Goals as goal

abbrev items : Listed
items = record { mark = "}"; item = stored (nodes_of reference_branch) (parse_token_reference bad_precedence) }

pub until-requires : goal.until-requires
until-requires c =
    record {
      ready = c.requires;
      calls = λ b t m e h. search rules;
      reads = (
        items,
        record {
          is = refl;
          some = omega arith;
          each = λ b t m r n e h p.
              let q : Kept m.now n.now × Parses (parse_token_reference bad_precedence (stream b.now t)) (nodes_of reference_branch) b.now t (lent_of m.now) (lent_of n.now) r = search rules in
              one-stored (nodes_of reference_branch) (parse_token_reference bad_precedence) _ b t m n r e q.0 q.1;
        },
      );
    }

pub returns-clause-parses : goal.returns-clause-parses
returns-clause-parses c =
    list_back (nodes_of reference_branch) (eat "}") (between_by May) (parse_token_reference bad_precedence) c.args.source.now c.args.token 1 _ _ c.until.result
    (c.until.ensures.parses items (record {
      is = refl;
      some = omega arith;
      each = λ b t m r n e h p.
          let q : Kept m.now n.now × Parses (parse_token_reference bad_precedence (stream b.now t)) (nodes_of reference_branch) b.now t (lent_of m.now) (lent_of n.now) r = search rules in
          one-stored (nodes_of reference_branch) (parse_token_reference bad_precedence) _ b t m n r e q.0 q.1;
    }))
