-- `blocks::prec_items_list` meets its contract.
-- Assumes nothing.
use native.Mathlib.Omega.{arith}
use mathlib.Core.Path.{refl}
use Rattle.tree.specs.Stored.{prec_item_branch}
use Rattle.notation.specs.Parser.{eat}
use Rattle.notation.specs.Declarations.{parse_prec_item}
use Rattle.parser.specs.Storing.{nodes_of}
use Rattle.parser.specs.Steps.{between_by}
use Rattle.parser.specs.Lists.{Listed, stored}
use Rattle.parser.specs.declared.props.Comma.TheVariants.{May}
use Rattle.parser.proofs.ByNodes.{one-stored, list_back}
use Rattle.declarations.proofs.blocks.prec_items_list.Goals as goal

abbrev items : Listed
items = record { mark = "}"; item = stored (nodes_of prec_item_branch) parse_prec_item }

pub until-requires : goal.until-requires
until-requires c =
    record {
      ready = c.requires;
      calls = λ b t m e h. rw e h;
      reads = (items, record { is = refl; some = omega arith; each = λ b t m r n e h p. one-stored (nodes_of prec_item_branch) parse_prec_item _ b t m n r e p.1.0 p.1.1 });
    }

pub returns-clause-parses : goal.returns-clause-parses
returns-clause-parses c =
    list_back (nodes_of prec_item_branch) (eat "}") (between_by May) parse_prec_item c.args.source.now c.args.token 1 _ _ c.until.result
    (c.until.ensures.parses items (record { is = refl; some = omega arith; each = λ b t m r n e h p. one-stored (nodes_of prec_item_branch) parse_prec_item _ b t m n r e p.1.0 p.1.1 }))
