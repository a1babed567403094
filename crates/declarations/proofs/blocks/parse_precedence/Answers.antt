-- `blocks::parse_precedence` meets its contract.
-- Assumes nothing.
use Rattle.tokens.specs.Promise.{start_in}
use Rattle.tree.specs.Stored.{prec_item_branch}
use Rattle.parser.specs.Storing.{nodes_of}
use Rattle.parser.specs.Lists.{stored_all}
use Rattle.declarations.proofs.BlocksLaws.{few-stored, block_back, prec_items, prec_by, precedence-block, prec-made}
use Rattle.notation.specs.Parser.{pure}
use Rattle.declarations.specs.Promise.{precedence_branch}
use Rattle.declarations.proofs.blocks.parse_precedence.Goals as goal

pub block-requires : goal.block-requires
block-requires c =
    record {
      ready = c.requires;
      calls = λ b t m e h. rw e h;
      reads = (stored_all (nodes_of prec_item_branch) prec_items, λ b t m r n e h p. few-stored prec_item_branch 1 prec_items _ b t m n r e h p.1.0 p.1.1);
    }

pub returns-clause-parses : goal.returns-clause-parses
returns-clause-parses c =
    block_back prec_item_branch precedence_branch 20 prec_items (λ is. pure (prec_by (start_in c.args.token) is)) c.args.source.now c.args.token _ _ c.block.result (precedence-block _ c.args.token) (λ xs us e. prec-made _ xs)
    (c.block.ensures.parses (stored_all (nodes_of prec_item_branch) prec_items) (λ b t m r n e h p. few-stored prec_item_branch 1 prec_items _ b t m n r e h p.1.0 p.1.1))
