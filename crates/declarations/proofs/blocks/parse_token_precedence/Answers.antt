-- `blocks::parse_token_precedence` meets its contract.
-- Assumes nothing.
use Rattle.tokens.specs.Promise.{start_in}
use Rattle.tree.specs.Stored.{reference_branch, token_prec_branch}
use Rattle.parser.specs.Storing.{nodes_of}
use Rattle.parser.specs.Lists.{stored_all}
use Rattle.declarations.proofs.BlocksLaws.{few-stored, block_back, references, token_prec_by, token-precedence, token-prec-made}
use Rattle.notation.specs.Parser.{pure}
use Rattle.declarations.proofs.blocks.parse_token_precedence.Goals as goal

pub block-requires : goal.block-requires
block-requires c =
    record {
      ready = c.requires;
      calls = λ b t m e h. rw e h;
      reads = (stored_all (nodes_of reference_branch) references, λ b t m r n e h p. few-stored reference_branch 1 references _ b t m n r e h p.1.0 p.1.1);
    }

pub returns-clause-parses : goal.returns-clause-parses
returns-clause-parses c =
    block_back reference_branch token_prec_branch 9 references (λ rs. pure (token_prec_by (start_in c.args.token) rs)) c.args.source.now c.args.token _ _ c.block.result (token-precedence _ c.args.token) (λ xs us e. token-prec-made _ xs)
    (c.block.ensures.parses (stored_all (nodes_of reference_branch) references) (λ b t m r n e h p. few-stored reference_branch 1 references _ b t m n r e h p.1.0 p.1.1))
