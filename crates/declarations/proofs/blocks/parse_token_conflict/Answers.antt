-- `blocks::parse_token_conflict` meets its contract.
-- Assumes nothing.
use Rattle.tokens.specs.Promise.{start_in}
use Rattle.tree.specs.Stored.{reference_branch, token_conflict_branch}
use Rattle.parser.specs.Storing.{nodes_of}
use Rattle.parser.specs.Lists.{stored_all}
use Rattle.declarations.proofs.BlocksLaws.{few-stored, block_back, pair_by, conflict-block, conflict-made}
use Rattle.declarations.specs.Promise.{conflict_pair}
use Rattle.declarations.proofs.blocks.parse_token_conflict.Goals as goal

pub block-requires : goal.block-requires
block-requires c =
    record {
      ready = c.requires;
      calls = λ b t m e h. rw e h;
      reads = (stored_all (nodes_of reference_branch) conflict_pair, λ b t m r n e h p. few-stored reference_branch 2 conflict_pair _ b t m n r e h p.1.0 p.1.1);
    }

pub returns-clause-parses : goal.returns-clause-parses
returns-clause-parses c =
    block_back reference_branch token_conflict_branch 10 conflict_pair (pair_by (start_in c.args.token)) c.args.source.now c.args.token _ _ c.block.result (conflict-block _ c.args.token) (λ xs us e. conflict-made _ xs _ us e)
    (c.block.ensures.parses (stored_all (nodes_of reference_branch) conflict_pair) (λ b t m r n e h p. few-stored reference_branch 2 conflict_pair _ b t m n r e h p.1.0 p.1.1))
