-- `rules::parse_names_numbered` meets its contract.
-- Assumes nothing.
use Rattle.declarations.proofs.RuleReads.{block_refused, block_list}
use Prim.Native.Nat.{ℕ}
use Rattle.std.proofs.Common.{rules}
use Rattle.notation.specs.Parser.{eat, comma_or_not, parse_identifier}
use Rattle.tokens.specs.Promise.{stream}
use Rattle.parser.specs.Steps.{Parses, between_by}
use Rattle.parser.specs.Lists.{Listed, stored}
use Rattle.parser.specs.declared.props.Comma.TheVariants.{May}
use Rattle.parser.proofs.ByNodes.{one-stored, list_back}
use Rattle.parser.proofs.Onward.{expect-onward}
use Rattle.parser.proofs.Ready.{ready_step}
use Rattle.parser.specs.Storing.{lent_of, Kept, nodes_of}
use Rattle.tokens.proofs.Stops.{stopped}
use Rattle.tree.specs.Stored.{name_branch}
use mathlib.Core.Path.{refl}
use native.Mathlib.Omega.{arith}
use Rattle.declarations.proofs.rules.parse_names_numbered.Goals as goal

pub returns-in_err-opened-clause-parses : goal.returns-in_err-opened-clause-parses
returns-in_err-opened-clause-parses c = rw (stopped c.from_residual.result c.from_residual.ensures.1) (block_refused comma_or_not (λ _. parse_identifier) _ (c.in_err-opened.ensures.expects "{" refl))

abbrev listed : (k : ℕ) → Listed
listed k = record { mark = "}"; item = stored (nodes_of (name_branch k)) parse_identifier }

pub until-requires : goal.until-requires
until-requires c =
    record {
      ready = ready_step c.requires (expect-onward _ "{" _ (omega arith) c.requires.lies c.in_ok-opened.ensures);
      calls = λ b t m e h. search rules;
      reads = (
        listed c.args.kind,
        record {
          is = refl;
          some = omega arith;
          each = λ b t m r n e h p.
              let q : Kept m.now n.now × Parses (parse_identifier (stream b.now t)) (nodes_of (name_branch c.args.kind)) b.now t (lent_of m.now) (lent_of n.now) r = search rules in
              one-stored (nodes_of (name_branch c.args.kind)) parse_identifier _ b t m n r e q.0 q.1;
        },
      );
    }

pub returns-clause-parses : goal.returns-clause-parses
returns-clause-parses c =
    block_list comma_or_not (λ _. parse_identifier) (nodes_of (name_branch c.args.kind)) _ _ c.requires.lies c.in_ok-opened.ensures _ _ c.until.result
    (list_back (nodes_of (name_branch c.args.kind)) (eat "}") (between_by May) parse_identifier c.args.source.now c.in_ok-opened.opened 1 _ _ c.until.result
    (c.until.ensures.parses (listed c.args.kind) (record {
      is = refl;
      some = omega arith;
      each = λ b t m r n e h p.
          let q : Kept m.now n.now × Parses (parse_identifier (stream b.now t)) (nodes_of (name_branch c.args.kind)) b.now t (lent_of m.now) (lent_of n.now) r = search rules in
          one-stored (nodes_of (name_branch c.args.kind)) parse_identifier _ b t m n r e q.0 q.1;
    })))
