-- The definition answers 8 where a loop's turns run out (`Parser.antt`). No loop does: none meets its bound, whatever the tokens.
-- Assumes nothing.
use Rattle.std.specs.Prelude.{ℕ, Bool}
use Rattle.error.specs.Causes.{bad_precedence}
use Rattle.laws.specs.Bound.{Enough}
use Rattle.laws.proofs.TakesExpressions as E
use Rattle.laws.proofs.TakesDeclarations as D
use Rattle.notation.specs.Parser.{◌>>=◌, pure, kind, is_end, eat, until_step, comma, comma_or_not, nothing, parse_identifier}
use Rattle.notation.specs.Expressions.{parse_part, parse_prop, parse_repeat, parse_item, parse_arm, choice_at}
use Rattle.notation.specs.Declarations.{parse_token_reference, parse_token_member, parse_local_member, parse_external_member, parse_prec_item, parse_skip_member, parse_declaration}

-- a field for each loop
pub record NoLoopMeetsItsBound : Type 0 where
  pub parts : Enough {S = ℕ} parse_part
  pub props : Enough {S = ℕ} (until_step (eat "]") comma (λ _. parse_prop))
  pub repeats : (start : ℕ) → Enough {S = ℕ} (parse_repeat start)
  pub params : Enough {S = ℕ} (until_step (eat ">") comma (λ _. parse_identifier))
  pub arguments : (levels_left : ℕ) → Enough {S = ℕ} (until_step (eat ">") comma (λ _. choice_at levels_left))
  pub sequences : (levels_left : ℕ) → Enough {S = ℕ} (parse_item (choice_at levels_left))
  pub arms : (levels_left : ℕ) → Enough {S = ℕ} (parse_arm (choice_at levels_left))
  pub names : Enough {S = ℕ} (until_step (eat "}") comma_or_not (λ _. parse_identifier))
  pub references : Enough {S = ℕ} (until_step (eat "}") comma_or_not (λ _. parse_token_reference bad_precedence))
  pub precedences : Enough {S = ℕ} (until_step (eat "}") comma_or_not (λ _. parse_prec_item))
  pub tokens : Enough {S = ℕ} (until_step (eat "}") nothing parse_token_member)
  pub local_tokens : Enough {S = ℕ} (until_step (eat "}") nothing parse_local_member)
  pub external_tokens : (conflicts : Bool) → Enough {S = ℕ} (until_step (eat "}") comma_or_not (parse_external_member conflicts))
  pub skips : Enough {S = ℕ} (until_step (eat "}") nothing parse_skip_member)
  pub declarations : Enough {S = ℕ} (until_step (kind >>= λ k. pure (is_end k)) nothing parse_declaration)

-- and so none of them does
pub no_loop_meets_its_bound : NoLoopMeetsItsBound
no_loop_meets_its_bound =
    record {
      parts = E.parts-enough;
      props = E.props-enough;
      repeats = E.repeats-enough;
      params = E.parameters_enough;
      arguments = E.arguments-enough;
      sequences = E.sequence-enough;
      arms = E.arms-enough;
      names = D.names-enough;
      references = D.references-enough;
      precedences = D.precedence-enough;
      tokens = D.tokens-enough;
      local_tokens = D.local_tokens-enough;
      external_tokens = D.external_tokens-enough;
      skips = D.skip-enough;
      declarations = D.declarations-enough;
    }
