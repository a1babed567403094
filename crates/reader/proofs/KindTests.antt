-- Whether a kind is a given one, by its number.
-- Assumes nothing.
use native.Mathlib.Omega.{arith}
use mathlib.Core.Path.{◌≡◌}
use lib.Dec.{eqb}
use denote.Enum.Bare.{sameb}
use Rattle.tree.specs.Promise.{kind_number}
use Rattle.tree.specs.declared.NodeKind.{NodeKind}
use Rattle.tree.specs.contracts.NodeKind.{the_type}

module _ (k : NodeKind) where
  pub is_named_node : sameb the_type k NodeKind.NamedNode ≡ eqb (kind_number k) 13
  is_named_node = grind arith

  pub is_tokens : sameb the_type k NodeKind.Tokens ≡ eqb (kind_number k) 8
  is_tokens = grind arith

  pub is_context : sameb the_type k NodeKind.Context ≡ eqb (kind_number k) 14
  is_context = grind arith

  pub is_precedences : sameb the_type k NodeKind.Precedences ≡ eqb (kind_number k) 20
  is_precedences = grind arith

  pub is_main_skip : sameb the_type k NodeKind.MainSkip ≡ eqb (kind_number k) 22
  is_main_skip = grind arith

  pub is_grammar : sameb the_type k NodeKind.Grammar ≡ eqb (kind_number k) 1
  is_grammar = grind arith

  pub is_dialect : sameb the_type k NodeKind.Dialect ≡ eqb (kind_number k) 24
  is_dialect = grind arith
