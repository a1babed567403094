-- The number that falls with each call: the bytes that are left, and the function's place in the grammar.
use Prim.Native.Nat.{◌+◌, ◌-◌}
use Rattle.notation.specs.Parser.{size, until_step, eat, comma}
use Rattle.notation.specs.Expressions.{choice_at}
use Rattle.tokens.specs.Promise.{stream}
use Rattle.tree.specs.Stored.{expression_branch}
use Rattle.parser.specs.Storing.{lent_of, Kept, nodes_of}
use Rattle.parser.proofs.Lists.{Listing}
use Rattle.parser.proofs.Itemizing.{Arming}
use Rattle.parser.proofs.Itemizing.{Itemizing}
use Rattle.parser.proofs.Falls.{rank}
use Rattle.parser.proofs.+expressions.Given as goal

abbrev pub decreases-apply : goal.decreases-apply
decreases-apply l = rank l.source.now l.token 12

abbrev pub decreases-args : goal.decreases-args
decreases-args l = rank l.source.now l.token 11

abbrev pub decreases-arms : goal.decreases-arms
decreases-arms l = rank l.source.now l.token 19

abbrev pub decreases-braced : goal.decreases-braced
decreases-braced l = rank l.source.now l.token 11

abbrev pub decreases-inline : goal.decreases-inline
decreases-inline l = rank l.source.now l.token 12

abbrev pub decreases-item : goal.decreases-item
decreases-item l = rank l.source.now l.token 16

abbrev pub decreases-items : goal.decreases-items
decreases-items l = rank l.source.now l.token 17

abbrev pub decreases-list : goal.decreases-list
decreases-list l = rank l.source.now l.token 21

abbrev pub decreases-mark : goal.decreases-mark
decreases-mark l = rank l.source.now l.token 13

abbrev pub decreases-name : goal.decreases-name
decreases-name l = rank l.source.now l.token 13

abbrev pub decreases-named : goal.decreases-named
decreases-named l = rank l.source.now l.token 13

abbrev pub decreases-pair : goal.decreases-pair
decreases-pair l = rank l.source.now l.token 21

abbrev pub decreases-parens : goal.decreases-parens
decreases-parens l = rank l.source.now l.token 21

abbrev pub decreases-parse_expression_choice : goal.decreases-parse_expression_choice
decreases-parse_expression_choice l = rank l.source.now l.token 20

abbrev pub decreases-parse_expression_inner : goal.decreases-parse_expression_inner
decreases-parse_expression_inner l = rank l.source.now l.token 14

abbrev pub decreases-parse_expression_sequence : goal.decreases-parse_expression_sequence
decreases-parse_expression_sequence l = rank l.source.now l.token 18

abbrev pub decreases-parse_expression_suffix : goal.decreases-parse_expression_suffix
decreases-parse_expression_suffix l = rank l.source.now l.token 15

abbrev pub decreases-specialize : goal.decreases-specialize
decreases-specialize l = rank l.source.now l.token 12

abbrev pub decreases-word : goal.decreases-word
decreases-word l = rank l.source.now l.token 13

abbrev pub invariant-arms-loop-bar : goal.invariant-arms-loop-bar
invariant-arms-loop-bar l =
    record {
      kept : Kept l.initial.store l.store;
      arming : Arming (choice_at l.left) l.source l.initial.t (lent_of l.initial.store) l.t (lent_of l.store) l.count l.empty;
    }

abbrev pub decreases-arms-loop-bar : goal.decreases-arms-loop-bar
decreases-arms-loop-bar l = size (stream l.source l.t)

abbrev pub invariant-items-loop-read : goal.invariant-items-loop-read
invariant-items-loop-read l =
    record {
      kept : Kept l.initial.store l.store;
      itemizing : Itemizing (choice_at l.left) l.source l.initial.t (lent_of l.initial.store) l.t (lent_of l.store) l.markers l.expressions l.start l.shape;
    }

abbrev pub decreases-items-loop-read : goal.decreases-items-loop-read
decreases-items-loop-read l = size (stream l.source l.t)

abbrev pub invariant-list-loop-after : goal.invariant-list-loop-after
invariant-list-loop-after l =
    record {
      kept : Kept l.initial.store l.store;
      listing : Listing (until_step (eat ">") comma (λ _. choice_at l.left)) (nodes_of expression_branch) l.source l.initial.t 2 (lent_of l.initial.store) l.t (lent_of l.store) l.count;
    }

abbrev pub decreases-list-loop-after : goal.decreases-list-loop-after
decreases-list-loop-after l = size (stream l.source l.t) + (1 - l.count)
