-- The functions on expressions meet their contracts.
-- Assumes nothing.
use Rattle.notation.specs.Expressions.{parse_arguments, choice_at}
use Rattle.parser.proofs.ExpressionRules as R
use Rattle.parser.proofs.Falls.{falls_on, falls_past}
use Rattle.parser.proofs.InnerLaws.{reference-yields, yields-braced, inline-on, heads-small, inline_ready, inline-refused, inline-yields, argument_ready, argument-refused, argument-more, mark-token, paren_refused, paren_read, mark_anon, mark-other, next-behind, plain-any, plain-specialize, plain-extend}
use Rattle.parser.proofs.InnerRules.{reference-refused, inline-head, inline-body, spelled, inner-any, inner-named, inner-named-refused, named_inline, named_std, named-plain, inner-end, inner-string, inner-set, inner-specialize, inner-extend, inner-class}
use Rattle.parser.proofs.Itemizing.{arming, arming-more, arming-over, arming-refused, arming-small, arm_ready, itemizing, itemizing-marker, itemizing-expression, itemizing-over, itemizing-refused, itemizing-small, choice-alone, choice-over, first-empty, choice_ready}
use Rattle.parser.proofs.Lists.{lays-then, listing_start}
use Rattle.parser.proofs.Marks.{marked-some, marked-none, items-small}
use Rattle.parser.proofs.Onward.{eat-onward, onward_then, expect-onward, next-onward, name-token}
use Rattle.parser.proofs.Openings.{optional-none, optional-refused, optional_list, item-onward, list_closed, list_refused}
use Rattle.parser.proofs.PartRules.{nodes-empty}
use Rattle.parser.proofs.Ready.{ready_step, ready_on, ready_past, name_in_lem, at_in_lem, part-short, put_asks, put-plain_asks, lists-small, listing-small}
use Rattle.parser.proofs.SequenceRules.{arm-refused, arm-none, arm-sequence, item-marker, item-end, item_refused, item-some, choice-deep, choice-sequence, choice-arms, choice-one, choice-empty, choice-done, sequence-refused, sequence-done, suffix_inner, suffix_repeats, suffix_done}
use Rattle.parser.proofs.Shown.{content-is, yields_within, yields-least, shown-empty}
use Rattle.parser.proofs.Stored.{stores-none, kept_here, kept_then}
use Rattle.parser.proofs.Yielded.{pair_one, pair_two, ready_start, yields-over, no_texts, sequence-alone, sequence-over, stack-low, small-stack, suffix_plain, suffix_repeated, special-over, special_ready}
use Rattle.parser.specs.Storing.{nodes_of}
use Rattle.parser.specs.declared.props.Comma.TheVariants.{Must}
use Rattle.tokens.proofs.Stops.{stopped}
use Rattle.tokens.proofs.Stream.{start-of}
use Rattle.tokens.specs.Promise.{start_in}
use Rattle.tree.specs.Promise.{specialize_of}
use Rattle.tree.specs.Stored.{expression_branch, prop_branch}
use Rattle.tree.specs.Syntax.{Expression}
use mathlib.Core.Logic.{inl, inr}
use mathlib.Core.Path.{refl, sym, ◌∙◌}
use native.Mathlib.Omega.{arith}
use Rattle.parser.proofs.+expressions.Goals as goal

pub apply-returns-in_err-after-clause-parses : goal.apply-returns-in_err-after-clause-parses
apply-returns-in_err-after-clause-parses t c = rw (stopped c.from_residual.result c.from_residual.ensures.1) (reference-refused _ _ _ _ _ c.in_err-after.ensures.parses)

pub apply-put_named-requires : goal.apply-put_named-requires
apply-put_named-requires t c =
    let l = c.in_ok-after.ensures.parses in
    rw c.of.ensures (put_asks c.requires.0 (ready_on (ready_step c.requires.0 c.requires.1.on) l.onward l.lays) c.start-start.ensures
    (omega (arith, lists-small expression_branch l c.requires.0.small)) (part-short _ (name_in_lem c.requires.0 c.requires.2).part))

pub apply-returns-clause-parses : goal.apply-returns-clause-parses
apply-returns-clause-parses t c =
    reference-yields c.args.left c.requires.0 c.requires.1 c.requires.2 c.in_ok-after.ensures.parses (rw c.of.ensures at c.put_named.ensures.stores) c.start-start.ensures
    c.start-start.ensures

pub args-returns-in_err-after-clause-parses : goal.args-returns-in_err-after-clause-parses
unfolding parse_arguments
args-returns-in_err-after-clause-parses t c = rw (stopped c.from_residual.result c.from_residual.ensures.1) (optional-refused "<" _ (nodes_of expression_branch) _ _ c.requires.lies (omega arith) c.in_err-after.ensures)

pub args-list-requires : goal.args-list-requires
args-list-requires t c =
    let o = eat-onward _ "<" _ (omega arith) c.requires.lies (rw c.in-Some.is at c.in_ok-after.ensures) in (falls_past 11 21 o c.decreases (omega arith), ready_step c.requires o)

pub args-returns-in-Some-clause-parses : goal.args-returns-in-Some-clause-parses
unfolding parse_arguments
args-returns-in-Some-clause-parses t c =
    optional_list "<" _ (nodes_of expression_branch) _ _ c.requires.lies (omega arith) (rw c.in-Some.is at c.in_ok-after.ensures) 1 _ _ c.list.result c.list.ensures.parses

pub args-returns-in-None-clause-parses : goal.args-returns-in-None-clause-parses
unfolding parse_arguments
args-returns-in-None-clause-parses t c = optional-none "<" _ (nodes_of expression_branch) _ _ c.requires.lies (omega arith) _ (rw c.in-None.is at c.in_ok-after.ensures)

pub arms-loop-bar-init : goal.arms-loop-bar-init
arms-loop-bar-init t c = record { kept = kept_here _; arming = arming _ _ _ _ c.requires.lies }

pub arms-returns-in_err-bar-clause-parses : goal.arms-returns-in_err-bar-clause-parses
arms-returns-in_err-bar-clause-parses t c = rw (stopped c.from_residual.result c.from_residual.ensures.1) (arming-refused c.loop-bar.invariant.arming (arm-refused _ _ _ (c.in_err-bar.ensures.eats "|" refl)))

pub arms-parse_expression_sequence-requires : goal.arms-parse_expression_sequence-requires
arms-parse_expression_sequence-requires t c =
    let i = c.loop-bar.invariant.arming in
    let o = eat-onward _ "|" _ (omega arith) i.listing.onward.lies (rw c.in-Some.is at c.in_ok-bar.ensures) in
    (falls_past 19 18 (onward_then i.listing.onward o) c.decreases (omega arith), arm_ready i c.requires o)

pub arms-returns-in_err-arm-clause-parses : goal.arms-returns-in_err-arm-clause-parses
arms-returns-in_err-arm-clause-parses t c = rw (stopped c.from_residual-in_err-arm.result c.from_residual-in_err-arm.ensures.1) (arming-refused c.loop-bar.invariant.arming (arm-sequence _ _ _ ((rw c.in-Some.is at c.in_ok-bar.ensures).eats "|" refl) c.in_err-arm.ensures.parses))

pub arms-overflow_add-count : goal.arms-overflow_add-count
arms-overflow_add-count t c = let k = arming-small c.loop-bar.invariant.arming c.requires.small in omega arith

pub arms-loop-bar-smaller : goal.arms-loop-bar-smaller
arms-loop-bar-smaller t c =
    let o = eat-onward _ "|" _ (omega arith) c.loop-bar.invariant.arming.listing.onward.lies (rw c.in-Some.is at c.in_ok-bar.ensures) in
    let a = o.fewer in let b = c.in_ok-arm.ensures.parses.onward.fewer in omega arith

pub arms-loop-bar-preserved : goal.arms-loop-bar-preserved
arms-loop-bar-preserved t c =
    let i = c.loop-bar.invariant.arming in
    let e = rw c.in-Some.is at c.in_ok-bar.ensures in
    record {
      kept = kept_then c.loop-bar.invariant.kept c.parse_expression_sequence.ensures.kept;
      arming = rw c.first_empty-empty.ensures (arming-more i c.in_ok-arm.ensures.parses (eat-onward _ "|" _ (omega arith) i.listing.onward.lies e) (e.eats "|" refl));
    }

pub arms-returns-clause-parses : goal.arms-returns-clause-parses
arms-returns-clause-parses t c = arming-over c.loop-bar.invariant.arming (arm-none _ _ _ ((rw c.in_default.is at c.in_ok-bar.ensures).eats "|" refl))

pub braced-returns-in_err-opened-clause-parses : goal.braced-returns-in_err-opened-clause-parses
braced-returns-in_err-opened-clause-parses t c = rw (stopped c.from_residual.result c.from_residual.ensures.1) (R.braced_open _ _ (c.in_err-opened.ensures.expects "{" refl))

pub braced-parse_expression_choice-requires : goal.braced-parse_expression_choice-requires
braced-parse_expression_choice-requires t c = let o = expect-onward _ "{" _ (omega arith) c.requires.lies c.in_ok-opened.ensures in (falls_past 11 20 o c.decreases (omega arith), ready_step c.requires o)

pub braced-returns-in_err-inside-clause-parses : goal.braced-returns-in_err-inside-clause-parses
braced-returns-in_err-inside-clause-parses t c = rw (stopped c.from_residual-in_err-inside.result c.from_residual-in_err-inside.ensures.1) (R.braced-below _ _ (c.in_ok-opened.ensures.expects "{" refl) c.in_err-inside.ensures.parses)

pub braced-returns-in_err-closed-clause-parses : goal.braced-returns-in_err-closed-clause-parses
braced-returns-in_err-closed-clause-parses t c =
    rw (stopped c.from_residual-in_err-closed.result c.from_residual-in_err-closed.ensures.1)
    (R.braced-close _ _ (c.in_ok-opened.ensures.expects "{" refl) c.in_ok-inside.ensures.parses.gives (c.in_err-closed.ensures.expects "}" refl))

pub braced-returns-clause-parses : goal.braced-returns-clause-parses
braced-returns-clause-parses t c =
    let g = c.in_ok-inside.ensures.parses in
    let o = expect-onward _ "{" _ (omega arith) c.requires.lies c.in_ok-opened.ensures in
    let q = expect-onward _ "}" _ (omega arith) g.onward.lies c.in_ok-closed.ensures in
    yields-braced g o q (R.braced-done _ _ (c.in_ok-opened.ensures.expects "{" refl) g.gives (c.in_ok-closed.ensures.expects "}" refl))

pub inline-returns-in_err-head-clause-parses : goal.inline-returns-in_err-head-clause-parses
inline-returns-in_err-head-clause-parses t c = rw (stopped c.from_residual.result c.from_residual.ensures.1) (inline-head _ _ _ _ c.in_err-head.ensures.parses)

pub inline-returns-in_err-body-clause-parses : goal.inline-returns-in_err-body-clause-parses
inline-returns-in_err-body-clause-parses t c = rw (stopped c.from_residual-in_err-body.result c.from_residual-in_err-body.ensures.1) (inline-body _ _ _ _ c.in_ok-head.ensures.parses.gives c.in_err-body.ensures.parses)

pub inline-returns-then-head-ne0-clause-parses : goal.inline-returns-then-head-ne0-clause-parses
inline-returns-then-head-ne0-clause-parses t c =
    inline-refused c.args.left c.args.name c.in_ok-head.ensures.parses c.in_ok-body.ensures.parses c.args.first c.if-head-ne0.true c.start-start.ensures

pub inline-overflow_add-head : goal.inline-overflow_add-head
inline-overflow_add-head t c = omega (arith, heads-small c.in_ok-head.ensures.parses c.requires.0.small)

pub inline-put_inline-requires : goal.inline-put_inline-requires
inline-put_inline-requires t c =
    let r = ready_step c.requires.0 (inline-on c.args.token c.args.name c.requires.0 c.requires.1) in
    let h = c.in_ok-head.ensures.parses in
    let g = c.in_ok-body.ensures.parses in
    let k = ready_on r (onward_then h.onward g.yields.onward) (lays-then h.lays g.yields.lays) in
    inline_ready h c.args.name c.requires.0 c.requires.1 k c.start-start.ensures

pub inline-returns-clause-parses : goal.inline-returns-clause-parses
inline-returns-clause-parses t c =
    inline-yields c.args.left c.args.name c.in_ok-head.ensures.parses c.in_ok-body.ensures.parses c.requires.0 c.requires.1 c.if-head-ne0.false c.put_inline.ensures.stores
    c.start-start.ensures c.start-start.ensures

pub item-returns-in-Some-clause-parses : goal.item-returns-in-Some-clause-parses
item-returns-in-Some-clause-parses t c = rw (item-marker _ _ _ _ (rw c.mark.ensures at (marked-some c.marker_kind.ensures c.in-Some.is))) c.parse_marker.ensures.parses

pub item-returns-then-ends_sequence-clause-parses : goal.item-returns-then-ends_sequence-clause-parses
item-returns-then-ends_sequence-clause-parses t c =
    record { gives = item-end _ _ _ _ (rw c.mark.ensures at (marked-none c.marker_kind.ensures c.in_default.is)) (sym c.ends_sequence.ensures ∙ c.if-ends_sequence.true); same = refl }

pub item-returns-in_err-suffixed-clause-parses : goal.item-returns-in_err-suffixed-clause-parses
item-returns-in_err-suffixed-clause-parses t c =
    rw (stopped c.from_residual.result c.from_residual.ensures.1)
    (item_refused _ _ _ _ (rw c.mark.ensures at (marked-none c.marker_kind.ensures c.in_default.is)) (sym c.ends_sequence.ensures ∙ c.if-ends_sequence.false) c.in_err-suffixed.ensures.parses)

pub item-returns-clause-parses : goal.item-returns-clause-parses
item-returns-clause-parses t c =
    let g = c.in_ok-suffixed.ensures.parses in
    let e = item-some _ _ _ _ (rw c.mark.ensures at (marked-none c.marker_kind.ensures c.in_default.is)) (sym c.ends_sequence.ensures ∙ c.if-ends_sequence.false) g.gives in
    record { tree = g.tree; gives = e; onward = g.onward; lays = g.lays; shown = g.shown }

pub items-loop-read-init : goal.items-loop-read-init
items-loop-read-init t c = record { kept = kept_here _; itemizing = itemizing _ _ _ _ _ _ c.requires.lies }

pub items-returns-in_err-read-clause-parses : goal.items-returns-in_err-read-clause-parses
items-returns-in_err-read-clause-parses t c = rw (stopped c.from_residual.result c.from_residual.ensures.1) (itemizing-refused c.loop-read.invariant.itemizing c.in_err-read.ensures.parses)

pub items-returns-clause-parses : goal.items-returns-clause-parses
items-returns-clause-parses t c = itemizing-over c.loop-read.invariant.itemizing (rw c.in_default.is at c.in_ok-read.ensures.parses)

pub items-overflow_add-markers : goal.items-overflow_add-markers
items-overflow_add-markers t c = let k = itemizing-small c.loop-read.invariant.itemizing c.requires.small in omega arith

pub items-loop-read-preserved-in-Marker : goal.items-loop-read-preserved-in-Marker
items-loop-read-preserved-in-Marker t c =
    record {
      kept = kept_then c.loop-read.invariant.kept c.item.ensures.kept;
      itemizing = itemizing-marker c.loop-read.invariant.itemizing (rw (c.in-Some.is, c.in-Marker.is) at c.in_ok-read.ensures.parses);
    }

pub items-overflow_add-expressions : goal.items-overflow_add-expressions
items-overflow_add-expressions t c = let k = itemizing-small c.loop-read.invariant.itemizing c.requires.small in omega arith

pub items-loop-read-preserved : goal.items-loop-read-preserved
items-loop-read-preserved t c =
    record {
      kept = kept_then c.loop-read.invariant.kept c.item.ensures.kept;
      itemizing = itemizing-expression c.loop-read.invariant.itemizing (rw (c.in-Some.is, c.in-Expression.is) at c.in_ok-read.ensures.parses);
    }

pub list-loop-after-init : goal.list-loop-after-init
list-loop-after-init t c = record { kept = kept_here _; listing = listing_start _ _ _ _ _ _ c.requires.lies }

pub list-returns-in_err-after-clause-parses : goal.list-returns-in_err-after-clause-parses
list-returns-in_err-after-clause-parses t c = rw (stopped c.from_residual.result c.from_residual.ensures.1) (list_refused ">" Must (λ _. choice_at c.args.left) c.loop-after.invariant.listing c.in_err-after.ensures)

pub list-returns-in-Closed-clause-parses : goal.list-returns-in-Closed-clause-parses
list-returns-in-Closed-clause-parses t c = list_closed ">" Must (λ _. choice_at c.args.left) c.loop-after.invariant.listing (rw c.in-Closed.is at c.in_ok-after.ensures) (omega arith)

pub list-parse_expression_choice-requires : goal.list-parse_expression_choice-requires
list-parse_expression_choice-requires t c =
    let i = c.loop-after.invariant.listing in
    let o = item-onward ">" (rw c.in-Item.is at c.in_ok-after.ensures) in
    (falls_on 21 20 (onward_then i.onward o) c.decreases (omega arith), argument_ready c.args.left c.requires i o)

pub list-returns-in_err-argument-in-Item-clause-parses : goal.list-returns-in_err-argument-in-Item-clause-parses
list-returns-in_err-argument-in-Item-clause-parses t c =
    rw (stopped c.from_residual-in_err-argument-in-Item.result c.from_residual-in_err-argument-in-Item.ensures.1)
    (argument-refused c.args.left c.loop-after.invariant.listing (rw c.in-Item.is at c.in_ok-after.ensures) c.in_err-argument-in-Item.ensures.parses)

pub list-overflow_add-count : goal.list-overflow_add-count
list-overflow_add-count t c = omega (arith, listing-small expression_branch c.loop-after.invariant.listing c.requires.small (omega arith))

pub list-loop-after-smaller : goal.list-loop-after-smaller
list-loop-after-smaller t c = (argument-more c.args.left c.loop-after.invariant.listing (rw c.in-Item.is at c.in_ok-after.ensures) c.in_ok-argument-in-Item.ensures.parses).1

pub list-loop-after-preserved : goal.list-loop-after-preserved
list-loop-after-preserved t c =
    record {
      kept = kept_then c.loop-after.invariant.kept c.parse_expression_choice.ensures.kept;
      listing = (argument-more c.args.left c.loop-after.invariant.listing (rw c.in-Item.is at c.in_ok-after.ensures) c.in_ok-argument-in-Item.ensures.parses).0;
    }

pub mark-returns-in_err-opened-in-40-clause-parses : goal.mark-returns-in_err-opened-in-40-clause-parses
mark-returns-in_err-opened-in-40-clause-parses t c = rw (stopped c.from_residual.result c.from_residual.ensures.1) (paren_refused _ _ c.args.token _ c.requires.1 c.in-40.is c.in_err-opened-in-40.ensures.0)

pub mark-parens-requires : goal.mark-parens-requires
mark-parens-requires t c =
    let o = next-onward _ _ (mark-token c.args.token _ c.requires.1) c.requires.0.lies c.in_ok-opened-in-40.ensures in
    (falls_past 13 21 o c.decreases (omega arith), (c.requires.0, o))

pub mark-returns-in_ok-opened-in-40-clause-parses : goal.mark-returns-in_ok-opened-in-40-clause-parses
mark-returns-in_ok-opened-in-40-clause-parses t c = rw (paren_read _ _ c.args.token _ c.requires.1 c.in-40.is c.in_ok-opened-in-40.ensures.0) c.parens.ensures.parses

pub mark-returns-in-91-clause-parses : goal.mark-returns-in-91-clause-parses
mark-returns-in-91-clause-parses t c = rw (mark_anon _ _ c.args.token _ c.requires.1 c.in-91.is) c.inline.ensures.parses

pub mark-returns-in_default-clause-parses : goal.mark-returns-in_default-clause-parses
mark-returns-in_default-clause-parses t c =
    rw c.unexpected.ensures.0 (mark-other _ _ c.args.token _ c.requires.1 (λ q. omega arith) (λ q. omega arith) c.unexpected.ensures.1)

pub name-returns-then-spells-clause-parses : goal.name-returns-then-spells-clause-parses
name-returns-then-spells-clause-parses t c =
    let w = spelled _ _ _ _ (name_in_lem c.requires.0 c.requires.1).part (rw c.of.ensures at c.spells.ensures) plain-any in
    rw (inner-any _ _ _ c.requires.1 (w ∙ c.if-spells.true)) c.parse_any.ensures.parses

pub name-returns-in_err-after-clause-parses : goal.name-returns-in_err-after-clause-parses
name-returns-in_err-after-clause-parses t c =
    let w = spelled _ _ _ _ (name_in_lem c.requires.0 c.requires.1).part (rw c.of.ensures at c.spells.ensures) plain-any in
    rw (stopped c.from_residual.result c.from_residual.ensures.1) (inner-named-refused _ _ _ c.requires.1 (w ∙ c.if-spells.false) c.in_err-after.ensures.0)

pub name-named-requires : goal.name-named-requires
name-named-requires t c =
    let o = next-behind _ _ (name-token c.args.token c.requires.1) c.requires.0.lies c.in_ok-after.ensures in
    (falls_past 13 13 o.on c.decreases (omega arith), (c.requires.0, o, c.requires.1))

pub name-returns-clause-parses : goal.name-returns-clause-parses
name-returns-clause-parses t c =
    let w = spelled _ _ _ _ (name_in_lem c.requires.0 c.requires.1).part (rw c.of.ensures at c.spells.ensures) plain-any in
    rw (inner-named _ _ _ c.requires.1 (w ∙ c.if-spells.false) c.in_ok-after.ensures.0) c.named.ensures.parses

pub named-returns-in-91-clause-parses : goal.named-returns-in-91-clause-parses
named-returns-in-91-clause-parses t c = rw (named_inline _ _ _ _ _ (rw c.mark.ensures at c.in-91.is)) c.inline.ensures.parses

pub named-returns-then-is_std-clause-parses : goal.named-returns-then-is_std-clause-parses
named-returns-then-is_std-clause-parses t c =
    rw (named_std (choice_at c.args.left) c.args.source.now (start_in c.args.name) c.args.text c.args.token (λ q. grind (arith, c.mark.ensures)) (λ q. grind (arith, c.mark.ensures)) (sym c.is_std.ensures ∙ c.if-is_std.true)) c.std_class.ensures.parses

pub named-returns-else-is_std-clause-parses : goal.named-returns-else-is_std-clause-parses
named-returns-else-is_std-clause-parses t c =
    rw (named-plain (choice_at c.args.left) c.args.source.now (start_in c.args.name) c.args.text c.args.token (λ q. grind (arith, c.mark.ensures)) (λ q. grind (arith, c.mark.ensures)) (sym c.is_std.ensures ∙ c.if-is_std.false)) c.apply.ensures.parses

pub pair-returns-in_err-first-clause-parses : goal.pair-returns-in_err-first-clause-parses
pair-returns-in_err-first-clause-parses t c = rw (stopped c.from_residual.result c.from_residual.ensures.1) (R.parts_below _ _ _ c.in_err-first.ensures.parses)

pub pair-returns-in_err-comma-clause-parses : goal.pair-returns-in_err-comma-clause-parses
pair-returns-in_err-comma-clause-parses t c = rw (stopped c.from_residual-in_err-comma.result c.from_residual-in_err-comma.ensures.1) (R.parts-comma _ _ _ c.in_ok-first.ensures.parses.gives (c.in_err-comma.ensures.eats "," refl))

pub pair-returns-in_err-parse_specialize_content-clause-parses : goal.pair-returns-in_err-parse_specialize_content-clause-parses
pair-returns-in_err-parse_specialize_content-clause-parses t c =
    let g = c.in_ok-first.ensures.parses in
    rw (stopped c.from_residual-in_err-parse_specialize_content.result c.from_residual-in_err-parse_specialize_content.ensures.1)
    (R.parts-one-refused _ _ _ g.gives ((rw c.in_default.is at c.in_ok-comma.ensures).eats "," refl)
    (content-is _ _ _ _ _ _ _ g.shown _ ∙ c.in_err-parse_specialize_content.ensures.stores _))

pub pair-returns-in_default-clause-parses : goal.pair-returns-in_default-clause-parses
pair-returns-in_default-clause-parses t c =
    pair_one (choice_at c.args.left) c.args.start c.in_ok-first.ensures.parses c.in_ok-parse_specialize_content.ensures.stores
    ((rw c.in_default.is at c.in_ok-comma.ensures).eats "," refl) c.expect_punctuation.result c.expect_punctuation.ensures

pub pair-parse_expression_choice-requires-2 : goal.pair-parse_expression_choice-requires-2
pair-parse_expression_choice-requires-2 t c =
    let g = c.in_ok-first.ensures.parses in
    let o = eat-onward _ "," _ (omega arith) g.onward.lies (rw c.in-Some.is at c.in_ok-comma.ensures) in
    (falls_past 21 20 (onward_then g.onward o) c.decreases (omega arith), ready_past c.requires g.lays (omega arith) o)

pub pair-returns-in_err-second-clause-parses : goal.pair-returns-in_err-second-clause-parses
pair-returns-in_err-second-clause-parses t c =
    rw (stopped c.from_residual-in_err-second.result c.from_residual-in_err-second.ensures.1)
    (R.parts-second _ _ _ c.in_ok-first.ensures.parses.gives ((rw c.in-Some.is at c.in_ok-comma.ensures).eats "," refl) (R.second_below _ _ c.in_err-second.ensures.parses))

pub pair-returns-clause-parses : goal.pair-returns-clause-parses
pair-returns-clause-parses t c =
    let g = c.in_ok-first.ensures.parses in
    let e = rw c.in-Some.is at c.in_ok-comma.ensures in
    pair_two (choice_at c.args.left) c.args.start g c.in_ok-second.ensures.parses (eat-onward _ "," _ (omega arith) g.onward.lies e) (e.eats "," refl)
    c.expect_punctuation-2.result c.expect_punctuation-2.ensures

pub parens-returns-in_err-empty-clause-parses : goal.parens-returns-in_err-empty-clause-parses
parens-returns-in_err-empty-clause-parses t c = rw (stopped c.from_residual.result c.from_residual.ensures.1) (R.paren_refused _ _ _ (c.in_err-empty.ensures.eats ")" refl))

pub parens-returns-in-Some-clause-parses : goal.parens-returns-in-Some-clause-parses
parens-returns-in-Some-clause-parses t c =
    let e = rw c.in-Some.is at c.in_ok-empty.ensures in
    let o = onward_then c.requires.1 (eat-onward _ ")" _ (omega arith) c.requires.1.lies e) in
    let x = o.ahead in
    let z = no_texts in
    rw c.start-start.ensures (
    yields-least 1 (yields-over (Expression.empty (start_in c.args.first)) 0 (R.paren_empty _ _ _ (e.eats ")" refl)) o (stores-none _)
    (rw c.start-start.ensures at c.put_plain.ensures.stores) (nodes-empty (start_in c.args.first)) (omega arith) (omega arith)
    (shown-empty _ _ _ (start_in c.args.first) (ready_start c.requires.0))) (omega arith))

pub parens-returns-in_err-inside-clause-parses : goal.parens-returns-in_err-inside-clause-parses
parens-returns-in_err-inside-clause-parses t c = rw (stopped c.from_residual-in_err-inside.result c.from_residual-in_err-inside.ensures.1) (R.paren_below _ _ _ ((rw c.in_default.is at c.in_ok-empty.ensures).eats ")" refl) c.in_err-inside.ensures.parses)

pub parens-returns-in_err-closed-clause-parses : goal.parens-returns-in_err-closed-clause-parses
parens-returns-in_err-closed-clause-parses t c =
    rw (stopped c.from_residual-in_err-closed.result c.from_residual-in_err-closed.ensures.1)
    (R.paren_close _ _ _ ((rw c.in_default.is at c.in_ok-empty.ensures).eats ")" refl) c.in_ok-inside.ensures.parses.gives (c.in_err-closed.ensures.expects ")" refl))

pub parens-returns-clause-parses : goal.parens-returns-clause-parses
parens-returns-clause-parses t c =
    let g = c.in_ok-inside.ensures.parses in
    let q = expect-onward _ ")" _ (omega arith) g.onward.lies c.in_ok-closed.ensures in
    let e = R.paren_done _ _ _ ((rw c.in_default.is at c.in_ok-empty.ensures).eats ")" refl) g.gives (c.in_ok-closed.ensures.expects ")" refl) in
    yields-least 1 (yields_within g c.requires.1 q e (omega arith)) (omega arith)

pub parse_expression_choice-returns-then-left-eq0-clause-parses : goal.parse_expression_choice-returns-then-left-eq0-clause-parses
parse_expression_choice-returns-then-left-eq0-clause-parses t c = choice-deep _ _ c.if-left-eq0.true ∙ rw (start-of _ c.args.token, c.start-start.ensures)

pub parse_expression_choice-returns-in_err-first-clause-parses : goal.parse_expression_choice-returns-in_err-first-clause-parses
parse_expression_choice-returns-in_err-first-clause-parses t c = rw (stopped c.from_residual.result c.from_residual.ensures.1) (choice-sequence _ _ c.if-left-eq0.false c.in_err-first.ensures.parses)

pub parse_expression_choice-returns-in_err-others-clause-parses : goal.parse_expression_choice-returns-in_err-others-clause-parses
parse_expression_choice-returns-in_err-others-clause-parses t c = rw (stopped c.from_residual-in_err-others.result c.from_residual-in_err-others.ensures.1) (choice-arms _ _ c.if-left-eq0.false c.in_ok-first.ensures.parses.gives c.in_err-others.ensures.parses)

pub parse_expression_choice-returns-then-others-eq0-clause-parses : goal.parse_expression_choice-returns-then-others-eq0-clause-parses
parse_expression_choice-returns-then-others-eq0-clause-parses t c =
    let g = c.in_ok-first.ensures.parses in
    let y = c.in_ok-others.ensures.parses in
    choice-alone g y (choice-one _ _ c.if-left-eq0.false g.gives y.lists.gives (y.lists.counted ∙ c.if-others-eq0.true)) c.if-others-eq0.true

pub parse_expression_choice-returns-in-Some-clause-parses : goal.parse_expression_choice-returns-in-Some-clause-parses
parse_expression_choice-returns-in-Some-clause-parses t c =
    let g = c.in_ok-first.ensures.parses in
    let y = c.in_ok-others.ensures.parses in
    choice-empty _ _ c.if-left-eq0.false g.gives y.lists.gives (λ z. c.if-others-eq0.false (sym y.lists.counted ∙ z)) (first-empty g y ∙ rw (← c.first_of.ensures, c.in-Some.is))

pub parse_expression_choice-overflow_add-others : goal.parse_expression_choice-overflow_add-others
parse_expression_choice-overflow_add-others t c = let k = choice_ready c.in_ok-first.ensures.parses c.in_ok-others.ensures.parses c.requires in omega arith

pub parse_expression_choice-put_plain-requires : goal.parse_expression_choice-put_plain-requires
parse_expression_choice-put_plain-requires t c =
    let k = choice_ready c.in_ok-first.ensures.parses c.in_ok-others.ensures.parses c.requires in
    let z = ready_start c.requires in
    let w = c.requires.small in
    (omega arith, rw c.start-start.ensures (omega arith), omega arith)

pub parse_expression_choice-returns-clause-parses : goal.parse_expression_choice-returns-clause-parses
parse_expression_choice-returns-clause-parses t c =
    let g = c.in_ok-first.ensures.parses in
    let y = c.in_ok-others.ensures.parses in
    let e = choice-done _ _ c.if-left-eq0.false g.gives y.lists.gives (λ z. c.if-others-eq0.false (sym y.lists.counted ∙ z)) (first-empty g y ∙ rw (← c.first_of.ensures, c.in_default.is)) in
    rw c.start-start.ensures (choice-over g y _ (rw (start-of _ c.args.token) at e) (ready_start c.requires) (rw c.start-start.ensures at c.put_plain.ensures.stores))

pub parse_expression_inner-returns-in-Eof-clause-parses : goal.parse_expression_inner-returns-in-Eof-clause-parses
parse_expression_inner-returns-in-Eof-clause-parses t c = inner-end _ _ _ c.in-Eof.is ∙ rw (c.unexpected.ensures.0, c.unexpected.ensures.1, c.in-Eof.is)

pub parse_expression_inner-returns-in-Of-String-default-default-clause-parses : goal.parse_expression_inner-returns-in-Of-String-default-default-clause-parses
parse_expression_inner-returns-in-Of-String-default-default-clause-parses t c =
    let i = c.in-Of-String-default-default in
    rw (inner-string _ _ _ i.is (rw i.is at i.field-0-is)) c.parse_literal_expression.ensures.parses

pub parse_expression_inner-returns-in-Of-Set-default-default-clause-parses : goal.parse_expression_inner-returns-in-Of-Set-default-default-clause-parses
parse_expression_inner-returns-in-Of-Set-default-default-clause-parses t c =
    let i = c.in-Of-Set-default-default in
    rw (inner-set _ _ _ i.is (rw i.is at i.field-0-is)) c.parse_set_expression.ensures.parses

pub parse_expression_sequence-returns-in_err-read-clause-parses : goal.parse_expression_sequence-returns-in_err-read-clause-parses
parse_expression_sequence-returns-in_err-read-clause-parses t c = rw (stopped c.from_residual.result c.from_residual.ensures.1) (sequence-refused _ _ c.in_err-read.ensures.parses)

pub parse_expression_sequence-returns-then-read-eq1-clause-parses : goal.parse_expression_sequence-returns-then-read-eq1-clause-parses
parse_expression_sequence-returns-then-read-eq1-clause-parses t c =
    let y = c.in_ok-read.ensures.parses in sequence-alone y _ (sequence-done _ _ y.lists.gives) c.if-read-eq0.true c.if-read-eq1.true

pub parse_expression_sequence-overflow_add-read : goal.parse_expression_sequence-overflow_add-read
parse_expression_sequence-overflow_add-read t c = let k = items-small c.in_ok-read.ensures.parses c.requires.small in omega arith

pub parse_expression_sequence-put_plain-requires : goal.parse_expression_sequence-put_plain-requires
parse_expression_sequence-put_plain-requires t c =
    let y = c.in_ok-read.ensures.parses in put-plain_asks c.requires (ready_on c.requires y.lists.onward y.lists.lays) c.start-start.ensures (items-small y c.requires.small)

pub parse_expression_sequence-returns-clause-parses : goal.parse_expression_sequence-returns-clause-parses
parse_expression_sequence-returns-clause-parses t c =
    let y = c.in_ok-read.ensures.parses in
    rw (c.sequence_shape.ensures, c.start-start.ensures) (sequence-over y _ (rw (start-of _ c.args.token) at (sequence-done _ _ y.lists.gives))
    (λ i j. elim c.else-read-eq0.either [ inl w ↦ w.1 j | inr w ↦ w i ]) (ready_start c.requires) (rw c.start-start.ensures at c.put_plain.ensures.stores))

pub parse_expression_suffix-returns-in_err-inner-clause-parses : goal.parse_expression_suffix-returns-in_err-inner-clause-parses
parse_expression_suffix-returns-in_err-inner-clause-parses t c = rw (stopped c.from_residual.result c.from_residual.ensures.1) (suffix_inner _ _ c.in_err-inner.ensures.parses)

pub parse_expression_suffix-returns-in_err-after-clause-parses : goal.parse_expression_suffix-returns-in_err-after-clause-parses
parse_expression_suffix-returns-in_err-after-clause-parses t c =
    let g = c.in_ok-inner.ensures.parses in
    rw (stopped c.from_residual-in_err-after.result c.from_residual-in_err-after.ensures.1) (suffix_repeats _ _ g.gives (rw (c.stack-stack.ensures, ← g.shown.stacks) at c.in_err-after.ensures.parses))

pub parse_expression_suffix-returns-then-count-eq0-clause-parses : goal.parse_expression_suffix-returns-then-count-eq0-clause-parses
parse_expression_suffix-returns-then-count-eq0-clause-parses t c =
    let g = c.in_ok-inner.ensures.parses in
    let l = rw (c.start-start.ensures, c.stack-stack.ensures, ← g.shown.stacks) at c.in_ok-after.ensures.parses in
    suffix_plain g l (rw (start-of _ c.args.token) at (suffix_done _ _ g.gives l.gives)) c.if-count-eq0.true

pub parse_expression_suffix-overflow_add-result : goal.parse_expression_suffix-overflow_add-result
parse_expression_suffix-overflow_add-result t c =
    let g = c.in_ok-inner.ensures.parses in
    let l = rw (c.start-start.ensures, c.stack-stack.ensures, ← g.shown.stacks) at c.in_ok-after.ensures.parses in
    let low = stack-low _ _ _ _ (rw g.shown.stacks g.shown.low) l.gives in let k = small-stack c.stack-stack.ensures g.shown.stacks l.counted low in omega arith

pub parse_expression_suffix-returns-clause-parses : goal.parse_expression_suffix-returns-clause-parses
parse_expression_suffix-returns-clause-parses t c =
    let g = c.in_ok-inner.ensures.parses in
    let l = rw (c.start-start.ensures, c.stack-stack.ensures, ← g.shown.stacks) at c.in_ok-after.ensures.parses in
    let low = stack-low _ _ _ _ (rw g.shown.stacks g.shown.low) l.gives in
    rw c.start-start.ensures (suffix_repeated g l (rw (start-of _ c.args.token) at (suffix_done _ _ g.gives l.gives)) c.if-count-eq0.false (ready_start c.requires) c.stack-stack.ensures
    (rw (c.stack-stack.ensures, ← g.shown.stacks, ← l.counted) low))

pub specialize-returns-in_err-head-clause-parses : goal.specialize-returns-in_err-head-clause-parses
specialize-returns-in_err-head-clause-parses t c = rw (stopped c.from_residual.result c.from_residual.ensures.1) (R.special-head _ _ _ _ c.in_err-head.ensures.parses)

pub specialize-returns-in_err-closed-clause-parses : goal.specialize-returns-in_err-closed-clause-parses
specialize-returns-in_err-closed-clause-parses t c =
    rw (stopped c.from_residual-in_err-closed.result c.from_residual-in_err-closed.ensures.1) (R.special-parts _ _ _ _ c.in_ok-head.ensures.parses.lists.gives (rw c.start-start.ensures at c.in_err-closed.ensures.parses))

pub specialize-overflow_add-count : goal.specialize-overflow_add-count
specialize-overflow_add-count t c = let k = lists-small prop_branch c.in_ok-head.ensures.parses.lists c.requires.0.small in omega arith

pub specialize-put_plain-requires : goal.specialize-put_plain-requires
specialize-put_plain-requires t c =
    let h = c.in_ok-head.ensures.parses in
    let x = rw c.start-start.ensures at c.in_ok-closed.ensures.parses in
    let k = lists-small prop_branch h.lists c.requires.0.small in
    put-plain_asks c.requires.0 (special_ready c.requires.0 h x) c.start-start.ensures (omega arith)

pub specialize-returns-clause-parses : goal.specialize-returns-clause-parses
specialize-returns-clause-parses t c =
    let h = c.in_ok-head.ensures.parses in
    let x = rw c.start-start.ensures at c.in_ok-closed.ensures.parses in
    rw c.start-start.ensures (special-over (specialize_of c.args.kind) _ h x (ready_start c.requires.0) c.value.ensures (rw c.start-start.ensures at c.put_plain.ensures.stores)
    (R.special-done _ _ _ _ h.lists.gives x.gives))

pub word-returns-then-spells-clause-parses : goal.word-returns-then-spells-clause-parses
word-returns-then-spells-clause-parses t c =
    let w = spelled _ _ _ _ (at_in_lem c.requires.0 c.requires.1).part (rw c.of.ensures at c.spells.ensures) plain-specialize in
    rw (inner-specialize _ _ _ c.requires.1 (w ∙ c.if-spells.true)) c.specialize.ensures.parses

pub word-returns-then-spells-2-clause-parses : goal.word-returns-then-spells-2-clause-parses
word-returns-then-spells-2-clause-parses t c =
    let w = spelled _ _ _ _ (at_in_lem c.requires.0 c.requires.1).part (rw c.of.ensures at c.spells.ensures) plain-specialize in
    let v = spelled _ _ _ _ (at_in_lem c.requires.0 c.requires.1).part (rw c.of-2.ensures at c.spells-2.ensures) plain-extend in
    rw (inner-extend _ _ _ c.requires.1 (w ∙ c.if-spells.false) (v ∙ c.if-spells-2.true)) c.specialize-then-spells-2.ensures.parses

pub word-returns-clause-parses : goal.word-returns-clause-parses
word-returns-clause-parses t c =
    let w = spelled _ _ _ _ (at_in_lem c.requires.0 c.requires.1).part (rw c.of.ensures at c.spells.ensures) plain-specialize in
    let v = spelled _ _ _ _ (at_in_lem c.requires.0 c.requires.1).part (rw c.of-2.ensures at c.spells-2.ensures) plain-extend in
    rw (inner-class _ _ _ c.requires.1 (w ∙ c.if-spells.false) (v ∙ c.if-spells-2.false)) (rw c.start.ensures at c.parse_class.ensures.parses)
