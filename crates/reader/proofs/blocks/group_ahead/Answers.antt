-- `blocks::group_ahead` meets its contract.
-- Assumes nothing.
use mathlib.Core.Path.{refl, ap, sym, ◌∙◌}
use Rattle.basics.specs.Basics.{every}
use Rattle.reader.specs.Places.{place_in}
use Rattle.reader.specs.declared.blocks.Block.TheVariants.{Tokens, LocalTokens, Specializer, Skip}
use Rattle.reader.proofs.TopLaws.{says-word}
use Rattle.reader.proofs.MemberAhead.{group_is, some_text, none_text, conflict_place}
use Rattle.std.specs.Option.{is_some}
use Rattle.tokens.specs.Promise.{string_of}
use Rattle.reader.proofs.blocks.group_ahead.Goals.{else-free-via-then-free+else-says-4, else-free-via-else-free}
use Rattle.reader.proofs.blocks.group_ahead.Goals as goal

pub returns-then-is_some : goal.returns-then-is_some
unfolding every place_in
returns-then-is_some c = group_is c.args.block c.args.free _ c.args.token Tokens 11 c.in-Tokens.is (some_text _ _ _ (ap is_some (sym c.string.ensures) ∙ sym c.is_some.ensures ∙ c.if-is_some.true)) refl

pub returns-then-says : goal.returns-then-says
unfolding every place_in
returns-then-says c = group_is c.args.block c.args.free _ c.args.token Tokens 9 c.in-Tokens.is (rw (none_text _ (string_of c.args.token) (ap is_some (sym c.string.ensures) ∙ sym c.is_some.ensures ∙ c.if-is_some.false), says-word "precedence" refl c.says.ensures c.at-at.ensures c.if-says.true)) refl

pub returns-then-says-2 : goal.returns-then-says-2
unfolding every place_in
returns-then-says-2 c =
    group_is c.args.block c.args.free _ c.args.token Tokens 10 c.in-Tokens.is
    (rw (none_text _ (string_of c.args.token) (ap is_some (sym c.string.ensures) ∙ sym c.is_some.ensures ∙ c.if-is_some.false), says-word "precedence" refl c.says.ensures c.at-at.ensures c.if-says.false, says-word "conflict" refl c.says-in-Tokens.ensures c.at-at.ensures c.if-says-2.true)) refl

pub returns-then-says-3 : goal.returns-then-says-3
unfolding every place_in
returns-then-says-3 c = group_is c.args.block c.args.free _ c.args.token LocalTokens 9 c.in-LocalTokens.is (rw (says-word "precedence" refl c.says-in-LocalTokens.ensures c.at-at.ensures c.if-says-3.true)) refl

pub returns-then-says-4 : goal.returns-then-says-4
unfolding every place_in
returns-then-says-4 c =
    group_is c.args.block c.args.free _ c.args.token LocalTokens 13 c.in-LocalTokens.is
    (rw (says-word "precedence" refl c.says-in-LocalTokens.ensures c.at-at.ensures c.if-says-3.false, c.if-free.true, says-word "else" refl c.says-then-free.ensures c.at-at.ensures c.if-says-4.true)) refl

pub returns-then-says-5 : goal.returns-then-says-5
unfolding every place_in
returns-then-says-5 c = group_is c.args.block c.args.free _ c.args.token Skip 2 c.in-Skip.is (rw (says-word "top" refl c.says-in-Skip.ensures c.at-at.ensures c.if-says-5.true)) refl

pub returns-else-says-2 : goal.returns-else-says-2
unfolding every place_in
returns-else-says-2 c =
    group_is c.args.block c.args.free _ c.args.token Tokens 3 c.in-Tokens.is
    (rw (none_text _ (string_of c.args.token) (ap is_some (sym c.string.ensures) ∙ sym c.is_some.ensures ∙ c.if-is_some.false), says-word "precedence" refl c.says.ensures c.at-at.ensures c.if-says.false, says-word "conflict" refl c.says-in-Tokens.ensures c.at-at.ensures c.if-says-2.false)) refl

pub returns-else-free : goal.returns-else-free
unfolding every place_in
returns-else-free c =
    elim c.else-free.branch [
      | else-free-via-then-free+else-says-4 w ↦ group_is c.args.block c.args.free _ c.args.token LocalTokens 3 c.in-LocalTokens.is
          (rw (says-word "precedence" refl c.says-in-LocalTokens.ensures c.at-at.ensures c.if-says-3.false, w.if-free.true, says-word "else" refl w.says-then-free.ensures c.at-at.ensures w.if-says-4.false)) refl
      | else-free-via-else-free w ↦ group_is c.args.block c.args.free _ c.args.token LocalTokens 3 c.in-LocalTokens.is (rw (says-word "precedence" refl c.says-in-LocalTokens.ensures c.at-at.ensures c.if-says-3.false, w.if-free.false)) refl
    ]

pub returns-in-ExternalTokens : goal.returns-in-ExternalTokens
unfolding every place_in
returns-in-ExternalTokens c = conflict_place c.args.block c.args.free _ c.args.token c.in-ExternalTokens.is c.says-in-ExternalTokens.result (says-word "conflict" refl c.says-in-ExternalTokens.ensures c.at-at.ensures refl)

pub returns-in-Specializer : goal.returns-in-Specializer
unfolding every place_in
returns-in-Specializer c = group_is c.args.block c.args.free _ c.args.token Specializer 13 c.in-Specializer.is refl refl

pub returns-else-says-5 : goal.returns-else-says-5
unfolding every place_in
returns-else-says-5 c = group_is c.args.block c.args.free _ c.args.token Skip 3 c.in-Skip.is (rw (says-word "top" refl c.says-in-Skip.ensures c.at-at.ensures c.if-says-5.false)) refl
