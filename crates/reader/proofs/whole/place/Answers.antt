-- `whole::place` meets its contract.
-- Assumes nothing.
use Rattle.reader.specs.Places.{place_in}
use Rattle.reader.proofs.TopPlaces.{place-last}
use Rattle.reader.proofs.whole.place.Goals as goal

pub returns-in-TopRule : goal.returns-in-TopRule
unfolding place_in
returns-in-TopRule c = rw c.in-TopRule.is

pub returns-in-Rule : goal.returns-in-Rule
unfolding place_in
returns-in-Rule c = rw c.in-Rule.is

pub returns-in-Tokens : goal.returns-in-Tokens
unfolding place_in
returns-in-Tokens c = rw c.in-Tokens.is

pub returns-in-LocalTokens : goal.returns-in-LocalTokens
unfolding place_in
returns-in-LocalTokens c = rw c.in-LocalTokens.is

pub returns-in-Context : goal.returns-in-Context
unfolding place_in
returns-in-Context c = rw c.in-Context.is

pub returns-in-ExternalTokens : goal.returns-in-ExternalTokens
unfolding place_in
returns-in-ExternalTokens c = rw c.in-ExternalTokens.is

pub returns-in-ExternalSpecializer : goal.returns-in-ExternalSpecializer
unfolding place_in
returns-in-ExternalSpecializer c = rw c.in-ExternalSpecializer.is

pub returns-in-PropSource : goal.returns-in-PropSource
unfolding place_in
returns-in-PropSource c = rw c.in-PropSource.is

pub returns-in-Precedences : goal.returns-in-Precedences
unfolding place_in
returns-in-Precedences c = rw c.in-Precedences.is

pub returns-in-MainSkip : goal.returns-in-MainSkip
unfolding place_in
returns-in-MainSkip c = rw c.in-MainSkip.is

pub returns-in-ScopedSkip : goal.returns-in-ScopedSkip
unfolding place_in
returns-in-ScopedSkip c = rw c.in-ScopedSkip.is

pub returns-in-ExternalProp : goal.returns-in-ExternalProp
unfolding place_in
returns-in-ExternalProp c = rw c.in-ExternalProp.is

pub returns-in_default : goal.returns-in_default
returns-in_default c = place-last c.args.kind c.in_default.not-TopRule c.in_default.not-Rule c.in_default.not-Tokens c.in_default.not-LocalTokens c.in_default.not-Context c.in_default.not-ExternalTokens c.in_default.not-ExternalSpecializer c.in_default.not-PropSource c.in_default.not-Precedences c.in_default.not-MainSkip c.in_default.not-ScopedSkip c.in_default.not-ExternalProp
