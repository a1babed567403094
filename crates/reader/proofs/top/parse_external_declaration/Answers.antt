-- `top::parse_external_declaration` meets its contract.
-- Assumes nothing.
use mathlib.Core.Bool.{false}
use mathlib.Core.Path.{refl, ◌∙◌}
use Rattle.tree.specs.Stored.{declaration_branch}
use Rattle.tree.specs.Promise.{specialize_of}
use Rattle.notation.specs.Members.{declaration}
use Rattle.notation.specs.Declarations.{parse_external_tokens, parse_external_specializer, parse_external_prop_source}
use Rattle.parser.specs.Storing.{nodes_of}
use Rattle.reader.proofs.RoomyLaws.{roomy_ready}
use Rattle.reader.proofs.TopLaws.{past-then, plain_of, declares-by, declares_not, declares_as, tokens-kind, specializer_kind, prop-source-kind}
use Rattle.reader.proofs.WordLaws.{worded, external-is, external-token, external-other}
use Rattle.tokens.proofs.Stops.{stopped}
use Rattle.reader.proofs.top.parse_external_declaration.Goals as goal

pub parse_external_tokens-requires : goal.parse_external_tokens-requires
parse_external_tokens-requires c = (c.requires.0, external-token c.args.source.now c.args.token c.name.ensures c.which_external.ensures c.in-Some-Tokens.is, c.requires.1)

pub returns-in_err-after-in-Some-Tokens-clause-declares : goal.returns-in_err-after-in-Some-Tokens-clause-declares
returns-in_err-after-in-Some-Tokens-clause-declares c = rw (stopped c.from_residual.result c.from_residual.ensures.1) (declares_not declaration _ _ _ (λ before q. external-is c.args.source.now c.args.token c.name.ensures c.which_external.ensures (worded c.in-Some-Tokens.is c.in-Some-Tokens.field-0-is) c.args.start ∙ past-then (parse_external_tokens c.args.start) _ _) c.in_err-after-in-Some-Tokens.ensures.parses)

pub returns-in_ok-after-in-Some-Tokens-clause-declares : goal.returns-in_ok-after-in-Some-Tokens-clause-declares
returns-in_ok-after-in-Some-Tokens-clause-declares c = rw c.of_kind.ensures (declares-by declaration _ _ (nodes_of declaration_branch) 16 false _ _ _ _ _ (λ before q. external-is c.args.source.now c.args.token c.name.ensures c.which_external.ensures (worded c.in-Some-Tokens.is c.in-Some-Tokens.field-0-is) c.args.start ∙ past-then (parse_external_tokens c.args.start) _ _) (plain_of _ (tokens-kind c.args.start _)) c.in_ok-after-in-Some-Tokens.ensures.parses)

pub parse_prop-requires : goal.parse_prop-requires
parse_prop-requires c = (roomy_ready c.requires.0, external-token c.args.source.now c.args.token c.name.ensures c.which_external.ensures c.in-Some-Prop.is, c.requires.1)

pub returns-in-Some-Prop-clause-declares : goal.returns-in-Some-Prop-clause-declares
returns-in-Some-Prop-clause-declares c = declares_as _ _ _ _ _ _ _ (λ before q. external-is c.args.source.now c.args.token c.name.ensures c.which_external.ensures (worded c.in-Some-Prop.is c.in-Some-Prop.field-0-is) c.args.start) c.parse_prop.result c.parse_prop.ensures.declares

pub parse_external_specializer-requires : goal.parse_external_specializer-requires
parse_external_specializer-requires c = (c.requires.0, external-token c.args.source.now c.args.token c.name.ensures c.which_external.ensures c.in-Some-Specializer.is, c.requires.1)

pub returns-in_err-after-in-Some-Specializer-clause-declares : goal.returns-in_err-after-in-Some-Specializer-clause-declares
returns-in_err-after-in-Some-Specializer-clause-declares c = rw (stopped c.from_residual-in_err-after-in-Some-Specializer.result c.from_residual-in_err-after-in-Some-Specializer.ensures.1) (declares_not declaration _ _ _ (λ before q. external-is c.args.source.now c.args.token c.name.ensures c.which_external.ensures (worded c.in-Some-Specializer.is c.in-Some-Specializer.field-0-is) c.args.start ∙ past-then (parse_external_specializer c.args.start (specialize_of c.in-Some-Specializer.kind)) _ _) c.in_err-after-in-Some-Specializer.ensures.parses)

pub returns-in_ok-after-in-Some-Specializer-clause-declares : goal.returns-in_ok-after-in-Some-Specializer-clause-declares
returns-in_ok-after-in-Some-Specializer-clause-declares c = rw c.of_kind-in-Some-Specializer.ensures (declares-by declaration _ _ (nodes_of declaration_branch) 18 false _ _ _ _ _ (λ before q. external-is c.args.source.now c.args.token c.name.ensures c.which_external.ensures (worded c.in-Some-Specializer.is c.in-Some-Specializer.field-0-is) c.args.start ∙ past-then (parse_external_specializer c.args.start (specialize_of c.in-Some-Specializer.kind)) _ _) (plain_of _ (specializer_kind c.args.start (specialize_of c.in-Some-Specializer.kind) _)) c.in_ok-after-in-Some-Specializer.ensures.parses)

pub parse_prop_source-requires : goal.parse_prop_source-requires
parse_prop_source-requires c = (roomy_ready c.requires.0, external-token c.args.source.now c.args.token c.name.ensures c.which_external.ensures c.in-Some-PropSource.is, c.requires.1)

pub returns-in_err-after-in-Some-PropSource-clause-declares : goal.returns-in_err-after-in-Some-PropSource-clause-declares
returns-in_err-after-in-Some-PropSource-clause-declares c = rw (stopped c.from_residual-in_err-after-in-Some-PropSource.result c.from_residual-in_err-after-in-Some-PropSource.ensures.1) (declares_not declaration _ _ _ (λ before q. external-is c.args.source.now c.args.token c.name.ensures c.which_external.ensures (worded c.in-Some-PropSource.is c.in-Some-PropSource.field-0-is) c.args.start ∙ past-then (parse_external_prop_source c.args.start) _ _) c.in_err-after-in-Some-PropSource.ensures.parses)

pub returns-in_ok-after-in-Some-PropSource-clause-declares : goal.returns-in_ok-after-in-Some-PropSource-clause-declares
returns-in_ok-after-in-Some-PropSource-clause-declares c = rw c.of_kind-in-Some-PropSource.ensures (declares-by declaration _ _ (nodes_of declaration_branch) 19 false _ _ _ _ _ (λ before q. external-is c.args.source.now c.args.token c.name.ensures c.which_external.ensures (worded c.in-Some-PropSource.is c.in-Some-PropSource.field-0-is) c.args.start ∙ past-then (parse_external_prop_source c.args.start) _ _) (plain_of _ (prop-source-kind c.args.start _)) c.in_ok-after-in-Some-PropSource.ensures.parses)

pub returns-in-None-clause-declares : goal.returns-in-None-clause-declares
returns-in-None-clause-declares c = rw c.unexpected.ensures.0 (λ before q. external-other c.args.source.now c.args.token c.name.ensures c.which_external.ensures c.in-None.is refl c.unexpected.ensures.1 c.args.start)
