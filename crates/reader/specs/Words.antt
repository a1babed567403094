-- The words that declarations begin with.
-- Assumes nothing.
use Rattle.std.specs.Prelude as Std
use Rattle.std.specs.Prelude.{ℕ, List, Some, None}
use Rattle.std.proofs.Math.Option.{Option}
use Rattle.basics.specs.Basics.{if◌then◌otherwise◌}
use Rattle.notation.specs.Parser.{says}
use Rattle.tree.specs.declared.SpecializeKind.TheVariants.{Extend, Specialize}
use Rattle.reader.specs.declared.words.Directive.{Directive}
use Rattle.reader.specs.declared.words.Directive.TheVariants as D
use Rattle.reader.specs.declared.words.External.{External}
use Rattle.reader.specs.declared.words.External.TheVariants as E

-- what follows the `@` of a declaration, if it is one of these words
unfoldable pub directive_of : Option (List ℕ) → Std.Option Directive
directive_of t =
    if says "top" t then Some D.Top
    otherwise if says "tokens" t then Some D.Tokens
    otherwise if says "local" t then Some D.Local
    otherwise if says "context" t then Some D.Context
    otherwise if says "external" t then Some D.External
    otherwise if says "dialects" t then Some D.Dialects
    otherwise if says "precedence" t then Some D.Precedence
    otherwise if says "detectDelim" t then Some D.DetectDelim
    otherwise if says "skip" t then Some D.Skip
    otherwise None

-- what follows `@external`, if it is one of these words
unfoldable pub external_of : Option (List ℕ) → Std.Option External
external_of t =
    if says "tokens" t then Some E.Tokens
    otherwise if says "prop" t then Some E.Prop
    otherwise if says "extend" t then Some (E.Specializer Extend)
    otherwise if says "specialize" t then Some (E.Specializer Specialize)
    otherwise if says "propSource" t then Some E.PropSource
    otherwise None
