-- `tree::CharClass::from_name` meets its contract: the tests of the definition, in its order. Assumes nothing.
use mathlib.Core.Path.{sym, ◌∙◌}
use Rattle.tree.proofs.Names.{names_codes}
use Rattle.tree.proofs.CharClass.from_name.Goals as goal

pub returns-then-same_bytes-clause-bytes : goal.returns-then-same_bytes-clause-bytes
returns-then-same_bytes-clause-bytes c = rw (sym c.same_bytes.ensures ∙ c.if-same_bytes.true)

pub returns-then-same_bytes-clause-text : goal.returns-then-same_bytes-clause-text
returns-then-same_bytes-clause-text c = λ h. returns-then-same_bytes-clause-bytes c ∙ names_codes _ h

pub returns-then-same_bytes-2-clause-bytes : goal.returns-then-same_bytes-2-clause-bytes
returns-then-same_bytes-2-clause-bytes c = rw (sym c.same_bytes.ensures ∙ c.if-same_bytes.false, sym c.same_bytes-2.ensures ∙ c.if-same_bytes-2.true)

pub returns-then-same_bytes-2-clause-text : goal.returns-then-same_bytes-2-clause-text
returns-then-same_bytes-2-clause-text c = λ h. returns-then-same_bytes-2-clause-bytes c ∙ names_codes _ h

pub returns-then-same_bytes-3-clause-bytes : goal.returns-then-same_bytes-3-clause-bytes
returns-then-same_bytes-3-clause-bytes c = rw (sym c.same_bytes.ensures ∙ c.if-same_bytes.false, sym c.same_bytes-2.ensures ∙ c.if-same_bytes-2.false, sym c.same_bytes-3.ensures ∙ c.if-same_bytes-3.true)

pub returns-then-same_bytes-3-clause-text : goal.returns-then-same_bytes-3-clause-text
returns-then-same_bytes-3-clause-text c = λ h. returns-then-same_bytes-3-clause-bytes c ∙ names_codes _ h

pub returns-then-same_bytes-4-clause-bytes : goal.returns-then-same_bytes-4-clause-bytes
returns-then-same_bytes-4-clause-bytes c = rw (sym c.same_bytes.ensures ∙ c.if-same_bytes.false, sym c.same_bytes-2.ensures ∙ c.if-same_bytes-2.false, sym c.same_bytes-3.ensures ∙ c.if-same_bytes-3.false, sym c.same_bytes-4.ensures ∙ c.if-same_bytes-4.true)

pub returns-then-same_bytes-4-clause-text : goal.returns-then-same_bytes-4-clause-text
returns-then-same_bytes-4-clause-text c = λ h. returns-then-same_bytes-4-clause-bytes c ∙ names_codes _ h

pub returns-then-same_bytes-5-clause-bytes : goal.returns-then-same_bytes-5-clause-bytes
returns-then-same_bytes-5-clause-bytes c = rw (sym c.same_bytes.ensures ∙ c.if-same_bytes.false, sym c.same_bytes-2.ensures ∙ c.if-same_bytes-2.false, sym c.same_bytes-3.ensures ∙ c.if-same_bytes-3.false, sym c.same_bytes-4.ensures ∙ c.if-same_bytes-4.false, sym c.same_bytes-5.ensures ∙ c.if-same_bytes-5.true)

pub returns-then-same_bytes-5-clause-text : goal.returns-then-same_bytes-5-clause-text
returns-then-same_bytes-5-clause-text c = λ h. returns-then-same_bytes-5-clause-bytes c ∙ names_codes _ h

pub returns-then-same_bytes-6-clause-bytes : goal.returns-then-same_bytes-6-clause-bytes
returns-then-same_bytes-6-clause-bytes c = rw (sym c.same_bytes.ensures ∙ c.if-same_bytes.false, sym c.same_bytes-2.ensures ∙ c.if-same_bytes-2.false, sym c.same_bytes-3.ensures ∙ c.if-same_bytes-3.false, sym c.same_bytes-4.ensures ∙ c.if-same_bytes-4.false, sym c.same_bytes-5.ensures ∙ c.if-same_bytes-5.false, sym c.same_bytes-6.ensures ∙ c.if-same_bytes-6.true)

pub returns-then-same_bytes-6-clause-text : goal.returns-then-same_bytes-6-clause-text
returns-then-same_bytes-6-clause-text c = λ h. returns-then-same_bytes-6-clause-bytes c ∙ names_codes _ h

pub returns-clause-bytes : goal.returns-clause-bytes
returns-clause-bytes c = rw (sym c.same_bytes.ensures ∙ c.if-same_bytes.false, sym c.same_bytes-2.ensures ∙ c.if-same_bytes-2.false, sym c.same_bytes-3.ensures ∙ c.if-same_bytes-3.false, sym c.same_bytes-4.ensures ∙ c.if-same_bytes-4.false, sym c.same_bytes-5.ensures ∙ c.if-same_bytes-5.false, sym c.same_bytes-6.ensures ∙ c.if-same_bytes-6.false)

pub returns-clause-text : goal.returns-clause-text
returns-clause-text c = λ h. returns-clause-bytes c ∙ names_codes _ h
