-- `characters::check` meets its contract. Assumes nothing.
use Rattle.std.specs.Prelude.{◌≡◌, ℕ, List, Result, Ok, Err}
use Rattle.std.specs.Result.{MatchResult, IsErrAnd}
use Rattle.std.specs.Str.{IsUtf8, IsValidUpTo, valid_up_to}
use Rattle.std.proofs.Common.{rules}
use Rattle.std.proofs.lemmas.Result.{MatchResult-at_ok, MatchResult-at_err, err_from_is_err_and}
use mathlib.Core.Path.{sym}
use Rattle.characters.specs.declared.IllFormed.{IllFormed}
use Rattle.characters.specs.Utf8.{check}
use Rattle.characters.proofs.Checked.{check-good, check-ill}
use Rattle.characters.proofs.check.Goals as goal

-- the library's answer, with its error replaced, is the check's
checked : {X E : Type 0} {Q : E → IllFormed → Type 0} (A : X → Type 0) (B : E → Type 0) (s : List ℕ) (until : E → ℕ) (o : Result X E) (r : Result X IllFormed)
    → MatchResult o (λ x. A x × IsUtf8 s) (λ e. B e × IsValidUpTo s (until e)) → MatchResult o (λ x. r ≡ Ok x) (λ e. IsErrAnd r (Q e))
    → ((e : E) (f : IllFormed) → Q e f → f ≡ record { at = until e }) → MatchResult r (λ x. check s ≡ Ok tt) (λ f. check s ≡ Err f)
checked A B s until (Ok x) r m n h = rw n (check-good s m.1)
checked A B s until (Err e) (Err f) m n h = rw (h e f n) (check-ill s (until e) m.1)
checked A B s until (Err e) (Ok x) m n h = absurd n

pub returns-in_err-map_err : goal.returns-in_err-map_err
returns-in_err-map_err c =
    let p = err_from_is_err_and c.from_residual.result c.from_residual.ensures.1 in
    rw (p.1, p.2) (sym (MatchResult-at_err _ _ _ c.in_err-map_err.was (checked _ _ c.args.text.now valid_up_to _ _ c.from_utf8.ensures.cases c.map_err.ensures.cases (λ e f l. search rules))))

pub returns : goal.returns
returns c =
    sym (MatchResult-at_ok _ _ _ c.in_ok-map_err.was (checked _ _ c.args.text.now valid_up_to _ _ c.from_utf8.ensures.cases c.map_err.ensures.cases (λ e f l. search rules)))
