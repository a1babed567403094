-- Where the tokens of a text end.
-- Assumes nothing.
use Prim.Native.Nat.{ℕ, zero, suc, ◌+◌, ◌-◌, ◌≤◌}
use mathlib.Core.Path.{◌≡◌}
use mathlib.Core.List.{List, [], ◌∷◌}
use lib.ListN.{length}
use Rattle.basics.proofs.Tests.{impossible}
use Rattle.characters.specs.Utf8.{width}
use Rattle.characters.specs.Places.{chars_at, past}
use Rattle.characters.proofs.Chars.{run_at}
use Rattle.lexer.specs.Tokens.{token, eof, bad, Piece, piece, lay, tokens_from}
use Rattle.lexer.specs.Tokens as T
use Rattle.lexer.specs.Promise.{tokens_at}

-- if there is no token, the end stands behind all characters
eof-past : (cs : List ℕ) (k at : ℕ) {p : ℕ} → tokens_from cs k at ≡ eof p → p ≡ past at (length cs) cs
unfolding tokens_from past
eof-past [] k at e = cc
eof-past (c ∷ cs) (suc k) at e = eof-past cs k (at + width c) e
eof-past (c ∷ cs) zero at {p} e = by (λ k h. eof-past cs k (at + width c) h) (piece c cs) e
  where
    by : ((k : ℕ) → tokens_from cs k (at + width c) ≡ eof p → p ≡ past (at + width c) (length cs) cs) → (x : Piece) → lay x at (λ k. tokens_from cs k (at + width c)) ≡ eof p
        → p ≡ past (at + width c) (length cs) cs
    by f (T.blank n) h = f (n - 1) h
    by f (T.token k n) h = impossible (cc)
    by f (T.bad n) h = impossible (cc)

pub eof-inside : (s : List ℕ) (from : ℕ) {p : ℕ} → tokens_at s from ≡ eof p → from ≤ length s → p ≤ length s
unfolding tokens_at
eof-inside s from {p} e h = rw (eof-past (chars_at s from) 0 from e) (run_at s from (length (chars_at s from)) h).inside
