-- `characters::encode_utf8` meets its contract. Assumes nothing.
use mathlib.Core.Path.{refl, sym, ◌∙◌}
use Rattle.characters.proofs.Encode.{scalar-top, encode_1, encode_2, encode_3, encode_4}
use Rattle.characters.proofs.Written.{bytes-none, bytes-some, written_none}
use native.Mathlib.Omega.{arith}
use Rattle.characters.proofs.encode_utf8.Goals as goal

pub returns-then-not-is_scalar : goal.returns-then-not-is_scalar
returns-then-not-is_scalar c = rw (bytes-none _ (sym c.is_scalar.ensures ∙ c.if-not-is_scalar.true)) (refl, sym (written_none _))

pub returns-then-code-lt128 : goal.returns-then-code-lt128
returns-then-code-lt128 c = rw (bytes-some _ (sym c.is_scalar.ensures ∙ c.if-not-is_scalar.false) ∙ encode_1 _ c.if-code-lt128.true) c.lay.ensures

pub returns-then-code-lt2048 : goal.returns-then-code-lt2048
returns-then-code-lt2048 c = rw (bytes-some _ (sym c.is_scalar.ensures ∙ c.if-not-is_scalar.false) ∙ encode_2 _ c.if-code-lt128.false c.if-code-lt2048.true) c.lay-then-code-lt2048.ensures

pub returns-then-code-lt65536 : goal.returns-then-code-lt65536
returns-then-code-lt65536 c = rw (bytes-some _ (sym c.is_scalar.ensures ∙ c.if-not-is_scalar.false) ∙ encode_3 _ c.if-code-lt2048.false c.if-code-lt65536.true) c.lay-then-code-lt65536.ensures

pub overflow_cast-code-2 : goal.overflow_cast-code-2
overflow_cast-code-2 c = omega (arith, scalar-top _ (sym c.is_scalar.ensures ∙ c.if-not-is_scalar.false))

pub returns : goal.returns
returns c = rw (bytes-some _ (sym c.is_scalar.ensures ∙ c.if-not-is_scalar.false) ∙ encode_4 _ c.if-code-lt65536.false) c.lay-2.ensures
