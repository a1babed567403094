-- `characters::width` meets its contract. Assumes nothing.
use Rattle.characters.proofs.Encode.{encode_1, encode_2, encode_3, encode_4}
use Rattle.characters.proofs.width.Goals as goal

pub returns-then-code-lt128 : goal.returns-then-code-lt128
returns-then-code-lt128 c = rw (encode_1 _ c.if-code-lt128.true)

pub returns-then-code-lt2048 : goal.returns-then-code-lt2048
returns-then-code-lt2048 c = rw (encode_2 _ c.if-code-lt128.false c.if-code-lt2048.true)

pub returns-then-code-lt65536 : goal.returns-then-code-lt65536
returns-then-code-lt65536 c = rw (encode_3 _ c.if-code-lt2048.false c.if-code-lt65536.true)

pub returns : goal.returns
returns c = rw (encode_4 _ c.if-code-lt65536.false)
