-- The line of a refusal is short, and all ASCII.
-- Assumes nothing.
use Rattle.std.proofs.Common.{◌≡◌, ℕ, zero, suc, ◌+◌, ◌/◌, ◌%◌, ◌≤◌, ◌<◌, List, [], ◌∷◌, length, take, drop, length-append, ap, ◌∙◌, rules, arith}
use Rattle.std.proofs.Math.Seq.{take_at}
use Rattle.std.proofs.lemmas.Bool.{ltb-true}
use Rattle.std.proofs.lemmas.Str.{IsAscii-append, IsUtf8-from_ascii}
use Rattle.std.proofs.lemmas.Str.Ascii.{IsAscii-cons}
use Rattle.std.proofs.Math.Dec.{ltb}
use Rattle.basics.proofs.Tests.{cases}
use Rattle.std.specs.Str.{IsAscii, IsUtf8}
use Rattle.basics.specs.Basics.{letters}
use Rattle.error.specs.Lines.{Refusal}
use Rattle.output.specs.Promise.{Wrote}
use Rattle.grammar.specs.Program.{decimal_from, refusal_line}
use Rattle.printing.proofs.Decimals.{digits-few, line-parts}

-- what was written stands at the front, where it fits
pub front-written : {t old new : List ℕ} {n : ℕ} → Wrote t old new n → n ≤ length old → take n new ≡ t
front-written {t} {old} {new} {n} w h = ap (take n) (w.holds h) ∙ take_at t (drop n old) n (omega (arith, w.counts))

pub line-few : (r : Refusal) → length (refusal_line r) ≤ 107
line-few r =
    rw (← line-parts r)
    (simp length-append (omega (arith, digits-few 20 r.cause [], digits-few 20 r.place [], digits-few 20 r.line [], digits-few 20 r.column [])))

-- so are the digits of any number, and what follows
decimal-ascii : (k n : ℕ) (rest : List ℕ) → IsAscii rest → IsAscii (decimal_from k n rest)
unfolding decimal_from
decimal-ascii zero n rest a = a
decimal-ascii (suc k) n rest a =
    cases (ltb n 10)
    (λ e. let h : n < 10 = ltb-true n 10 e in rw (decimal_from, e) (IsAscii-cons (0x30 + n) rest (omega arith) a))
    (λ e. rw (decimal_from, e) (decimal-ascii k (n / 10) ((0x30 + n % 10) ∷ rest) (IsAscii-cons (0x30 + n % 10) rest (omega arith) a)))

pub line-utf8 : (r : Refusal) → IsUtf8 (refusal_line r)
unfolding refusal_line
line-utf8 r =
    IsUtf8-from_ascii _
    (IsAscii-append (letters "refused ") _ (search rules)
    (decimal-ascii 20 r.cause _
    (IsAscii-append (letters " at ") _ (search rules)
    (decimal-ascii 20 r.place _
    (IsAscii-append (letters " line ") _ (search rules)
    (decimal-ascii 20 r.line _
    (IsAscii-append (letters " column ") _ (search rules)
    (decimal-ascii 20 r.column _ (search rules)))))))))
