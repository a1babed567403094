-- The laws of the loop, for code that turns as it does: from turn to turn the whole stays what it is, and the turns left are enough.
-- Assumes nothing.
use Prim.Native.Nat.{ℕ, zero, suc, ◌+◌, ◌<◌}
use native.Mathlib.Omega.{arith}
use mathlib.Core.Path.{◌≡◌, refl, ◌∙◌}
use mathlib.Core.List.{List, [], ◌∷◌, ◌++◌}
use mathlib.Core.Option.{Option, none, some}
use Rattle.lexer.specs.Tokens.{Tokens}
use Rattle.notation.specs.Parser.{Answer, read, refused, Parser, and_then, ◌>>=◌, pure, size, turns, loop, separate, nothing}

-- those before are found, and the whole is what the turns left give from ts on. There are d turns more than tokens.
pub record Loop {A : Type 0} (step : List A → Parser ℕ (Option A)) (whole : Answer ℕ (List A)) (d : ℕ) (before : List A) (ts : Tokens ℕ) : Type 0 where
  pub left : ℕ
  pub enough : size ts + d < left
  pub so_far : whole ≡ turns left step before ts

module _ {A : Type 0} (step : List A → Parser ℕ (Option A)) where
  module _ (n : ℕ) (before : List A) (ts : Tokens ℕ) where
    turn-found : (us : Tokens ℕ) (a : A) → step before ts ≡ read (some a) us → turns (suc n) step before ts ≡ turns n step (before ++ a ∷ []) us
    unfolding turns ◌>>=◌ and_then
    turn-found us a e = rw (turns, e)

    turn-over : (us : Tokens ℕ) → step before ts ≡ read none us → turns (suc n) step before ts ≡ read before us
    unfolding turns ◌>>=◌ and_then pure
    turn-over us e = rw (turns, e)

    turn-refused : (c p : ℕ) → step before ts ≡ refused c p → turns (suc n) step before ts ≡ refused c p
    unfolding turns ◌>>=◌ and_then
    turn-refused c p e = rw (turns, e)

  pub loop-start : (ts : Tokens ℕ) → Loop step (loop step ts) 1 [] ts
  unfolding loop
  loop-start ts = record { left = suc (suc (size ts)); enough = omega arith; so_far = refl }

  module _ {whole : Answer ℕ (List A)} {d : ℕ} {before : List A} {ts : Tokens ℕ} where
    -- an item was found: the loop goes on behind it
    pub loop-turn : Loop step whole d before ts → {a : A} {us : Tokens ℕ} → step before ts ≡ read (some a) us → (k : ℕ) → size us + k < size ts + d
        → Loop step whole k (before ++ a ∷ []) us
    loop-turn l {a} {us} e k h = go l.left l.enough l.so_far
      where
        go : (n : ℕ) → size ts + d < n → whole ≡ turns n step before ts → Loop step whole k (before ++ a ∷ []) us
        go zero lt q = absurd (omega arith)
        go (suc n) lt q = record { left = n; enough = omega arith; so_far = q ∙ turn-found n before ts us a e }

    -- none was found: the whole is read
    pub loop-end : Loop step whole d before ts → {us : Tokens ℕ} → step before ts ≡ read none us → whole ≡ read before us
    loop-end l {us} e = go l.left l.enough l.so_far
      where
        go : (n : ℕ) → size ts + d < n → whole ≡ turns n step before ts → whole ≡ read before us
        go zero lt q = absurd (omega arith)
        go (suc n) lt q = q ∙ turn-over n before ts us e

    -- a turn is refused: so is the whole
    pub loop-refused : Loop step whole d before ts → {c p : ℕ} → step before ts ≡ refused c p → whole ≡ refused c p
    loop-refused l {c} {p} e = go l.left l.enough l.so_far
      where
        go : (n : ℕ) → size ts + d < n → whole ≡ turns n step before ts → whole ≡ refused c p
        go zero lt q = absurd (omega arith)
        go (suc n) lt q = q ∙ turn-refused n before ts c p e

pub separate-nothing : {A : Type 0} (before : List A) (ts : Tokens ℕ) → separate nothing before ts ≡ read tt ts
unfolding separate pure
separate-nothing [] ts = refl
separate-nothing (x ∷ before) ts = refl
