-- Where an answer is no refusal, the promise of the call below holds.
-- Assumes nothing.
use Prim.Native.Nat.{ℕ, ◌≤◌}
use native.Mathlib.Omega.{arith}
use mathlib.Core.Path.{◌≡◌, ap}
use mathlib.Core.List.{List}
use Rattle.std.specs.Prelude.{Ok}
use Rattle.error.specs.Causes.{too_long}
use Rattle.error.specs.Promise.{cause_number, refusal_of}
use Rattle.error.specs.declared.Refusal.{Refusal}
use Rattle.reader.specs.declared.blocks.Extent.{Extent}
use Rattle.calls.specs.Promise.{ReadTo, NormalTo}
use Rattle.calls.specs.Demands.{OwnAgain}
use Rattle.hemvuda.specs.declared.Answer.{Answer}
use Rattle.hemvuda.specs.Answers.{refusal_answer, said_answer}
use Rattle.hemvuda.specs.Demands.{KeepsRead, KeepsNormal}

-- a refusal's cause is not 0
pub refuses : {a : Answer} (f : Refusal) → a ≡ refusal_answer (refusal_of f) → too_long ≤ cause_number f.cause → a.cause ≡ 0 → ⊥
refuses f e h z = let c = ap (λ (b : Answer). b.cause) e in omega arith

module _ (s rs ts rs₁ ts₁ : List ℕ) {a : Answer} where
  pub keeps_read : (e : Extent) → ReadTo s rs ts (Ok e) rs₁ ts₁ → a ≡ said_answer e.words e.bytes → KeepsRead s rs ts a rs₁ ts₁
  keeps_read e r q = rw q r

  pub keeps-normal : (out out₁ : List ℕ) (n : ℕ) → NormalTo s rs ts out (Ok n) rs₁ ts₁ out₁ → OwnAgain s rs ts out (Ok n) out₁ → a ≡ said_answer n 0 → KeepsNormal s rs ts out a rs₁ ts₁ out₁
  keeps-normal out out₁ n r o q = rw q (r, o)
