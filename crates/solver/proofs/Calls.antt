-- Proves the number answered for each way out: 27 for a key that does not read through, 26 for one over the sizes, else the check's answer, whose
-- number and place together fit 64 bits.
-- Assumes nothing.
use Prim.Native.Nat.{ℕ, ◌+◌, ◌*◌, ◌^◌, ◌<◌}
use mathlib.Core.Path.{◌≡◌, sym, ap}
use mathlib.Core.Logic.{◌⊎◌}
use mathlib.Core.List.{List}
use Rattle.papers.specs.Bounds.{program_columns, program_rows}
use Rattle.papers.specs.Numbers.{bad}
use Rattle.papers.specs.Key.{key_read_from}
use Rattle.papers.specs.Call.{solver_answer, called}
use Rattle.papers.specs.declared.Answer.{Answer}
use Rattle.papers.specs.declared.JobHead.{JobHead}
use Rattle.call_laws.proofs.Bounded.{Within}
use Rattle.call_laws.proofs.Called.{call-unreadable, call-over, call-bounded}
use Rattle.read_key.specs.Keys.{KeyParts}

module _ (key plan : List ℕ) where
  -- the number that the call answers
  called-by : {a : Answer} → solver_answer (record { key = key; plan = plan }) ≡ a → a.number * 2 ^ 32 + a.place ≡ called key plan
  unfolding called
  called-by e = ap (λ (a : Answer). a.number * 2 ^ 32 + a.place) (sym e)

  pub unreadable-is-27 : {number place : ℕ} → key_read_from key ≡ bad number place → 27 * 2 ^ 32 ≡ called key plan
  unreadable-is-27 e = called-by (call-unreadable _ e)

  pub over-is-26 : {head : JobHead} {count at : ℕ} → KeyParts key head count at → (program_columns < head.n) ⊎ (program_rows < count)
      → 26 * 2 ^ 32 ≡ called key plan
  over-is-26 parts h = called-by (call-over _ parts.whole (rw parts.counted at h))

  module _ {a : Answer} (e : a ≡ solver_answer (record { key = key; plan = plan })) where
    pub answer-bounded : Within 27 (2 ^ 20) a
    answer-bounded = rw e (call-bounded (record { key = key; plan = plan }))

    pub answer-called : a.number * 2 ^ 32 + a.place ≡ called key plan
    answer-called = called-by (sym e)
