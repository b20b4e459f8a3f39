-- Proves that the check is made for the job of the key. The key's lists are read twice: the first reading counts their rows, and the second fills the
-- buffers, whose first places then hold the job's two lists.
-- Assumes nothing.
use Prim.Native.Nat.{ℕ, ◌+◌, ◌≤◌}
use mathlib.Core.Path.{◌≡◌, sym, subst, ◌∙◌}
use mathlib.Core.List.{List}
use native.Mathlib.Omega.{arith}
use lib.ListN.{length, take, replicate, length-replicate}
use Rattle.papers.specs.Bounds.{program_columns, program_rows}
use Rattle.papers.specs.Lists.{flat, starts_counted_from}
use Rattle.papers.specs.Job.{job_of}
use Rattle.papers.specs.Numbers.{Read, got}
use Rattle.papers.specs.Key.{lists_read_from}
use Rattle.papers.specs.Check.{checked}
use Rattle.papers.specs.Text.{buffers}
use Rattle.papers.specs.Call.{solver_answer}
use Rattle.papers.specs.declared.Answer.{Answer}
use Rattle.papers.specs.declared.JobHead.{JobHead}
use Rattle.list_laws.proofs.Stores.{length-starts, stored-at-start}
use Rattle.bytes_laws.proofs.Fields.{got-inj, got-bad}
use Rattle.bytes_laws.proofs.Reaches.{lists-reach}
use Rattle.call_laws.proofs.Called.{call_fits}
use Rattle.std.proofs.Common.{Result, Ok, Err}
use Rattle.refusals.specs.declared.Fault.{Fault}
use Rattle.read_fields.specs.Reading.{Told}
use Rattle.read_plan.specs.Plans.{ListsKept}
use Rattle.read_key.specs.Keys.{KeyParts}

-- a part that fits is kept
kept_there : {A : Type 0} (f : A → ℕ) (Kept : A → Type 0) {found : Read A} (r : Result (ℕ × ℕ) Fault) {a : A} {next : ℕ} → Told f Kept found r
    → found ≡ got a next → Kept a
kept_there f Kept (Ok answered) t h = subst Kept (got-inj (sym t.read ∙ h)).0 t.kept
kept_there f Kept (Err fault) t h = absurd (got-bad h t)

module _ {key : List ℕ} {head : JobHead} {count at : ℕ} (parts : KeyParts key head count at) (few : head.n ≤ program_columns)
    (short : count ≤ program_rows) (starts rows : List ℕ) (r : Result (ℕ × ℕ) Fault)
    (told : Told (λ lists. length (flat lists)) (ListsKept (replicate (program_columns + 1) 0) starts (replicate program_rows 0) rows)
    (lists_read_from head.n 1 head.n key at) r) where
  starts-stored : take (head.n + 1) starts ≡ starts_counted_from 0 parts.lists
  starts-stored =
      let c = (lists-reach head.n key 1 head.n at parts.lists parts.end parts.stand).0 in
      let l = length-starts 0 parts.lists in
      let q : head.n + 1 ≡ length (starts_counted_from 0 parts.lists) = omega arith in
      rw ((kept_there _ _ _ told parts.stand).begins, q) (stored-at-start (replicate (program_columns + 1) 0) (starts_counted_from 0 parts.lists)
      (rw length-replicate (omega arith)))

  rows-stored : take count rows ≡ flat parts.lists
  rows-stored =
      let c = parts.counted in
      rw ((kept_there _ _ _ told parts.stand).listed, c) (stored-at-start (replicate program_rows 0) (flat parts.lists)
      (rw length-replicate (omega arith)))

  -- the check's answer is the call's
  pub key-answer : (plan : List ℕ) {a : Answer} → a ≡ (checked (job_of head (take (head.n + 1) starts) (take count rows)) plan buffers).answered
      → a ≡ solver_answer (record { key = key; plan = plan })
  key-answer plan e =
      let c = parts.counted in
      e ∙ rw (starts-stored, rows-stored) (sym (call_fits _ parts.whole few (omega arith)))
