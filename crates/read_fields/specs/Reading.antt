-- Defines what the answer of a reader stands for, and what it keeps of a part in a lent slice. For a part at fault it promises nothing of what is
-- kept.
-- Assumes nothing.
use Rattle.std.specs.Prelude.{ℕ, ◌≡◌, Result, Ok, Err}
use Rattle.papers.specs.Numbers.{Read, got, bad}
use Rattle.refusals.specs.Answers.{number_of}
use Rattle.refusals.specs.declared.Fault.{Fault}

-- a fault, as what reading finds
abbrev pub bad_from_fault : {A : Type 0} → Fault → Read A
bad_from_fault fault = bad (number_of fault.refusal) fault.place

-- what reading finds, by the answer of a field's reader: a value and the place behind it, or a fault
abbrev pub read_from_result : Result (ℕ × ℕ) Fault → Read ℕ
read_from_result (Ok found) = got found.0 found.1
read_from_result (Err fault) = bad_from_fault fault

-- a part is read, up to next, and kept: f gives its number, and `Kept` tells what the lent slices then hold
pub record PartFound {A : Type 0} (f : A → ℕ) (Kept : A → Type 0) (found : Read A) (v next : ℕ) : Type 0 where
  pub part : A
  pub read : found ≡ got part next
  pub value : v ≡ f part
  pub kept : Kept part

-- the answer for a part that is also kept: its number and the place behind it, or its fault
abbrev pub Told : {A : Type 0} → (A → ℕ) → (A → Type 0) → Read A → Result (ℕ × ℕ) Fault → Type 0
Told f Kept found (Ok answered) = PartFound f Kept found answered.0 answered.1
Told f Kept found (Err fault) = found ≡ bad_from_fault fault
