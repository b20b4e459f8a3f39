-- Defines what the reader of a key answers. A key with any fault is unreadable, so the answer tells neither the number nor the place of the fault.
-- Assumes nothing.
use Rattle.std.specs.Prelude.{ℕ, ◌≤◌, ◌≡◌, List, length, Option, Some, None, Result, Ok, Err}
use Rattle.papers.specs.Bounds.{edition, max_columns, max_mark, max_limit}
use Rattle.papers.specs.Lists.{flat, starts_counted_from}
use Rattle.papers.specs.Job.{job_of}
use Rattle.papers.specs.Numbers.{Read, got, bad, then, field}
use Rattle.papers.specs.Key.{lists_read_from, key_read_from}
use Rattle.papers.specs.declared.JobHead.{JobHead}
use Rattle.refusals.specs.declared.Fault.{Fault}
use Rattle.read_fields.specs.Reading.{bad_from_fault}
use Rattle.read_key.specs.declared.KeyFound.{KeyFound}

-- ---- the numbers before the lists

-- reads mark and limit, behind the size n
unfoldable pub mark_read_from : ℕ → List ℕ → ℕ → Read JobHead
mark_read_from n s at =
    then (field 0 max_mark s at) λ mark at. then (field 0 max_limit s at) λ limit at. got (record { n = n; mark = mark; limit = limit }) at

-- reads edition, size, mark and limit
unfoldable pub head_read_from : List ℕ → Read JobHead
head_read_from s = then (field edition edition s 0) λ e at. then (field 0 max_columns s at) λ n at. mark_read_from n s at

-- the answer for them: the head and the place behind it, or the fault
abbrev pub HeadTold : Read JobHead → Result (JobHead × ℕ) Fault → Type 0
HeadTold found (Ok answered) = found ≡ got answered.0 answered.1
HeadTold found (Err fault) = found ≡ bad_from_fault fault

-- ---- the lists

-- the lists of n columns are counted from a place within the key
pub record CountAsked (key : List ℕ) (at n : ℕ) : Type 0 where
  pub inside : at ≤ length key
  pub few : n ≤ max_columns

-- ---- the whole key

-- the key reads through as the job of this head and of lists that begin at `at` and have this many rows
pub record KeyParts (key : List ℕ) (head : JobHead) (rows at : ℕ) : Type 0 where
  pub lists : List (List ℕ)
  pub end : ℕ
  pub whole : key_read_from key ≡ got (job_of head (starts_counted_from 0 lists) (flat lists)) end
  pub stand : lists_read_from head.n 1 head.n key at ≡ got lists end
  pub counted : rows ≡ length (flat lists)
  pub few : head.n ≤ max_columns
  pub inside : at ≤ length key

-- the answer for a key: the parts that it reads through as, or None for any fault
abbrev pub KeyTold : List ℕ → Option KeyFound → Type 0
KeyTold key (Some found) = KeyParts key found.head found.rows found.lists
KeyTold key None = (number : ℕ) × (place : ℕ) × (key_read_from key ≡ bad number place)
