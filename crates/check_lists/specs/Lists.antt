-- Defines the lists of a plan as two slices hold them, and the first of them that is wrong.
-- Assumes nothing.
use Rattle.std.specs.Prelude.{ℕ, ◌+◌, ◌-◌, ◌≤◌, ◌≡◌, Bool, not, List, [], map, length, get_or, take, Option, None}
use Rattle.std.proofs.lemmas.List.Edits.{sets}
use Rattle.papers.specs.Plan.{ListsFit}
use Rattle.papers.specs.Bounds.{work_length_for}
use Rattle.papers.specs.Lists.{same, least, up_to, flat, starts_counted_from}
use Rattle.papers.specs.Job.{Pattern}
use Rattle.papers.specs.Fill.{R}
use Rattle.papers.specs.Tree.{parent}
use Rattle.column_laws.specs.Tested.{Tested}
use Rattle.refusals.specs.Answers.{place_if_any}

-- the first places of two slices hold a plan's lists, one for each of n columns, in their ranges
pub record PlanLists (n : ℕ) (lists : List (List ℕ)) (fstarts frows : List ℕ) : Type 0 where
  pub count : length lists ≡ n
  pub fit : ListsFit n 1 lists
  pub starts-are : take (n + 1) fstarts ≡ starts_counted_from 0 lists
  pub rows_are : take (length (flat lists)) frows ≡ flat lists

-- two slices hold some plan's lists
pub record HoldLists (n : ℕ) (fstarts frows : List ℕ) : Type 0 where
  pub lists : List (List ℕ)
  pub are : PlanLists n lists fstarts frows

-- tests whether the list of column j differs from R(j)
abbrev pub wrong : Pattern → List (List ℕ) → ℕ → Bool
wrong A lists j = not (same (get_or lists (j - 1) []) (R A j))

-- r is the first column whose list is wrong, of the lists that the slices hold, if there is one
abbrev pub FirstWrong : ℕ → Pattern → List ℕ → List ℕ → Option ℕ → Type 0
FirstWrong n A fstarts frows r = (lists : List (List ℕ)) → PlanLists n lists fstarts frows → r ≡ place_if_any (least (wrong A lists) n)

-- a tested job, two slices that hold some plan's lists, and other slices that are long enough
pub record ListsComparable (n : ℕ) (starts rows fstarts frows parents work : List ℕ) : Type 0 where
  pub tested : Tested n starts rows
  pub listed : HoldLists n fstarts frows
  pub parents-long : n ≤ length parents
  pub work-long : work_length_for n ≤ length work

-- r is the first wrong list, if there is one; if there is none, the parents are stored
pub record ListsCompared (n : ℕ) (A : Pattern) (fstarts frows parents₀ parents : List ℕ) (r : Option ℕ) : Type 0 where
  pub answers : FirstWrong n A fstarts frows r
  pub stores : r ≡ None → parents ≡ sets parents₀ 0 (map (parent A) (up_to n))
