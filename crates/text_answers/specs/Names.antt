-- Defines when a text names a job, by its lines alone.
-- Assumes nothing.
use Rattle.std.specs.Prelude.{ℕ, ◌≡◌, List, length}
use Rattle.papers.specs.declared.JobHead.{JobHead}
use Rattle.papers.specs.Text.{HeadLine, RowLines}

-- the head of the job is line 1, and its lists are the row lines
pub record Names (text : List ℕ) (head : JobHead) (lists : List (List ℕ)) : Type 0 where
  pub first-line : HeadLine text head
  pub columns : length lists ≡ head.n
  pub row-lines : RowLines text 2 lists
